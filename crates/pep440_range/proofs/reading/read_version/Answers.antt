use Rattle.std.proofs.Common.{sym, ◌∙◌}
use Rattle.vx_scheme.specs.Scheme.{SpellsPastLimit}
use Rattle.pep440_scheme.specs.Version.{IsWithin}
use Rattle.pep440_scheme.specs.Spelling.{Spells}
use Rattle.pep440_scheme.proofs.Bytes.{spelled_utf8}
use Rattle.pep440_scheme.proofs.PastLaws.{limits_agree}
use Rattle.pep440_range.proofs.OperandLaws.{not_met}
use Rattle.pep440_range.proofs.reading.read_version.Goals as goal

pub returns-in_default : goal.returns-in_default
returns-in_default c = λ v is. c.in_default.ensures.cases.0 (spelled_utf8 c.args.bytes.now v is.spelled)

pub returns-then-not-is_met : goal.returns-then-not-is_met
returns-then-not-is_met c =
    let spelled : Spells c.args.bytes.now c.in-Ok-read.version = rw c.in-Ok.ensures.cases.0 at c.in-Ok-read.ensures.ok.0 in
    not_met c.args.asked c.args.bytes.now c.in-Ok-read.version spelled
    (sym (c.is_met.ensures c.in-Ok-read.version c.shape_of_version.ensures) ∙ c.if-not-is_met.true)

pub past_place-requires-clause-past : goal.past_place-requires-clause-past
past_place-requires-clause-past c =
    let p : SpellsPastLimit Spells IsWithin c.args.bytes.now = rw (c.in-Err-Numeral.field-0-is, c.in-Ok.ensures.cases.0) at c.in-Err-Numeral.ensures.err in
    λ none. p.past ((limits_agree c.args.bytes.now p.version c.args.at p.spelled).1 none)

pub returns-else-not-is_met : goal.returns-else-not-is_met
returns-else-not-is_met c =
    let spelled : Spells c.args.bytes.now c.in-Ok-read.version = rw c.in-Ok.ensures.cases.0 at c.in-Ok-read.ensures.ok.0 in (
      (
        c.in-Ok-read.version,
        record { spelled = spelled; met = sym (c.is_met.ensures c.in-Ok-read.version c.shape_of_version.ensures) ∙ c.if-not-is_met.false },
        c.construct_of.ensures,
      ),
      (limits_agree c.args.bytes.now c.in-Ok-read.version c.args.at spelled).0 c.in-Ok-read.ensures.ok.1,
    )

pub returns-in-Err-NotAVersion : goal.returns-in-Err-NotAVersion
returns-in-Err-NotAVersion c =
    λ v is. (rw (c.in-Err-NotAVersion.field-0-is, c.in-Ok.ensures.cases.0) at c.in-Err-NotAVersion.ensures.err) v is.spelled
