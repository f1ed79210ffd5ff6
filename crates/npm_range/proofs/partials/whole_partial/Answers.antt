use Rattle.std.proofs.Common.{sym, ◌∙◌, ap}
use Rattle.npm_scheme.specs.Version.{IsWithin, without_build}
use Rattle.npm_scheme.specs.Spelling.{version_of}
use Rattle.npm_scheme.specs.Written.{parts}
use Rattle.npm_scheme.proofs.PastLaws.{none_within, within_none}
use Rattle.npm_range.specs.declared.construct.Partial.TheVariants.{Full}
use Rattle.npm_range.proofs.partials.whole_partial.Goals as goal

pub unreachable-requires : goal.unreachable-requires
unreachable-requires c =
    let past : ¬ (IsWithin (without_build (version_of (parts c.args.written.now)))) = rw c.in-Err-Numeral.field-0-is at c.in-Err-Numeral.ensures in
    past (none_within (parts c.args.written.now) c.args.at c.requires.form (sym c.past_numeral.ensures ∙ c.in-None.is))

pub returns-in-Ok : goal.returns-in-Ok
returns-in-Ok c = (ap (λ v. Full v) c.in-Ok.ensures.0, within_none (parts c.args.written.now) c.args.at c.in-Ok.ensures.1)
