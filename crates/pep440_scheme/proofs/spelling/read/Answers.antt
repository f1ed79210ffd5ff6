use Rattle.std.proofs.Common.{◌∙◌, ap, sym}
use Rattle.vx_scheme.proofs.GivingLaws.{refuses_by_giving}
use Rattle.pep440_scheme.specs.Version.{IsWithin}
use Rattle.pep440_scheme.specs.Spelling.{Spells}
use Rattle.pep440_scheme.specs.Steps.Apart.{apart, fields_of}
use Rattle.pep440_scheme.specs.Steps.Written.{parts}
use Rattle.pep440_scheme.proofs.Found.{given, no_parts, spelled_parts, taken_parts}
use Rattle.pep440_scheme.proofs.spelling.read.Goals as goal

pub returns-then-not-has_form-clause-err : goal.returns-then-not-has_form-clause-err
returns-then-not-has_form-clause-err c =
    no_parts c.args.text.now (parts c.cut_apart-written.result) (c.cut_apart-written.ensures ∙ ap apart c.as_bytes.ensures.value) (sym c.has_form.ensures ∙ c.if-not-has_form.true)

pub version_of_parts-requires : goal.version_of_parts-requires
version_of_parts-requires c =
    taken_parts c.args.text.now (parts c.cut_apart-written.result) (c.cut_apart-written.ensures ∙ ap apart c.as_bytes.ensures.value) (sym c.has_form.ensures ∙ c.if-not-has_form.false)

pub returns-clause-ok : goal.returns-clause-ok
returns-clause-ok c =
    let taken = parts c.cut_apart-written.result in
    let spelled = spelled_parts c.args.text.now taken (c.cut_apart-written.ensures ∙ ap apart c.as_bytes.ensures.value) (sym c.has_form.ensures ∙ c.if-not-has_form.false) in
    given Spells IsWithin c.args.text.now (fields_of taken) spelled c.version_of_parts.result c.version_of_parts.ensures

pub returns-clause-err : goal.returns-clause-err
returns-clause-err c =
    let taken = parts c.cut_apart-written.result in
    let spelled = spelled_parts c.args.text.now taken (c.cut_apart-written.ensures ∙ ap apart c.as_bytes.ensures.value) (sym c.has_form.ensures ∙ c.if-not-has_form.false) in
    refuses_by_giving Spells IsWithin c.args.text.now (fields_of taken) spelled c.version_of_parts.result c.version_of_parts.ensures
