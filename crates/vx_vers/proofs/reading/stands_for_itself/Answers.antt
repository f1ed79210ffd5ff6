use Rattle.std.proofs.Common.{◌≡◌, ◌∙◌, true, ap, sym}
use Rattle.std.specs.List.{list_all}
use Rattle.vx_text.specs.Escapes.{is_left}
use Rattle.vx_vers.proofs.VersionLaws.{left_form, left_stands, plain_form}
use Rattle.vx_vers.proofs.reading.stands_for_itself.Goals as goal

pub returns-then-plain : goal.returns-then-plain
returns-then-plain c = λ _ some. plain_form c.args.raw.now (c.requires c.if-plain.true) c.utf8.raw some

pub returns-else-plain : goal.returns-else-plain
returns-else-plain c = λ t some.
    let left : list_all is_left c.args.raw.now ≡ true = ap (list_all is_left) (sym c.as_bytes.ensures.value) ∙ sym c.is_left.ensures ∙ t in
    (left_form c.args.raw.now left some, left_stands c.args.raw.now left)
