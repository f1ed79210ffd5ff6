use Rattle.std.proofs.Common.{◌≡◌, ◌∙◌, ap, sym, subst, map, IsUtf8}
use Rattle.std.proofs.lemmas.Bool.{false≢true}
use Rattle.purl_types.proofs.FoldLaws.{dashed_utf8}
use Rattle.purl_types.proofs.Letters.{dashed_byte, dashed_is}
use Rattle.purl_types.proofs.folding.dash_copy.Goals as goal

pub returns : goal.returns
returns c =
    c.from_string.ensures ∙ ap (λ v. v.items) c.in-Ok.ensures.ok ∙ c.in_ok-bytes.ensures ∙ ap (map dashed_byte) c.as_bytes.ensures.value ∙ sym (dashed_is c.args.text.now)

pub unreachable-requires : goal.unreachable-requires
unreachable-requires c =
    let is : c.in_ok-bytes.bytes.items ≡ map dashed_byte c.args.text.now = c.in_ok-bytes.ensures ∙ ap (map dashed_byte) c.as_bytes.ensures.value in
    false≢true (c.in-Err.ensures.succeeds (subst IsUtf8 (sym is) (dashed_utf8 c.args.text.now c.utf8.text)))
