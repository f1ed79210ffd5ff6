use Rattle.std.proofs.Common.{◌++◌, ◌∙◌, ap, refl, arith, List, ℕ}
use Rattle.std.proofs.lemmas.List.Elements.{All-from_get_or}
use Rattle.percent_encoding.specs.Iter.{encoded_text}
use Rattle.percent_encoding.proofs.PercentLemmas.{IsByte}
use Rattle.vx_text.proofs.EscapeLaws.{escaped-is}
use Rattle.purl_core.proofs.Written.{grown_none}
use Rattle.purl_core.proofs.writing.push_escaped.Goals as goal

pub loop-piece-init : goal.loop-piece-init
loop-piece-init c =
    let small = All-from_get_or IsByte c.args.text.now 0 (λ i within. omega (arith, c.type_inv.text i)) in
    let same = ap encoded_text c.into_iter-piece-iterator.ensures.into_iter_gives ∙ c.utf8_percent_encode-piece-items.ensures.text ∙ escaped-is c.args.text.now small in
    record { written = ap (λ (t : List ℕ). c.args.out.now ++ t) same; grown = grown_none refl }
