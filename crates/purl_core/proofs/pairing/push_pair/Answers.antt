use Rattle.std.proofs.Common.{◌∙◌, [], ◌∷◌, ap, sym, refl, subst, map, false, List, ℕ}
use Rattle.std.proofs.lemmas.List.{map-append}
use Rattle.vx_text.specs.Escapes.{unescaped}
use Rattle.vx_text.specs.Folding.{lowered}
use Rattle.purl_core.specs.declared.value.Pair.{Pair}
use Rattle.purl_core.specs.Value.{IsAboveLast, pair_view}
use Rattle.purl_core.specs.Steps.Pairing.{PutsPair}
use Rattle.purl_core.proofs.Put.{puts_last}
use Rattle.purl_core.proofs.SoFar.{puts_as}
use Rattle.purl_core.proofs.pairing.push_pair.Goals as goal

pub returns : goal.returns
returns c = λ told.
    let old = c.args.pairs.now in
    let decoded = rw c.in-Some.is at c.in_ok-value.ensures in
    let pair : Pair = record { key = c.from_string-key.result; value = c.in-Some.value } in
    let above = subst (IsAboveLast (map pair_view old)) c.as_str.ensures
    (subst (λ (l : List Pair). IsAboveLast (map pair_view l) c.as_str.result.now) c.as_slice.ensures.items (c.is_above_last.ensures c.if-not-is_above_last.false)) in
    let puts = puts_last (map pair_view old) (pair_view pair) c.as_slice.ensures.ascending above in
    let grown = ap (map pair_view) c.in_ok-push.ensures.ok ∙ map-append pair_view old (pair ∷ []) in (
      decoded.0,
      puts_as (map pair_view old) (map pair_view c.push.new.self) pair.key pair.value (lowered c.args.key.now) (unescaped c.args.value.now) false false
          (c.from_string-key.ensures ∙ c.in_ok-low_key.ensures) decoded.1 refl
          (subst (λ (l : List (List ℕ × List ℕ)). PutsPair (map pair_view old) l (pair_view pair) false) (sym grown) puts),
    )
