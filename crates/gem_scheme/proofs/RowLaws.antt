-- The segments of a row at a place, and behind its end.
use Rattle.std.proofs.Common.{◌≡◌, ℕ, List, map, Some, None, sym, ap, ◌∙◌}
use Rattle.std.specs.List.{slice_get}
use Rattle.std.specs.Ordering.{ordering_reverse}
use Rattle.std.specs.Option.{option_map, unwrap_or}
use Rattle.std.proofs.lemmas.Option.{slice_get-map, unwrap_or-slice_get, get_or_from_slice_get}
use Rattle.vx_spec.specs.Places.{endless}
use Rattle.vx_scheme.specs.declared.ident.Ident.{Ident}
use Rattle.vx_order.specs.declared.letter.Letter.{Letter}
use Rattle.vx_order.specs.Letters.{letter_cmp}
use Rattle.vx_order.proofs.LetterLaws.{letter_total}
use Rattle.gem_scheme.specs.Order.{segment_letter}

pub row_some : (xs : List Ident) (i : ℕ) (x : Ident) (end : Letter) → Some x ≡ slice_get xs i → endless end (map segment_letter xs) i ≡ segment_letter x
row_some xs i x end at = get_or_from_slice_get (map segment_letter xs) i (segment_letter x) end (slice_get-map segment_letter xs i ∙ ap (option_map segment_letter) (sym at))

pub row_none : (xs : List Ident) (i : ℕ) (end : Letter) → None ≡ slice_get xs i → endless end (map segment_letter xs) i ≡ end
row_none xs i end at = sym (unwrap_or-slice_get (map segment_letter xs) i end) ∙ ap (λ o. unwrap_or o end) (slice_get-map segment_letter xs i ∙ ap (option_map segment_letter) (sym at))

-- the other way round
pub turned : (a b : Letter) → ordering_reverse (letter_cmp a b) ≡ letter_cmp b a
turned a b = sym (letter_total.antisymm b a)
