-- The pieces are those that texts are cut into.
use Rattle.std.proofs.Common.{◌≡◌, ◌≢◌, ◌<◌, ◌≤◌, ◌+◌, ◌-◌, ◌==◌, ◌++◌, ℕ, Bool, false, List, [], ◌∷◌, length, take, reverse, refl, sym, ap, ◌∙◌, subst, inl, inr, arith, length-append, length-drop, append_assoc}
use Rattle.std.specs.List.{prefix_len, suffix_len, slice_split}
use Rattle.std.proofs.lemmas.Bool.{cases_Bool, ne_eqb, eq-eqb}
use Rattle.std.proofs.lemmas.List.{length-take-le, length-reverse, reverse-append}
use Rattle.std.proofs.lemmas.List.Sums.{prefix_len-le-length}
use Rattle.vx_spec.specs.Each.{AreEach}
use Rattle.vx_spec.specs.Runs.{is_blank, begins, past, without_end}
use Rattle.vx_spec.proofs.RunLaws.{past_begins, run_past}
use Rattle.vx_text.specs.Pieces.{places}
use Rattle.vx_text.specs.Pieces as texts
use Rattle.vx_range.specs.Lists.{piece_place, piece_of, pieces_of, pieces_at, IsPlaced}

-- a byte that does not pass ends the front
stops_at : (test : ℕ → Bool) (xs : List ℕ) (b : ℕ) (ys : List ℕ) → test b ≡ false → prefix_len test (xs ++ b ∷ ys) ≤ length xs
stops_at test [] b ys fails = rw fails (omega arith)
stops_at test (x ∷ xs) b ys fails = elim (cases_Bool (test x)) [
  | inl is ↦ rw is (omega (arith, stops_at test xs b ys fails))
  | inr other ↦ rw other (omega arith)
]

-- and what follows behind it counts for nothing
stops_alike : (test : ℕ → Bool) (xs : List ℕ) (b : ℕ) (ys : List ℕ) → test b ≡ false → prefix_len test (xs ++ b ∷ ys) ≡ prefix_len test (xs ++ b ∷ [])
stops_alike test [] b ys fails = rw fails refl
stops_alike test (x ∷ xs) b ys fails = elim (cases_Bool (test x)) [
  | inl is ↦ rw is (omega (arith, stops_alike test xs b ys fails))
  | inr other ↦ rw other refl
]

reversed : (b : ℕ) (ys : List ℕ) → reverse (b ∷ ys) ≡ reverse ys ++ b ∷ []
reversed b ys = reverse-append (b ∷ []) ys

-- the blanks at the end of a text are those behind its first byte that is no blank
end_blanks : (front : List ℕ) (b : ℕ) (rest : List ℕ) → is_blank b ≡ false → (suffix_len is_blank (front ++ b ∷ rest) ≡ suffix_len is_blank (b ∷ rest)) × (suffix_len is_blank (b ∷ rest) ≤ length rest)
end_blanks front b rest solid =
    let whole' : reverse (front ++ b ∷ rest) ≡ reverse rest ++ (b ∷ reverse front) = reverse-append front (b ∷ rest) ∙ ap (λ t. t ++ reverse front) (reversed b rest) ∙ append_assoc (reverse rest) (b ∷ []) (reverse front) in (
      ap (prefix_len is_blank) whole' ∙ stops_alike is_blank (reverse rest) b (reverse front) solid ∙ sym (ap (prefix_len is_blank) (reversed b rest)),
      rw (reversed b rest) (omega (arith, stops_at is_blank (reverse rest) b [] solid, length-reverse rest)),
    )

-- the two ends of the piece of a part that is not blank
solid_piece : (at n : ℕ) (front : List ℕ) (b : ℕ) (rest : List ℕ) → is_blank b ≡ false → length front ≡ n
    → IsPlaced (record { start = at + n; end = at + (length (front ++ b ∷ rest) - suffix_len is_blank (front ++ b ∷ rest)) }) (record { kind = tt; at = at + n; bytes = take (length (b ∷ rest) - suffix_len is_blank (b ∷ rest)) (b ∷ rest) })
solid_piece at n front b rest solid size =
    let ends = end_blanks front b rest solid in
    let kept = length-take-le (length (b ∷ rest) - suffix_len is_blank (b ∷ rest)) (b ∷ rest) (omega arith) in
    (refl, omega (arith, ends.0, ends.1, kept, size, length-append front (b ∷ rest)))

place_some : (at : ℕ) (part bytes : List ℕ) → 0 < length bytes → piece_place at part bytes ≡ at + prefix_len is_blank part
place_some at part [] some = absurd (omega (arith, some))
place_some at part (b ∷ bytes) some = refl

placed_by : (at : ℕ) (part behind : List ℕ) → past is_blank part ≡ behind → IsPlaced (texts.piece_of at part) (piece_of at part)
placed_by at part [] e =
    let size = length-drop (prefix_len is_blank part) part in
    let least = prefix_len-le-length is_blank part in
    let all : prefix_len is_blank part ≡ length part = omega (arith, size, least, ap length e) in
    rw (eq-eqb (prefix_len is_blank part) (length part) all, e) (refl, omega arith)
placed_by at part (b ∷ rest) e =
    let n = prefix_len is_blank part in
    let size = length-drop n part in
    let some : n ≢ length part = omega (arith, size, ap length e) in
    let solid : is_blank b ≡ false = ap (begins is_blank) (sym e) ∙ past_begins is_blank part in
    let front : length (take n part) ≡ n = length-take-le n part (prefix_len-le-length is_blank part) in
    let split : part ≡ take n part ++ b ∷ rest = run_past is_blank part ∙ ap (λ (t : List ℕ). take n part ++ t) e in
    let kept = take (length (b ∷ rest) - suffix_len is_blank (b ∷ rest)) (b ∷ rest) in
    let placed = solid_piece at n (take n part) b rest solid front in
    let here : IsPlaced (record { start = at + n; end = at + (length part - suffix_len is_blank part) }) (record { kind = tt; at = at + n; bytes = kept }) =
    subst (λ (p : List ℕ). IsPlaced (record { start = at + n; end = at + (length p - suffix_len is_blank p) }) (record { kind = tt; at = at + n; bytes = kept })) (sym split) placed in
    let long : length kept ≡ length (b ∷ rest) - suffix_len is_blank (b ∷ rest) = length-take-le _ (b ∷ rest) (omega arith) in
    let place = place_some at part kept (omega (arith, long, (end_blanks (take n part) b rest solid).1)) in
    rw (ne_eqb n (length part) some)
    (subst (λ (t : List ℕ). IsPlaced (record { start = at + n; end = at + (length part - suffix_len is_blank part) }) (record { kind = tt; at = piece_place at part t; bytes = t })) (sym (ap (without_end is_blank) e))
    (subst (λ i. IsPlaced (record { start = at + n; end = at + (length part - suffix_len is_blank part) }) (record { kind = tt; at = i; bytes = kept })) (sym place) here))

placed_all : (at : ℕ) (parts : List (List ℕ)) → AreEach IsPlaced (places at parts) (pieces_of at parts)
placed_all at [] = tt
placed_all at (part ∷ parts) = (placed_by at part (past is_blank part) refl, placed_all (at + length part + 1) parts)

pub pieces_placed : (separator at : ℕ) (text : List ℕ) → AreEach IsPlaced (places at (slice_split (λ b. b == separator) text)) (pieces_at separator at text)
pieces_placed separator at text = placed_all at (slice_split (λ b. b == separator) text)
