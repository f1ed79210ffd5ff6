-- A part is its piece with blanks on each side.
use Rattle.std.proofs.Common.{◌≡◌, ◌≢◌, ◌<◌, ◌≤◌, ◌+◌, ◌-◌, ◌++◌, eqb, ℕ, Bool, true, false, true≢false, List, [], ◌∷◌, length, get_or, take, drop, reverse, refl, sym, ap, ◌∙◌, arith, inl, inr, ⊎_elim}
use Rattle.std.specs.List.{list_all, prefix_len, suffix_len, slice_split}
use Rattle.std.proofs.lemmas.Bool.{cases_lt, cases_eq, ne_eqb, eq-eqb}
use Rattle.std.proofs.lemmas.List.{get_or-reverse, get_or-take, get_or-drop, take-append-drop, length-take-le, length-drop, length-reverse}
use Rattle.std.proofs.lemmas.List.Sums.{prefix_len-le-length, prefix_len_passes, prefix_len_stops, list_all-from_AllPass}
use Rattle.std.proofs.lemmas.List.Elements.{All-from_get_or}
use Rattle.std.proofs.lemmas.List.Splits.{join_with_byte-slice_split}
use Rattle.vx_spec.specs.Runs.{is_blank}
use Rattle.vx_text.specs.Pieces.{ArePieces, AreTheirPieces, IsPiece, piece_of, places}
use Rattle.vx_text.proofs.Joins.{split_lacks, split_some}

-- what passes at each index passes
all_at : (p : ℕ → Bool) (xs : List ℕ) → ((k : ℕ) → k < length xs → p (get_or xs k 0) ≡ true) → list_all p xs ≡ true
all_at p xs h = list_all-from_AllPass p xs (All-from_get_or (λ x. p x ≡ true) xs 0 h)

-- the bytes of a part, told by index: before n blanks, behind L - m blanks, and none at n or at L - m - 1
record IsTrimmed (part : List ℕ) (n m : ℕ) : Type 0 where
  within : n + m < length part
  before : (k : ℕ) → k < n → is_blank (get_or part k 0) ≡ true
  behind : (k : ℕ) → length part - m ≤ k → k < length part → is_blank (get_or part k 0) ≡ true
  first : is_blank (get_or part n 0) ≡ false
  last : is_blank (get_or part (length part - 1 - m) 0) ≡ false

trimmed : (part : List ℕ) → prefix_len is_blank part ≢ length part → IsTrimmed part (prefix_len is_blank part) (suffix_len is_blank part)
trimmed part other =
    let n = prefix_len is_blank part in
    let m = suffix_len is_blank part in
    let n_le : n ≤ length part = prefix_len-le-length is_blank part in
    let n_lt : n < length part = omega arith in
    let first : is_blank (get_or part n 0) ≡ false = prefix_len_stops is_blank part 0 n_lt in
    let before : (k : ℕ) → k < n → is_blank (get_or part k 0) ≡ true = λ k lt. prefix_len_passes is_blank part k 0 lt in
    let size : length (reverse part) ≡ length part = length-reverse part in
    let passes : (k : ℕ) → k < m → k < length part → is_blank (get_or part (length part - 1 - k) 0) ≡ true =
    λ k lt within. ap is_blank (sym (get_or-reverse part k 0 within)) ∙ prefix_len_passes is_blank (reverse part) k 0 lt in
    let m_le : m ≤ length part = omega (arith, prefix_len-le-length is_blank (reverse part), size) in
    let m_lt : m < length part = ⊎_elim (λ lt. lt)
    (λ ge.
    let at : length part - 1 - (length part - 1 - n) ≡ n = omega arith in
    absurd (true≢false (sym (passes (length part - 1 - n) (omega arith) (omega arith)) ∙ ap (λ i. is_blank (get_or part i 0)) at ∙ first)))
    (cases_lt m (length part)) in
    let last : is_blank (get_or part (length part - 1 - m) 0) ≡ false =
    ap is_blank (sym (get_or-reverse part m 0 m_lt)) ∙ prefix_len_stops is_blank (reverse part) 0 (omega (arith, size, m_lt)) in
    record {
      within = ⊎_elim (λ lt. lt)
          (λ ge. absurd (true≢false (sym (before (length part - 1 - m) (omega arith)) ∙ last)))
          (cases_lt (n + m) (length part));
      before = before;
      behind = λ k low high.
          let at : length part - 1 - (length part - 1 - k) ≡ k = omega arith in
          ap (λ i. is_blank (get_or part i 0)) (sym at) ∙ passes (length part - 1 - k) (omega arith) (omega arith);
      first = first;
      last = last;
    }

cut_out : (at : ℕ) (part : List ℕ) (n m : ℕ) → IsTrimmed part n m → IsPiece at part (record { start = at + n; end = at + (length part - m) })
cut_out at part n m t =
    let rest = drop n part in
    let size = length part - m - n in
    let within : n + m < length part = t.within in
    let long : length rest ≡ length part - n = length-drop n part in
    let front : length (take n part) ≡ n = length-take-le n part (omega arith) in
    let middle : length (take size rest) ≡ size = length-take-le size rest (omega arith) in
    let seam : n + size ≡ length part - m = omega arith in
    let tail : length (drop size rest) ≡ m = length-drop size rest ∙ omega arith in
    record {
      before = take n part;
      inside = take size rest;
      behind = drop size rest;
      joined = sym (ap (λ l. take n part ++ l) (take-append-drop size rest) ∙ take-append-drop n part);
      blank_before = all_at is_blank (take n part) (λ k lt.
          let below : k < n = omega arith in
          ap is_blank (get_or-take n part k 0 below) ∙ t.before k below);
      blank_behind = all_at is_blank (drop size rest) (λ k lt.
          ap is_blank (get_or-drop size rest k 0 ∙ get_or-drop n part (size + k) 0) ∙ t.behind (n + (size + k)) (omega arith) (omega arith));
      tight = record {
        first = λ some.
            let zero_at : n + 0 ≡ n = omega arith in
            ap is_blank (get_or-take size rest 0 0 (omega arith) ∙ get_or-drop n part 0 0) ∙ ap (λ i. is_blank (get_or part i 0)) zero_at ∙ t.first;
        last = λ some.
            let place : length (take size rest) - 1 ≡ size - 1 = omega arith in
            let from : n + (size - 1) ≡ length part - 1 - m = omega arith in
            ap (λ i. is_blank (get_or (take size rest) i 0)) place
            ∙ ap is_blank (get_or-take size rest (size - 1) 0 (omega arith) ∙ get_or-drop n part (size - 1) 0)
            ∙ ap (λ i. is_blank (get_or part i 0)) from ∙ t.last;
      };
      own_start = λ none. absurd (omega (arith, ap length none, middle));
      start = ap (λ i. at + i) (sym front);
      end = omega (arith, middle);
    }

blank_part : (part : List ℕ) → prefix_len is_blank part ≡ length part → list_all is_blank part ≡ true
blank_part part all = all_at is_blank part (λ k lt. prefix_len_passes is_blank part k 0 (omega arith))

pub piece_of_is : (at : ℕ) (part : List ℕ) → IsPiece at part (piece_of at part)
piece_of_is at part = elim (cases_eq (prefix_len is_blank part) (length part)) [
  | inl all ↦ rw (eq-eqb _ _ all) (record {
    before = [];
    inside = [];
    behind = part;
    joined = refl;
    blank_before = refl;
    blank_behind = blank_part part all;
    tight = record { first = λ some. absurd (omega arith); last = λ some. absurd (omega arith) };
    own_start = λ _. refl;
    start = omega arith;
    end = omega arith;
  })
  | inr other ↦ rw (ne_eqb _ _ other) (cut_out at part _ _ (trimmed part other))
]

pub places_are : (at : ℕ) (parts : List (List ℕ)) → AreTheirPieces at parts (places at parts)
places_are at [] = tt
places_are at (part ∷ parts) = (piece_of_is at part, places_are (at + length part + 1) parts)

-- the text is its pieces with what was left out put back
pub split_pieces : (c : ℕ) (text : List ℕ) → ArePieces c text (places 0 (slice_split (λ b. eqb b c) text))
split_pieces c text = record {
  parts = slice_split (λ b. eqb b c) text;
  some = split_some c text;
  joined = sym (join_with_byte-slice_split c text);
  apart = split_lacks c text;
  stand = places_are 0 (slice_split (λ b. eqb b c) text);
}
