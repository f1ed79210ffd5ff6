-- The first part of a text that is cut behind each closing sign.
use Rattle.std.proofs.Common.{◌≡◌, ◌≢◌, ◌<◌, ◌≤◌, ◌-◌, not, ℕ, suc, true, false, List, [], ◌∷◌, length, take, drop, refl, sym, ap, ◌∙◌, inl, inr, arith, length-drop}
use Rattle.std.specs.List.{onto_first}
use Rattle.std.proofs.lemmas.Bool.{cases_Bool}
use Rattle.std.proofs.lemmas.List.{take_rest}
use Rattle.vx_spec.specs.Runs.{past}
use Rattle.vx_spec.proofs.RunLaws.{past_step, past_stays, past_most}
use Rattle.bracket_ranges.specs.Signs.{is_closing}
use Rattle.bracket_ranges.specs.Cutting.{closed_parts}
use Rattle.bracket_ranges.specs.Steps.Parts.{is_unclosed}

-- what stands behind the first closing sign
abbrev behind : List ℕ → List ℕ
behind text = drop 1 (past is_unclosed text)

behind_most : (text : List ℕ) → length (behind text) ≤ length text
behind_most text = omega (arith, length-drop 1 (past is_unclosed text), past_most is_unclosed text)

take_step : (b : ℕ) (text : List ℕ) (k : ℕ) → k ≤ length text → take (length (b ∷ text) - k) (b ∷ text) ≡ b ∷ take (length text - k) text
take_step b text k most = let size : length (b ∷ text) - k ≡ suc (length text - k) = omega (arith, most) in rw size refl

abbrev IsCutOff : List ℕ → Type 0
IsCutOff text = closed_parts text ≡ take (length text - length (behind text)) text ∷ closed_parts (behind text)

-- the first part where what stands behind the first closing sign is this
abbrev first_with : List ℕ → List ℕ → List (List ℕ)
first_with text rest = take (length text - length rest) text ∷ closed_parts rest

closed_off : (b : ℕ) (text : List ℕ) → is_closing b ≡ true → IsCutOff (b ∷ text)
closed_off b text is =
    let left : closed_parts (b ∷ text) ≡ (b ∷ []) ∷ closed_parts text = rw is refl in
    let rest : behind (b ∷ text) ≡ text = ap (λ (t : List ℕ). drop 1 t) (past_stays is_unclosed b text (ap not is)) in
    let one : length (b ∷ text) - length text ≡ 1 = omega arith in
    left ∙ sym (ap (first_with (b ∷ text)) rest ∙ ap (λ n. take n (b ∷ text) ∷ closed_parts text) one)

further : (b : ℕ) (text : List ℕ) → is_closing b ≡ false → onto_first b (closed_parts text) ≡ (b ∷ take (length text - length (behind text)) text) ∷ closed_parts (behind text) → IsCutOff (b ∷ text)
further b text other e =
    let left : closed_parts (b ∷ text) ≡ onto_first b (closed_parts text) = rw other refl in
    let rest : behind (b ∷ text) ≡ behind text = ap (λ (t : List ℕ). drop 1 t) (past_step is_unclosed b text (ap not other)) in
    left ∙ e ∙ sym (ap (first_with (b ∷ text)) rest ∙ ap (λ (t : List ℕ). t ∷ closed_parts (behind text)) (take_step b text (length (behind text)) (behind_most text)))

cut_off : (text : List ℕ) → text ≢ [] → IsCutOff text
cut_off [] some = absurd (some refl)
cut_off (b ∷ []) some = elim (cases_Bool (is_closing b)) [
  | inl is ↦ closed_off b [] is
  | inr other ↦ further b [] other refl
]
cut_off (b ∷ d ∷ text) some = elim (cases_Bool (is_closing b)) [
  | inl is ↦ closed_off b (d ∷ text) is
  | inr other ↦ further b (d ∷ text) other (ap (onto_first b) (cut_off (d ∷ text) (λ e. cc e)))
]

pub first_part_is : (text rest : List ℕ) → text ≢ [] → past is_unclosed text ≡ rest
    → closed_parts text ≡ take (length text - length (take (length rest - 1) (drop 1 rest))) text ∷ closed_parts (take (length rest - 1) (drop 1 rest))
first_part_is text rest some is = rw (take_rest rest 1) (rw is at (cut_off text some))

take_all : (text : List ℕ) → take (length text) text ≡ text
take_all [] = refl
take_all (b ∷ text) = ap (λ (t : List ℕ). b ∷ t) (take_all text)

nil_of : (xs : List ℕ) → length xs < 1 → xs ≡ []
nil_of [] few = refl
nil_of (x ∷ xs) few = absurd (omega (arith, few))

pub whole_part_is : (text rest : List ℕ) → text ≢ [] → past is_unclosed text ≡ rest → length rest < 1 → closed_parts text ≡ text ∷ []
whole_part_is text rest some is few =
    let e : past is_unclosed text ≡ [] = is ∙ nil_of rest few in
    let size : length text - 0 ≡ length text = omega arith in
    rw (size, take_all text) at (rw e at (cut_off text some))
