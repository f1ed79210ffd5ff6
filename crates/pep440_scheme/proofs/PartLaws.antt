-- Texts cut into parts at bytes that pass a test, one part after the other.
use Rattle.std.proofs.Common.{◌≡◌, ◌<◌, ◌++◌, arith, not, ℕ, Bool, true, List, [], ◌∷◌, map, refl, sym, ap, ◌∙◌, subst, inl, inr, Option, Some, append_assoc}
use Rattle.std.specs.Char.{is_ascii_alphanumeric}
use Rattle.std.specs.Str.{IsUtf8}
use Rattle.std.specs.List.{AllByRecursion, list_all, onto_first, slice_split}
use Rattle.std.proofs.lemmas.Bool.Decides.{nat_tests}
use Rattle.vx_spec.proofs.TextLaws.{each_by_test, utf8_by_each}
use Rattle.pep440_scheme.specs.Spelling.{is_local_text}
use Rattle.std.proofs.lemmas.Bool.{cases_Bool, and_parts}
use Rattle.std.proofs.lemmas.List.Splits.{slice_split-cons_no, slice_split-cons_yes}
use Rattle.vx_spec.specs.Runs.{past, run}
use Rattle.vx_spec.proofs.RunLaws.{past_stays, past_step, run_stays, run_step}
use Rattle.vx_spec.proofs.EachLaws.{each_behind}
use Rattle.pep440_scheme.specs.Steps.Apart.{behind_first, parts_behind}

module _ (test : ℕ → Bool) where
  abbrev other : ℕ → Bool
  other b = not (test b)

  -- the first part is the longest run of other bytes
  pub split_run : (text : List ℕ) → slice_split test text ≡ run (λ b. not (test b)) text ∷ parts_behind test (behind_first (past (λ b. not (test b)) text))
  split_run [] = refl
  split_run (b ∷ text) = elim (cases_Bool (test b)) [
    | inl is ↦ slice_split-cons_yes test b text is ∙ rw (run_stays other b text (ap not is), past_stays other b text (ap not is)) refl
    | inr no' ↦
        slice_split-cons_no test b text no' ∙ ap (onto_first b) (split_run text)
        ∙ rw (run_step other b text (ap not no'), past_step other b text (ap not no')) refl
  ]

  module _ {X : Type 0} (f : List ℕ → X) (made all : List X) (text : List ℕ) (e : made ++ map f (parts_behind test (Some text)) ≡ all) where
    -- one part more, and those behind it
    pub more_made : (made ++ f (run (λ b. not (test b)) text) ∷ []) ++ map f (parts_behind test (behind_first (past (λ b. not (test b)) text))) ≡ all
    more_made =
        append_assoc made (f (run other text) ∷ []) (map f (parts_behind test (behind_first (past other text))))
        ∙ ap (λ (parts : List (List ℕ)). made ++ map f parts) (sym (split_run text)) ∙ e

    -- it has what all have
    pub next_one : (P : X → Type 0) → AllByRecursion P all → P (f (run (λ b. not (test b)) text))
    next_one P each =
        let rest = each_behind P made (map f (parts_behind test (Some text))) (subst (AllByRecursion P) (sym e) each) in
        (subst (λ (parts : List (List ℕ)). AllByRecursion P (map f parts)) (split_run text) rest).0

  -- the first part passes where all do, and so do those behind it
  pub first_part_passes : (check : List ℕ → Bool) (text : List ℕ) → list_all check (parts_behind test (Some text)) ≡ true
      → (check (run (λ b. not (test b)) text) ≡ true) × (list_all check (parts_behind test (behind_first (past (λ b. not (test b)) text))) ≡ true)
  first_part_passes check text all = let whole = ap (list_all check) (sym (split_run text)) ∙ all in and_parts (check (run other text)) _ whole

  -- ---- one turn of a loop over the parts: what is left begins with a part, behind which this is left

  module _ (rest : Option (List ℕ)) (text part : List ℕ) (behind : Option (List ℕ)) (is : rest ≡ Some text) (first : part ≡ run (λ b. not (test b)) text) (later : behind ≡ behind_first (past (λ b. not (test b)) text)) where
    pub part_passes : (check : List ℕ → Bool) → list_all check (parts_behind test rest) ≡ true → (check part ≡ true) × (list_all check (parts_behind test behind) ≡ true)
    part_passes check all = rw (first, later) (first_part_passes check text (rw is at all))

    pub parts_are : parts_behind test rest ≡ part ∷ parts_behind test behind
    parts_are = rw (is, first, later) (split_run text)

    module _ {X : Type 0} (f : List ℕ → X) (made all : List X) (e : made ++ map f (parts_behind test rest) ≡ all) where
      whole : made ++ map f (parts_behind test (Some text)) ≡ all
      whole = rw is at e

      pub part_made : (more : List X) (x : X) → more ≡ made ++ x ∷ [] → x ≡ f part → more ++ map f (parts_behind test behind) ≡ all
      part_made more x pushed value = rw (pushed, value, first, later) (more_made f made all text whole)

      pub part_has : (P : X → Type 0) → AllByRecursion P all → P (f part)
      part_has P each = rw first (next_one f made all text whole P each)

-- ---- parts of a label are UTF-8

alphanumeric_byte : (b : ℕ) → is_ascii_alphanumeric b ≡ true → b < 128
alphanumeric_byte b is = grind (arith, nat_tests)

pub local_utf8 : (text : List ℕ) → is_local_text text ≡ true → IsUtf8 text
local_utf8 text is = utf8_by_each text (each_by_test (λ b. b < 128) is_ascii_alphanumeric text alphanumeric_byte (and_parts _ _ is).1)
