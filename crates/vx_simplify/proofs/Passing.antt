-- A pass over a valid list that makes its cuts: what is left, and whether the piece in front of it is in.
use Rattle.std.proofs.Common.{◌≡◌, ℕ, ◌+◌, Bool, true, false, true≢false, ◌&&◌, ◌||◌, cond, List, [], ◌∷◌, ◌++◌, refl, ap, subst, sym, inl, inr, ◌∙◌, append_assoc, append-nil}
use Rattle.std.proofs.lemmas.Bool.{and_parts, cases_Bool}
use Rattle.vx_scheme.specs.declared.span.Cut.{Cut}
use Rattle.vx_vers.specs.declared.constraints.Constraint.{Constraint}
use Rattle.vx_vers.specs.Meaning.{Kind, point, hole, opening, closing, kind, opens_next, closes_first, closes_here, is_hole}
use Rattle.vx_vers.specs.Validity.{alternates, is_answered, is_opening, is_range, is_valid, points_are_followed, ranges_of, without_holes}
use Rattle.vx_simplify.specs.Edges.{is_piece_in, edges_at, edges, all_holes, starts_in, edges_of}
use Rattle.vx_simplify.proofs.EdgeSteps.{edges_at-append}

-- The cuts so far and those of the constraints that are left are the whole, `inside` says whether the piece between
-- them is in, and what is left may stand in a valid list.
pub record ArePassed {V : Type 0} (whole : List (Cut V)) (holes inside : Bool) (number : ℕ) (left : List (Constraint V)) (cuts : List (Cut V)) : Type 0 where
  pub opens : Bool
  pub inside_is : inside ≡ is_piece_in holes opens left
  pub holes_are : holes ≡ true → all_holes left ≡ true
  pub alternate : alternates kind (ranges_of kind left) ≡ true
  pub written : cuts ++ edges holes opens number left ≡ whole

module _ {V : Type 0} where
  pub none_passed : (list : List (Constraint V)) (holes starts : Bool) (cuts : List (Cut V)) → is_valid kind list ≡ true → holes ≡ all_holes list → starts ≡ starts_in list → cuts ≡ [] → ArePassed (edges_of list) holes starts 1 list cuts
  none_passed list holes starts cuts valid h s e = record {
    opens = false;
    inside_is = s ∙ ap (λ b. is_piece_in b false list) (sym h);
    holes_are = λ t. sym h ∙ t;
    alternate = (and_parts (points_are_followed kind (without_holes kind list)) (alternates kind (ranges_of kind list)) valid).1;
    written = λ i. e i ++ edges (h i) false 1 list;
  }

  answers_step : (k : Kind) (c : Constraint V) (list : List (Constraint V)) → kind c ≡ k → is_answered kind closing (cond (is_range k) (c ∷ ranges_of kind list) (ranges_of kind list)) ≡ true
      → (is_answered kind closing (ranges_of kind list) ≡ true → closes_first kind list false ≡ false) → closes_here k (closes_first kind list false) ≡ false
  answers_step point c list e a i = i a
  answers_step hole c list e a i = i a
  answers_step opening c list e a i = refl
  answers_step closing c list e a i = absurd (true≢false (sym a ∙ ap is_opening e))

  -- behind a closing constraint of a valid list the next range constraint opens
  first_answers : (list : List (Constraint V)) → is_answered kind closing (ranges_of kind list) ≡ true → closes_first kind list false ≡ false
  first_answers [] a = refl
  first_answers (c ∷ list) a = answers_step (kind c) c list refl a (first_answers list)

  step : (k : Kind) (holes p inside : Bool) (c : Constraint V) (left : List (Constraint V)) → kind c ≡ k → inside ≡ ((p || closes_here k (closes_first kind left false)) || holes) → (holes ≡ true → (is_hole k && all_holes left) ≡ true)
      → alternates kind (cond (is_range k) (c ∷ ranges_of kind left) (ranges_of kind left)) ≡ true
      → (opens_next inside k ≡ is_piece_in holes (opens_next p k) left) × (holes ≡ true → all_holes left ≡ true) × (alternates kind (ranges_of kind left) ≡ true)
  step point holes p inside c left e i h a = (i, λ t. absurd (true≢false (sym (h t))), a)
  step hole holes p inside c left e i h a = (i, h, a)
  step opening holes p inside c left e i h a = (refl, λ t. absurd (true≢false (sym (h t))), (and_parts (is_answered kind (kind c) (ranges_of kind left)) (alternates kind (ranges_of kind left)) a).1)
  step closing holes p inside c left e i h a =
      let parts = and_parts (is_answered kind (kind c) (ranges_of kind left)) (alternates kind (ranges_of kind left)) a in
      let opens_first : closes_first kind left false ≡ false = first_answers left (subst (λ k. is_answered kind k (ranges_of kind left) ≡ true) e parts.0) in
      let no_holes : holes ≡ false = elim (cases_Bool holes) [ inl t ↦ absurd (true≢false (sym (h t))) | inr f ↦ f ] in
      (sym (λ j. (false || opens_first j) || no_holes j), λ t. absurd (true≢false (sym (h t))), parts.1)

  -- one constraint more
  pub one_passed : (whole cuts cuts' : List (Cut V)) (holes inside : Bool) (n : ℕ) (c : Constraint V) (left : List (Constraint V)) → ArePassed whole holes inside n (c ∷ left) cuts
      → cuts' ≡ cuts ++ edges_at (kind c) inside (opens_next inside (kind c)) n c [] → ArePassed whole holes (opens_next inside (kind c)) (n + 1) left cuts'
  one_passed whole cuts cuts' holes inside n c left passed more =
      let next = opens_next inside (kind c) in
      let here = step (kind c) holes passed.opens inside c left refl passed.inside_is passed.holes_are passed.alternate in
      let rest = edges holes (opens_next passed.opens (kind c)) (n + 1) left in
      record {
        opens = opens_next passed.opens (kind c);
        inside_is = here.0;
        holes_are = here.1;
        alternate = here.2;
        written = ap (λ w. w ++ rest) more
            ∙ append_assoc cuts (edges_at (kind c) inside next n c []) rest
            ∙ ap (λ w. cuts ++ w) (sym (edges_at-append (kind c) inside next n c rest) ∙ (λ j. edges_at (kind c) (passed.inside_is j) (here.0 j) n c rest))
            ∙ passed.written;
      }

  pub all_passed : (whole cuts : List (Cut V)) (holes inside : Bool) (n : ℕ) → ArePassed whole holes inside n [] cuts → cuts ≡ whole
  all_passed whole cuts holes inside n passed = sym (append-nil cuts) ∙ passed.written
