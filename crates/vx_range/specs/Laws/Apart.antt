-- What a refusal for want of an end says of a text, of any language whose constructs have it.
use Rattle.std.proofs.Common.{◌≡◌, ◌≢◌, ℕ, Bool, List, [], ◌∷◌, refl, sym, subst, inl, inr, Option, Some, Contains, arith}
use Rattle.std.proofs.lemmas.List.Elements.{Contains-append_left, Contains-append_right}
use Rattle.std.specs.declared.cmp.Ordering.{Ordering}
use Rattle.vx_spec.specs.Each.{joined}
use Rattle.vx_spec.specs.Firsts.{IsFirst}
use Rattle.vx_scheme.specs.declared.range_fault.EndKind.{EndKind}
use Rattle.vx_scheme.specs.declared.range_fault.EndKind.TheVariants.{ArbitraryEquality}
use Rattle.vx_scheme.specs.declared.range_fault.RangeFault.TheVariants.{NoEndpoint}
use Rattle.vx_range.specs.declared.making.Outcome.{Outcome}
use Rattle.vx_range.specs.declared.making.Outcome.TheVariants.{NoEnd}
use Rattle.vx_range.specs.Pieces.{Written}
use Rattle.vx_range.specs.Making.{IsEndless}
use Rattle.vx_range.specs.Ranges.{RefusesText}
use Rattle.vx_range.specs.Apart.{AreToldApart, HasNoEnd}

module _ {X R : Type 0} (Refuses : X → Option R → Type 0) where
  -- some item has the first refusal
  first_item : (xs : List X) (r : R) → IsFirst Refuses xs (Some r) → (x : X) × Contains xs x × Refuses x (Some r)
  first_item [] r h = absurd (cc h)
  first_item (x ∷ xs) r (inl h) = let found = first_item xs r h.1 in (found.0, Contains-append_right (x ∷ []) xs found.0 found.1, found.2)
  first_item (x ∷ xs) r (inr h) = (x, (0, omega arith, refl), subst (Refuses x) (sym h.2) h.1)

  -- and some item of the lists of a list
  first_joined : (all : List (List X)) (r : R) → IsFirst (IsFirst Refuses) all (Some r) → (x : X) × Contains (joined all) x × Refuses x (Some r)
  first_joined [] r h = absurd (cc h)
  first_joined (xs ∷ all) r (inl h) = let found = first_joined all r h.1 in (found.0, Contains-append_right xs (joined all) found.0 found.1, found.2)
  first_joined (xs ∷ all) r (inr h) = let found = first_item xs h.0 h.1 in (found.0, Contains-append_left xs (joined all) found.0 found.1, subst (Refuses found.0) (sym h.2) found.2)

module _ {K C : Type 0} (IsCut : List ℕ → List (List (Written K)) → Type 0) (ReadsAs : Written K → C → Type 0) (IsPast : Written K → ℕ → Type 0) (outcome : C → Outcome) (text : List ℕ) (kind : EndKind) (at : ℕ) (refused : RefusesText IsCut ReadsAs IsPast outcome text (NoEndpoint kind at)) where
  -- some piece of the text is a construct that has no end
  endless_piece : (piece : Written K) × Contains (joined refused.groups) piece × IsEndless ReadsAs outcome piece (Some (kind, at))
  endless_piece = first_joined (IsEndless ReadsAs outcome) refused.groups (kind, at) refused.refused.2

  -- it tells versions apart, where that is the law of the language's constructs
  pub has_no_end : {V : Type 0} (order : V → V → Ordering) (IsVersion InDomain : V → Type 0) (size : V → ℕ) (holds : C → V → Bool) (Tells : ℕ → C → V → V → Type 0)
      → ((construct : C) → outcome construct ≡ NoEnd kind → kind ≢ ArbitraryEquality → (n : ℕ) → (v : V) × (w : V) × Tells n construct v w)
      → ((construct : C) (piece : Written K) → ReadsAs piece construct → outcome construct ≡ NoEnd kind → (n : ℕ) (v w : V) → Tells n construct v w → AreToldApart order IsVersion InDomain size (holds construct) n v w)
      → HasNoEnd order IsVersion InDomain size IsCut ReadsAs outcome holds Tells text kind at
  has_no_end order IsVersion InDomain size holds Tells some law =
      let found = endless_piece in
      let made = found.2.0 in
      record {
        groups = refused.groups;
        cut = refused.cut;
        piece = found.0;
        among = found.1;
        place = sym found.2.1;
        construct = made.0;
        reads = made.1;
        endless = made.2;
        some = some made.0 made.2;
        apart = law made.0 found.0 made.1 made.2;
      }

  -- where no construct is without an end, no text is refused so
  pub never_endless : ((construct : C) → ¬ (outcome construct ≡ NoEnd kind)) → ⊥
  never_endless each = let found = endless_piece in each found.2.0.0 found.2.0.2
