-- Versions that a construct tells apart and no short list does: what a refusal for want of an end rests on.
use Rattle.std.specs.Prelude.{◌≡◌, ◌≢◌, ◌≤◌, ℕ, Bool, List, Contains}
use Rattle.std.specs.declared.cmp.Ordering.{Ordering}
use Rattle.vx_spec.specs.Each.{joined}
use Rattle.vx_scheme.specs.declared.range_fault.EndKind.{EndKind}
use Rattle.vx_scheme.specs.declared.range_fault.EndKind.TheVariants.{ArbitraryEquality}
use Rattle.vx_range.specs.declared.making.Outcome.{Outcome}
use Rattle.vx_range.specs.declared.making.Outcome.TheVariants.{NoEnd}
use Rattle.vx_range.specs.Pieces.{Written}

-- The two are versions of the domain, the test holds of one of them alone, and each version whose size is at most n compares
-- alike with both: it is below both, order-equal to both, or above both.
pub record AreToldApart {V : Type 0} (order : V → V → Ordering) (IsVersion InDomain : V → Type 0) (size : V → ℕ) (test : V → Bool) (n : ℕ) (v w : V) : Type 0 where
  pub versions : IsVersion v × IsVersion w
  pub inside : InDomain v × InDomain w
  pub one : test v ≢ test w
  pub alike : (x : V) → IsVersion x → size x ≤ n → order x v ≡ order x w

-- What a refusal for want of an end says of a text, over any language. The piece that begins at this place is a construct that
-- has no end of this kind. For every number n there are two versions that are named for the construct and n, unless it compares
-- texts, and a text need not be that of a version; and they are told apart.
pub record HasNoEnd {K C V : Type 0} (order : V → V → Ordering) (IsVersion InDomain : V → Type 0) (size : V → ℕ) (IsCut : List ℕ → List (List (Written K)) → Type 0) (ReadsAs : Written K → C → Type 0) (outcome : C → Outcome) (holds : C → V → Bool) (Tells : ℕ → C → V → V → Type 0) (text : List ℕ) (kind : EndKind) (at : ℕ) : Type 0 where
  pub groups : List (List (Written K))
  pub cut : IsCut text groups
  pub piece : Written K
  pub among : Contains (joined groups) piece
  pub place : piece.at ≡ at
  pub construct : C
  pub reads : ReadsAs piece construct
  pub endless : outcome construct ≡ NoEnd kind
  pub some : kind ≢ ArbitraryEquality → (n : ℕ) → (v : V) × (w : V) × Tells n construct v w
  pub apart : (n : ℕ) (v w : V) → Tells n construct v w → AreToldApart order IsVersion InDomain size (holds construct) n v w
