-- The laws of a range language of brackets, of any table whose versions have theirs.
use Rattle.std.proofs.Common.{◌≡◌, ℕ, Bool, List, Option}
use Rattle.std.specs.Prelude.{⊤}
use Rattle.std.specs.Cmp.{IsTotalOrder}
use Rattle.std.specs.declared.cmp.Ordering.{Ordering}
use Rattle.vx_scheme.specs.declared.domain.Domain.{Domain}
use Rattle.vx_scheme.specs.Native.{RangeLaws}
use Rattle.vx_range.specs.Laws.Ranges.{term_ranges}
use Rattle.bracket_ranges.specs.declared.bracket.Bracket.{Bracket}
use Rattle.bracket_ranges.specs.Words.{IsWord}
use Rattle.bracket_ranges.specs.Cutting.{IsCut}
use Rattle.bracket_ranges.specs.Reading.{ReadsAs, IsPast}
use Rattle.bracket_ranges.specs.Holds.{holds}
use Rattle.bracket_ranges.specs.Spans.{spans_of, outcome}
use Rattle.bracket_ranges.specs.Range.{IsRange, In, Makes, Refuses}
use Rattle.bracket_ranges.specs.Laws.Spans.{bracket_says}
use Rattle.bracket_ranges.specs.Laws.Reading.{cut_laws, piece_laws}

module _ {V : Type 0} (lists : Bool) (alone : V → Bracket V) (Spells : List ℕ → V → Type 0) (first_past : ℕ → List ℕ → Option ℕ)
    (spells_one : (text : List ℕ) (v w : V) → Spells text v → Spells text w → v ≡ w) (words : (text : List ℕ) (v : V) → Spells text v → IsWord text) where
  pub range_laws : (order : V → V → Ordering) → IsTotalOrder order → (IsVersion : V → Type 0) (InDomain : Domain → V → Type 0)
      → RangeLaws order IsVersion InDomain (λ _. ⊤) (IsRange lists alone Spells) (In lists alone Spells order) (Makes lists alone Spells first_past order) (Refuses lists alone Spells first_past)
  range_laws order laws IsVersion InDomain =
      term_ranges order IsVersion InDomain (λ _. ⊤) (IsCut lists) (ReadsAs Spells alone) (IsPast Spells first_past) (cut_laws lists)
      (piece_laws Spells first_past alone spells_one words) outcome (λ domain. spans_of order) (holds order)
      (λ domain mark bracket v version within spans. bracket_says order laws mark bracket v)
