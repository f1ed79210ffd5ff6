-- A bracket makes two cuts at most, so a text makes at most twice as many cuts as it has brackets.
use Rattle.std.proofs.Common.{◌≡◌, ◌≤◌, ◌*◌, ℕ, Bool, true, false, List, [], ◌∷◌, length, arith, if◌then◌else◌, Option, Some, None}
use Rattle.std.specs.declared.cmp.Ordering.{Ordering}
use Rattle.vx_scheme.specs.declared.domain.Domain.{Domain}
use Rattle.vx_scheme.specs.declared.span.Cut.{Cut}
use Rattle.vx_scheme.specs.declared.span.Span.{Span}
use Rattle.vx_scheme.specs.Cuts.{cuts_of}
use Rattle.vx_range.specs.Sizes.{cut_count, HasTwoCuts}
use Rattle.vx_range.specs.Laws.Sizes.{terms_are_short, one_count}
use Rattle.bracket_ranges.specs.declared.bracket.Bracket.{Bracket}
use Rattle.bracket_ranges.specs.declared.bracket.Bracket.TheVariants.{Exact, Between}
use Rattle.bracket_ranges.specs.Cutting.{IsCut}
use Rattle.bracket_ranges.specs.Reading.{ReadsAs, IsPast}
use Rattle.bracket_ranges.specs.Spans.{lower_cut, upper_cut, next_mark, is_empty, spans_of, outcome}
use Rattle.bracket_ranges.specs.Range.{Makes}
use Rattle.bracket_ranges.specs.Words.{IsWord}
use Rattle.bracket_ranges.specs.Sizes.{HasConstructs}
use Rattle.bracket_ranges.specs.Laws.Refusals.{one_reads}

-- one span or none
between_two : {V : Type 0} (empty : Bool) (lower upper : Option (Cut V)) → length (cuts_of (if empty then [] else record { lower = lower; upper = upper } ∷ [])) ≤ 2
between_two true lower upper = omega arith
between_two false None None = omega arith
between_two false None (Some upper) = omega arith
between_two false (Some lower) None = omega arith
between_two false (Some lower) (Some upper) = omega arith

pub brackets_two : {V : Type 0} (order : V → V → Ordering) → HasTwoCuts (spans_of order)
brackets_two order mark (Exact version) = omega arith
brackets_two order mark (Between lower upper) = between_two (is_empty order lower upper) (lower_cut mark lower) (upper_cut (next_mark mark lower) upper)

pub brackets_short : {V : Type 0} (lists : Bool) (alone : V → Bracket V) (Spells : List ℕ → V → Type 0) (first_past : ℕ → List ℕ → Option ℕ) (order : V → V → Ordering)
    → (domain : Domain) (text : List ℕ) (bounds : List (List (List (Span V)))) → Makes lists alone Spells first_past order domain text bounds
    → (n : ℕ) × HasConstructs lists alone Spells text n × (cut_count bounds ≤ 2 * n)
brackets_short lists alone Spells first_past order domain text bounds makes =
    terms_are_short (spans_of order) (brackets_two order) (IsCut lists) (ReadsAs Spells alone) (IsPast Spells first_past) (outcome domain) text bounds makes

-- a text has one number of brackets
pub brackets_one : {V : Type 0} (lists : Bool) (alone : V → Bracket V) (Spells : List ℕ → V → Type 0) (first_past : ℕ → List ℕ → Option ℕ)
    → ((text : List ℕ) (v w : V) → Spells text v → Spells text w → v ≡ w) → ((text : List ℕ) (v : V) → Spells text v → IsWord text)
    → (text : List ℕ) (a b : ℕ) → HasConstructs lists alone Spells text a → HasConstructs lists alone Spells text b → a ≡ b
brackets_one lists alone Spells first_past one words text =
    one_count (IsCut lists) (ReadsAs Spells alone) text (one_reads lists alone Spells first_past one words text)
