-- One reading and one refusal of a text, and marks that run on.
use Rattle.std.proofs.Common.{◌≡◌, ℕ, Bool, List, [], ◌∷◌, refl, sym, ap, inl, inr, Option, Some, None}
use Rattle.std.specs.declared.cmp.Ordering.{Ordering}
use Rattle.std.proofs.lemmas.Bool.{cases_Bool}
use Rattle.vx_spec.specs.Runs.{trimmed}
use Rattle.vx_scheme.specs.declared.domain.Domain.{Domain}
use Rattle.vx_scheme.specs.declared.range_fault.RangeFault.{RangeFault}
use Rattle.vx_scheme.specs.declared.range_fault.RangeFault.TheVariants as fault_of
use Rattle.vx_scheme.specs.Cuts.{cuts_of}
use Rattle.vx_range.specs.Lists.{piece_place}
use Rattle.vx_range.specs.Running.{RunOn, EachRunsOn}
use Rattle.vx_range.specs.Laws.OneRefusal as answers
use Rattle.bracket_ranges.specs.declared.cutting.Kind.TheVariants as kind_of
use Rattle.bracket_ranges.specs.declared.bracket.Bound.{Bound}
use Rattle.bracket_ranges.specs.declared.bracket.Bracket.{Bracket}
use Rattle.bracket_ranges.specs.declared.bracket.Bracket.TheVariants.{Exact, Between}
use Rattle.bracket_ranges.specs.Words.{IsWord}
use Rattle.bracket_ranges.specs.Cutting.{pieces_of, IsCut}
use Rattle.bracket_ranges.specs.Reading.{ReadsAs, IsPast}
use Rattle.bracket_ranges.specs.Spans.{lower_cut, upper_cut, next_mark, is_empty, spans_of, outcome}
use Rattle.bracket_ranges.specs.Range.{Reads, Refuses}
use Rattle.bracket_ranges.specs.Laws.Reading.{cut_laws, piece_laws}

-- ---- marks

runs_on : {V : Type 0} (mark : ℕ) (lower upper : Option (Bound V)) → RunOn mark (cuts_of (record { lower = lower_cut mark lower; upper = upper_cut (next_mark mark lower) upper } ∷ []))
runs_on mark None None = tt
runs_on mark None (Some upper) = (refl, tt)
runs_on mark (Some lower) None = (refl, tt)
runs_on mark (Some lower) (Some upper) = (refl, (refl, tt))

pub brackets_run_on : {V : Type 0} (order : V → V → Ordering) → EachRunsOn (spans_of order)
brackets_run_on order mark (Exact version) = (refl, (refl, tt))
brackets_run_on order mark (Between lower upper) = elim (cases_Bool (is_empty order lower upper)) [
  | inl is ↦ rw is tt
  | inr other ↦ rw other (runs_on mark lower upper)
]

-- ---- readings

module _ {V : Type 0} (lists : Bool) (alone : V → Bracket V) (Spells : List ℕ → V → Type 0) (first_past : ℕ → List ℕ → Option ℕ)
    (spells_one : (text : List ℕ) (v w : V) → Spells text v → Spells text w → v ≡ w) (words : (text : List ℕ) (v : V) → Spells text v → IsWord text) where
  pub one_reads : (text : List ℕ) (a b : List (List (Bracket V))) → Reads lists alone Spells text a → Reads lists alone Spells text b → a ≡ b
  one_reads = answers.reads_one (ReadsAs Spells alone) (IsPast Spells first_past) (piece_laws Spells first_past alone spells_one words) (IsCut lists) (cut_laws lists)

  pub one_refusal : (domain : Domain) (text : List ℕ) (a b : RangeFault) → Refuses lists alone Spells first_past domain text a → Refuses lists alone Spells first_past domain text b → a ≡ b
  one_refusal domain = answers.refuses_one (ReadsAs Spells alone) (IsPast Spells first_past) (piece_laws Spells first_past alone spells_one words) (IsCut lists) (cut_laws lists) (outcome domain)

  -- an empty piece is no construct
  pub blank_refused : (domain : Domain) (text : List ℕ) → trimmed text ≡ [] → Refuses lists alone Spells first_past domain text (fault_of.Syntax 0)
  blank_refused domain text blank = record {
    groups = (record { kind = kind_of.Alone; at = 0; bytes = [] } ∷ []) ∷ [];
    cut = sym (ap (λ (t : List ℕ). pieces_of lists (record { kind = tt; at = piece_place 0 text t; bytes = t }) ∷ []) blank);
    refused = inr (0, inr (0, (λ found. (words [] found.1.0 found.1.1).some refl, refl), refl), refl);
  }
