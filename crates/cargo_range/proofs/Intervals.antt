-- One span more on the way to the one interval.
use Rattle.std.proofs.Common.{◌≡◌, ◌∙◌, ◌<◌, ◌+◌, ℕ, length, drop, get_or, List, [], ◌∷◌, map, filter, refl, sym, ap, false, Option, Some, None, Result, Ok, Err, inl, inr}
use Rattle.std.proofs.lemmas.Bool.{cases_Bool}
use Rattle.std.proofs.lemmas.List.{drop_more}
use Rattle.semver.specs.Parse.{Parts}
use Rattle.vx_scheme.specs.declared.back_fault.BackFault.{BackFault}
use Rattle.vx_scheme.specs.declared.span.Span.{Span}
use Rattle.vx_range.specs.Gaps.{gap_fault}
use Rattle.cargo_range.specs.Order.{precedence}
use Rattle.cargo_range.specs.Back.{move_span, is_proper, touch, join_behind, back_of}
use Rattle.cargo_range.specs.Steps.Intervals.{join_next, some_interval, extend, joined_from}

-- the first of the joined spans begins where the first span does
record Begins (span : Span Parts) (spans : List (Span Parts)) : Type 0 where
  first : Span Parts
  more : List (Span Parts)
  are : spans ≡ first ∷ more
  lower : first.lower ≡ span.lower

begins : (span : Span Parts) (spans : List (Span Parts)) → Begins span (join_behind span spans)
begins span [] = record { first = span; more = []; are = refl; lower = refl }
begins span (next ∷ spans) = elim (cases_Bool (touch span.upper next.lower)) [
  | inl held ↦
      let b = begins (record { lower = span.lower; upper = next.upper }) spans in
      record { first = b.first; more = b.more; are = rw held b.are; lower = b.lower }
  | inr other ↦ record { first = span; more = join_behind next spans; are = rw other refl; lower = refl }
]

-- a gap before a span is the first one
gap_stops : (before span : Span Parts) (rest : List (Span Parts)) → touch before.upper span.lower ≡ false
    → back_of (joined_from (Some before) (span ∷ rest)) ≡ Err (gap_fault precedence before.upper span.lower)
gap_stops before span rest apart =
    let b = begins span rest in
    rw (apart, b.are) (ap (λ lower. Err (gap_fault precedence before.upper lower)) b.lower)

value_of : (a b : Option (Span Parts)) → ◌≡◌ {A = Result (Option (Span Parts)) BackFault} (Ok a) (Ok b) → a ≡ b
value_of a b e = cc e

fault_of : (a b : BackFault) → ◌≡◌ {A = Result (Option (Span Parts)) BackFault} (Err a) (Err b) → a ≡ b
fault_of a b e = cc e

ok_err : (a : Option (Span Parts)) (b : BackFault) → ◌≡◌ {A = Result (Option (Span Parts)) BackFault} (Ok a) (Err b) → ⊥
ok_err a b e = cc e

-- a proper span is joined to the interval
next_goes : (before found : Option (Span Parts)) (span : Span Parts) (rest : List (Span Parts))
    → some_interval (join_next before span) ≡ Ok found → joined_from found rest ≡ joined_from before (span ∷ rest)
next_goes None found span rest e = ap (λ f. joined_from f rest) (sym (value_of (Some span) found e))
next_goes (Some before) found span rest e = elim (cases_Bool (touch before.upper span.lower)) [
  | inl held ↦ rw held (ap (λ f. joined_from f rest) (sym (value_of (Some (record { lower = before.lower; upper = span.upper })) found (rw held at e))))
  | inr other ↦ absurd (ok_err found (gap_fault precedence before.upper span.lower) (sym (rw other at e)))
]

next_stops : (before : Option (Span Parts)) (span : Span Parts) (rest : List (Span Parts)) (fault : BackFault)
    → some_interval (join_next before span) ≡ Err fault → back_of (joined_from before (span ∷ rest)) ≡ Err fault
next_stops None span rest fault e = absurd (ok_err (Some span) fault e)
next_stops (Some before) span rest fault e = elim (cases_Bool (touch before.upper span.lower)) [
  | inl held ↦ absurd (ok_err (Some (record { lower = before.lower; upper = span.upper })) fault (rw held at e))
  | inr other ↦ gap_stops before span rest other ∙ ap Err (fault_of (gap_fault precedence before.upper span.lower) fault (rw other at e))
]

pub extend_goes : (before found : Option (Span Parts)) (span : Span Parts) (rest : List (Span Parts))
    → extend before (move_span span) ≡ Ok found
    → joined_from found (filter is_proper (map move_span rest)) ≡ joined_from before (filter is_proper (map move_span (span ∷ rest)))
extend_goes before found span rest e = elim (cases_Bool (is_proper (move_span span))) [
  | inl held ↦ rw held (next_goes before found (move_span span) (filter is_proper (map move_span rest)) (rw held at e))
  | inr other ↦ rw other (ap (λ f. joined_from f (filter is_proper (map move_span rest))) (sym (value_of before found (rw other at e))))
]

pub extend_stops : (before : Option (Span Parts)) (span : Span Parts) (rest : List (Span Parts)) (fault : BackFault)
    → extend before (move_span span) ≡ Err fault
    → back_of (joined_from before (filter is_proper (map move_span (span ∷ rest)))) ≡ Err fault
extend_stops before span rest fault e = elim (cases_Bool (is_proper (move_span span))) [
  | inl held ↦ rw held (next_stops before (move_span span) (filter is_proper (map move_span rest)) fault (rw held at e))
  | inr other ↦ absurd (ok_err before fault (rw other at e))
]

-- ---- at a place of the spans

-- the proper ones of what is left
abbrev left : List (Span Parts) → ℕ → List (Span Parts)
left spans i = filter is_proper (map move_span (drop i spans))

pub place_goes : (spans all : List (Span Parts)) (before found : Option (Span Parts)) (i : ℕ) (span : Span Parts) → i < length spans
    → span ≡ get_or spans i span
    → extend before (move_span span) ≡ Ok found → joined_from before (left spans i) ≡ all → joined_from found (left spans (i + 1)) ≡ all
place_goes spans all before found i span within is e said =
    let more : drop i spans ≡ span ∷ drop (i + 1) spans = drop_more spans i span within ∙ ap (λ s. s ∷ drop (i + 1) spans) (sym is) in
    extend_goes before found span (drop (i + 1) spans) e ∙ sym (ap (λ l. joined_from before (filter is_proper (map move_span l))) more) ∙ said

pub place_stops : (spans all : List (Span Parts)) (before : Option (Span Parts)) (fault : BackFault) (i : ℕ) (span : Span Parts)
    → i < length spans → span ≡ get_or spans i span
    → extend before (move_span span) ≡ Err fault → joined_from before (left spans i) ≡ all → back_of all ≡ Err fault
place_stops spans all before fault i span within is e said =
    let more : drop i spans ≡ span ∷ drop (i + 1) spans = drop_more spans i span within ∙ ap (λ s. s ∷ drop (i + 1) spans) (sym is) in
    ap back_of (sym said ∙ ap (λ l. joined_from before (filter is_proper (map move_span l))) more) ∙ extend_stops before span (drop (i + 1) spans) fault e
