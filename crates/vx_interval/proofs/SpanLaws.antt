-- What spans hold at a place, by their cuts.
use Rattle.std.proofs.lemmas.List.{at_drop_more}
use Rattle.std.proofs.Common.{ℕ, ◌<◌, length, get_or, drop, ◌≡◌, Bool, true, false, ◌&&◌, ◌||◌, not, cond, List, [], ◌∷◌, Option, Some, refl, sym, ap, subst, ◌∙◌, All}
use Rattle.std.specs.declared.cmp.Ordering.{Ordering}
use Rattle.std.specs.declared.cmp.Ordering.TheVariants.{Less, Equal, Greater}
use Rattle.std.specs.Ordering.{ordering_then, ordering_reverse, bool_cmp}
use Rattle.std.specs.Cmp.{IsTotalOrder, bool_cmp_total}
use Rattle.std.specs.List.{AllByRecursion}
use Rattle.std.proofs.lemmas.Cmp.{on_total, then_total}
use Rattle.vx_scheme.specs.declared.span.Cut.{Cut}
use Rattle.vx_scheme.specs.declared.span.Span.{Span}
use Rattle.vx_scheme.specs.Cuts.{cut_cmp, cut_below, stands_below}
use Rattle.vx_spec.specs.Ascending.{IsAscending}
use Rattle.vx_line.specs.Line.{IsPlace, IsFirstKept, IsMerged, is_in, join_by}
use Rattle.vx_line.proofs.PlaceLaws.{is_in-not}
use Rattle.vx_scheme.specs.Cuts.{spans_of, cuts_of, starts_of, spans_at, in_spans, IsInOrder}
use Rattle.vx_interval.specs.Steps.Opened.{spans_from}

-- spans give back the cuts that they were made of
pub cuts_of_spans_of : {V : Type 0} → (starts : Bool) (cuts : List (Cut V)) → cuts_of (spans_of starts cuts) ≡ cuts
cuts_of_spans_of false [] = refl
cuts_of_spans_of false (c ∷ []) = refl
cuts_of_spans_of false (c ∷ d ∷ cuts) = ap (λ l. c ∷ d ∷ l) (cuts_of_spans_of false cuts)
cuts_of_spans_of true [] = refl
cuts_of_spans_of true (c ∷ cuts) = ap (λ l. c ∷ l) (cuts_of_spans_of false cuts)

pub starts_of_spans_of : {V : Type 0} → (starts : Bool) (cuts : List (Cut V)) → starts_of (spans_of starts cuts) ≡ starts
starts_of_spans_of false [] = refl
starts_of_spans_of false (c ∷ []) = refl
starts_of_spans_of false (c ∷ d ∷ cuts) = refl
starts_of_spans_of true [] = refl
starts_of_spans_of true (c ∷ cuts) = refl

pub starts_seen : {V : Type 0} → (starts : Bool) (cuts : List (Cut V)) (set : List (Span V)) → spans_of starts cuts ≡ set → starts ≡ starts_of set
starts_seen starts cuts set e = sym (starts_of_spans_of starts cuts) ∙ ap starts_of e

pub cuts_seen : {V : Type 0} → (starts : Bool) (cuts : List (Cut V)) (set : List (Span V)) → spans_of starts cuts ≡ set → cuts ≡ cuts_of set
cuts_seen starts cuts set e = sym (cuts_of_spans_of starts cuts) ∙ ap cuts_of e

-- a set, by its cuts, is in order and apart
pub seen_in_order : {V : Type 0} → (order : V → V → Ordering) (starts : Bool) (cuts : List (Cut V)) (set : List (Span V)) → spans_of starts cuts ≡ set → IsAscending (cut_cmp order) cuts → IsInOrder order set
seen_in_order order starts cuts set e s = record {
  rising = subst (IsAscending (cut_cmp order)) (cuts_seen starts cuts set e) s;
  apart = (λ i. spans_of (sym (starts_seen starts cuts set e) i) (sym (cuts_seen starts cuts set e) i)) ∙ e;
}

both_ways : (b t u : Bool) → (b ≡ false → t ≡ false) → (b ≡ true → t ≡ u) → ((not b) || t) ≡ cond b u true
both_ways true t u f g = g refl
both_ways false t u f g = refl

alone : (b : Bool) → ((b && true) || false) ≡ cond b true false
alone true = refl
alone false = refl

pair : (b b' t u : Bool) → (b ≡ false → t ≡ false) → (b' ≡ false → t ≡ false) → (b' ≡ true → t ≡ u) → ((b && not b') || t) ≡ cond b (cond b' u true) false
pair true b' t u f g h = both_ways b' t u g h
pair false b' t u f g h = f refl

module _ {V : Type 0} (order : V → V → Ordering) {below : Cut V → Bool} (place : IsPlace (cut_cmp order) below) where
  none_in_spans : (c : Cut V) (cuts : List (Cut V)) → AllByRecursion (λ d. cut_cmp order c d ≡ Less) cuts → below c ≡ false → spans_at below (spans_of false cuts) ≡ false
  none_in_spans c [] h n = refl
  none_in_spans c (d ∷ []) h n = rw (place.upward c d h.0 n) refl
  none_in_spans c (d ∷ e ∷ cuts) h n = rw (place.upward c d h.0 n) (none_in_spans c cuts h.1.1 n)

  -- the spans hold what the cuts say
  pub spans_alike : (starts : Bool) (cuts : List (Cut V)) → IsAscending (cut_cmp order) cuts → spans_at below (spans_of starts cuts) ≡ is_in below starts cuts
  spans_alike true [] s = refl
  spans_alike false [] s = refl
  spans_alike true (c ∷ cuts) s = both_ways (below c) (spans_at below (spans_of false cuts)) (is_in below false cuts) (none_in_spans c cuts s.0) (λ t. spans_alike false cuts s.1)
  spans_alike false (c ∷ []) s = alone (below c)
  spans_alike false (c ∷ d ∷ cuts) s =
      pair (below c) (below d) (spans_at below (spans_of false cuts)) (is_in below false cuts)
      (none_in_spans c cuts s.0.1) (none_in_spans d cuts s.1.0) (λ t. spans_alike false cuts s.1.1)

module _ {V : Type 0} {order : V → V → Ordering} (o : IsTotalOrder order) where
  pub cut_total : IsTotalOrder (cut_cmp order)
  cut_total = then_total (on_total (λ (c : Cut V). c.version) o) (on_total {J = Bool} (λ (c : Cut V). c.after) bool_cmp_total)

  -- a version is a place
  same_version : (v : V) (b d : Bool) (r : Ordering) → bool_cmp b d ≡ Less → stands_below r b ≡ false → stands_below r d ≡ false
  same_version v b d Less e n = n
  same_version v false false Equal e n = n
  same_version v false true Equal e n = refl
  same_version v true false Equal e n = absurd (cc)
  same_version v true true Equal e n = n
  same_version v b d Greater e n = refl

  lower_version : (v c d : V) (b : Bool) (r : Ordering) → order c v ≡ r → order c d ≡ Less → stands_below r b ≡ false → order d v ≡ Greater
  lower_version v c d b Less e l n = absurd (cc)
  lower_version v c d b Equal e l n = o.antisymm d v ∙ ap ordering_reverse (sym (o.congr c v d e) ∙ l)
  lower_version v c d b Greater e l n = o.antisymm d v ∙ ap ordering_reverse (o.trans v c d (o.antisymm v c ∙ ap ordering_reverse e) l)

  upward_by : (v : V) (c d : Cut V) (r : Ordering) → order c.version d.version ≡ r → ordering_then r (bool_cmp c.after d.after) ≡ Less → cut_below order c v ≡ false → cut_below order d v ≡ false
  upward_by v c d Less f e n = rw (lower_version v c.version d.version c.after (order c.version v) refl f n) refl
  upward_by v c d Equal f e n = same_version v c.after d.after (order d.version v) e (rw (← o.congr c.version d.version v f) n)
  upward_by v c d Greater f e n = absurd (cc)

  same_side : (b d : Bool) → bool_cmp b d ≡ Equal → b ≡ d
  same_side false false e = refl
  same_side false true e = absurd (cc)
  same_side true false e = absurd (cc)
  same_side true true e = refl

  alike_by : (v : V) (c d : Cut V) (r s : Ordering) → order c.version d.version ≡ r → bool_cmp c.after d.after ≡ s → ordering_then r s ≡ Equal → cut_below order c v ≡ cut_below order d v
  alike_by v c d Less s f g e = absurd (cc)
  alike_by v c d Equal s f g e = λ i. stands_below (o.congr c.version d.version v f i) (same_side c.after d.after (g ∙ e) i)
  alike_by v c d Greater s f g e = absurd (cc)

  pub version_place : (v : V) → IsPlace (cut_cmp order) (λ c. cut_below order c v)
  version_place v = record {
    upward = λ c d e n. upward_by v c d (order c.version d.version) refl e n;
    alike = λ c d e. alike_by v c d (order c.version d.version) (bool_cmp c.after d.after) refl refl e;
  }

  pub complement_spans : (below : Cut V → Bool) → IsPlace (cut_cmp order) below → (p : Bool) (a : List (Cut V)) → IsAscending (cut_cmp order) a → spans_at below (spans_of (not p) a) ≡ not (spans_at below (spans_of p a))
  complement_spans below place p a s = spans_alike order place (not p) a s ∙ is_in-not below p a ∙ ap not (sym (spans_alike order place p a s))

module _ {V : Type 0} (order : V → V → Ordering) (both p q starts : Bool) (a b cuts : List (Cut V)) (set other : List (Span V)) (s : IsAscending (cut_cmp order) a) (t : IsAscending (cut_cmp order) b)
    (starts_is : starts ≡ join_by both p q) (merged : IsMerged (cut_cmp order) both p a q b cuts) (set_is : spans_of p a ≡ set) (other_is : spans_of q b ≡ other) where
  -- a merged set holds a place where both sets do, or one of them
  pub join_at : (below : Cut V → Bool) → IsPlace (cut_cmp order) below → spans_at below (spans_of starts cuts) ≡ join_by both (spans_at below set) (spans_at below other)
  join_at below place =
      spans_alike order place starts cuts merged.rising
      ∙ ap (λ w. is_in below w cuts) starts_is
      ∙ merged.pieces below place
      ∙ (λ i. join_by both (sym (spans_alike order place p a s) i) (sym (spans_alike order place q b t) i))
      ∙ (λ i. join_by both (spans_at below (set_is i)) (spans_at below (other_is i)))

  -- of two order-equal cuts it has the first set's
  pub join_kept : All (IsFirstKept (cut_cmp order) (cuts_of set) (cuts_of other)) (cuts_of (spans_of starts cuts))
  join_kept =
      subst (λ l. All (IsFirstKept (cut_cmp order) (cuts_of set) (cuts_of other)) l) (sym (cuts_of_spans_of starts cuts))
      (subst (λ l. All (IsFirstKept (cut_cmp order) l (cuts_of other)) cuts) (cuts_seen p a set set_is)
      (subst (λ l. All (IsFirstKept (cut_cmp order) a l) cuts) (cuts_seen q b other other_is) merged.kept))

pub opened : {V : Type 0} → (lower : Option (Cut V)) (c : Cut V) (rest : List (Cut V)) → spans_from false lower (c ∷ rest) ≡ spans_from true (Some c) rest
opened lower c [] = refl
opened lower c (d ∷ rest) = refl

pub has_by_cuts : {V : Type 0} → {order : V → V → Ordering} → (o : IsTotalOrder order) → (starts : Bool) (cuts : List (Cut V)) (set : List (Span V)) (v : V) → spans_of starts cuts ≡ set → IsAscending (cut_cmp order) cuts → is_in (λ c. cut_below order c v) starts cuts ≡ in_spans order set v
has_by_cuts {order = order} o starts cuts set v e s = sym (spans_alike order (version_place o v) starts cuts s) ∙ ap (λ spans. spans_at (λ c. cut_below order c v) spans) e

-- the first cut that is not below ends a walk over the cuts
pub stops : {C : Type 0} → (below : C → Bool) (inside : Bool) (items : List C) (i : ℕ) (cut : C) → i < length items → cut ≡ get_or items i cut → below cut ≡ false → is_in below inside (drop i items) ≡ inside
stops below inside items i cut l e n = at_drop_more (is_in below inside) items i cut l ∙ rw (← e, n) refl
