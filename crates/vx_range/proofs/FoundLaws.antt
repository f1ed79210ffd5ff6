-- What is found at items, and at one more.
use Rattle.std.proofs.Common.{◌≡◌, ◌<◌, ◌≤◌, ◌+◌, ◌++◌, ℕ, List, [], ◌∷◌, length, map, take, drop, get_or, refl, sym, ap, ◌∙◌, subst, inl, inr, Option, Some, None, take-append-drop}
use Rattle.std.specs.Option.{option_or}
use Rattle.std.specs.List.{slice_get, AllByRecursion}
use Rattle.std.proofs.lemmas.List.{take_more, take_all, drop_more, map_push, map-append}
use Rattle.std.proofs.lemmas.Option.{get_or_from_slice_get, slice_get_within}
use Rattle.vx_spec.specs.Each.{AreEach}
use Rattle.vx_spec.specs.Firsts.{IsFirst}
use Rattle.vx_spec.proofs.EachLaws.{each_at}
use Rattle.vx_spec.proofs.FirstLaws.{first_pass, first_stop}
use Rattle.vx_scheme.specs.declared.range_fault.EndKind.{EndKind}
use Rattle.vx_scheme.specs.declared.range_fault.RangeFault.{RangeFault}
use Rattle.vx_scheme.specs.declared.range_fault.RangeFault.TheVariants as fault_of
use Rattle.vx_range.specs.declared.findings.Findings.{Findings}
use Rattle.vx_range.specs.Steps.Found.{IsNoted, IsItemFound, AreFound, IsSyntaxOf}

pub or_none : {X : Type 0} (a : Option X) → option_or a None ≡ a
or_none None = refl
or_none (Some x) = refl

both_none : {X : Type 0} (a b : Option X) → option_or a b ≡ None → (a ≡ None) × (b ≡ None)
both_none None b e = (refl, e)
both_none (Some x) b e = absurd (cc e)

some_stays : {X : Type 0} (old : Option X) (r : X) (here : Option X) → option_or (option_or old (Some r)) here ≡ option_or old (Some r)
some_stays None r here = refl
some_stays (Some x) r here = refl

-- where nothing is noted now, nothing was before
pub before_none : {X : Type 0} {Refuses : Option X → Type 0} {old new : Option X} → IsNoted Refuses old new → new ≡ None → old ≡ None
before_none {X} {Refuses} {old} {new} n e = (both_none old n.here (sym n.noted ∙ e)).0

module _ {A X : Type 0} (N : A → Option X → Type 0) where
  single : (x : A) (here : Option X) → N x here → IsFirst N (x ∷ []) here
  single x None p = inl (p, refl)
  single x (Some r) p = inr (r, p, refl)

  noted_by : (items : List A) (x : A) (old new first here : Option X) → IsFirst N items first → N x here → new ≡ option_or (option_or old first) here → IsNoted (IsFirst N (items ++ x ∷ [])) old new
  noted_by items x old new (Some r) here p q e = record { here = Some r; refused = first_stop N items (x ∷ []) r p; noted = e ∙ some_stays old r here }
  noted_by items x old new None here p q e = record { here = here; refused = first_pass N items (x ∷ []) here p (single x here q); noted = e ∙ ap (λ o. option_or o here) (or_none old) }

  -- one item more
  noted_more : (items : List A) (x : A) (old mid new : Option X) → IsNoted (IsFirst N items) old mid → IsNoted (N x) mid new → IsNoted (IsFirst N (items ++ x ∷ [])) old new
  noted_more items x old mid new a b = noted_by items x old new a.here b.here a.refused b.refused (b.noted ∙ ap (λ m. option_or m b.here) a.noted)

  -- no item
  noted_none : (old : Option X) → IsNoted (IsFirst N []) old old
  noted_none old = record { here = None; refused = refl; noted = sym (or_none old) }

each_more : {A B : Type 0} (R : A → B → Type 0) (xs : List A) (ys : List B) (x : A) (y : B) → AreEach R xs ys → R x y → AreEach R (xs ++ x ∷ []) (ys ++ y ∷ [])
each_more R [] [] x y p q = (q, tt)
each_more R [] (b ∷ ys) x y p q = absurd p
each_more R (a ∷ xs) [] x y p q = absurd p
each_more R (a ∷ xs) (b ∷ ys) x y p q = (p.0, each_more R xs ys x y p.1 q)

module _ {A B : Type 0} (Syntax Past : A → Option ℕ → Type 0) (Endless : A → Option (EndKind × ℕ) → Type 0) (TooHigh : A → Option ℕ → Type 0) (R : A → B → Type 0) where
  -- no item is gone over
  pub none_found : (old : Findings) (IsMade : List B → Type 0) → IsMade [] → AreFound Syntax Past Endless TooHigh R [] old old IsMade
  none_found old IsMade made = record {
    syntax' = refl;
    past = noted_none Past old.past;
    endless = λ none. noted_none Endless old.endless;
    too_high = λ none. noted_none TooHigh old.too_high;
    made = λ clear. ([], tt, made);
  }

  -- what is found at an item stays, whatever else is said of what it makes
  pub still_found : (item : A) (old new : Findings) (Made Made' : B → Type 0) → ((b : B) → Made b → Made' b) → IsItemFound Syntax Past Endless TooHigh R item old new Made → IsItemFound Syntax Past Endless TooHigh R item old new Made'
  still_found item old new Made Made' says f = record {
    syntax' = f.syntax';
    past = f.past;
    endless = f.endless;
    too_high = f.too_high;
    made = λ clear. let m = f.made clear in (m.0, m.1, says m.0 m.2);
  }

  -- one item more is gone over
  pub more_found : (items : List A) (x : A) (old mid new : Findings) (Made Made' : List B → Type 0) (MadeItem : B → Type 0) → AreFound Syntax Past Endless TooHigh R items old mid Made
      → IsItemFound Syntax Past Endless TooHigh R x mid new MadeItem → ((all : List B) (b : B) → Made all → MadeItem b → Made' (all ++ b ∷ [])) → AreFound Syntax Past Endless TooHigh R (items ++ x ∷ []) old new Made'
  more_found items x old mid new Made Made' MadeItem f i step = record {
    syntax' = first_pass Syntax items (x ∷ []) None f.syntax' (inl (i.syntax', refl));
    past = noted_more Past items x old.past mid.past new.past f.past i.past;
    endless = λ none. noted_more Endless items x old.endless mid.endless new.endless (f.endless (before_none i.past none)) (i.endless none);
    too_high = λ none. noted_more TooHigh items x old.too_high mid.too_high new.too_high (f.too_high (before_none i.past none)) (i.too_high none);
    made = λ clear.
        let m = f.made (before_none i.past clear.0, before_none (i.endless clear.0) clear.1, before_none (i.too_high clear.0) clear.2) in
        let b = i.made clear in
        (m.0 ++ b.0 ∷ [], each_more R items m.0 x b.0 m.1 b.1, step m.0 b.0 m.2 b.2);
  }

  -- what is found at a group is what is found at one item
  pub as_item : (items : List A) (old new : Findings) (Made : List B → Type 0) → AreFound Syntax Past Endless TooHigh R items old new Made
      → IsItemFound (IsFirst Syntax) (IsFirst Past) (IsFirst Endless) (IsFirst TooHigh) (AreEach R) items old new Made
  as_item items old new Made f = record { syntax' = f.syntax'; past = f.past; endless = f.endless; too_high = f.too_high; made = f.made }

-- a fault of syntax of one item is that of all
pub item_stops : {A B : Type 0} (Syntax Past : A → Option ℕ → Type 0) (Endless : A → Option (EndKind × ℕ) → Type 0) (TooHigh : A → Option ℕ → Type 0) (R : A → B → Type 0)
    (items rest : List A) (x : A) (old new : Findings) (Made : List B → Type 0) → AreFound Syntax Past Endless TooHigh R items old new Made
    → (fault : RangeFault) → IsSyntaxOf Syntax (x ∷ []) fault → IsSyntaxOf Syntax (items ++ x ∷ rest) fault
item_stops Syntax Past Endless TooHigh R items rest x old new Made f (fault_of.Syntax at) (inl h) = absurd (cc (h.1))
item_stops Syntax Past Endless TooHigh R items rest x old new Made f (fault_of.Syntax at) (inr h) = first_pass Syntax items (x ∷ rest) (Some at) f.syntax' (inr h)
item_stops Syntax Past Endless TooHigh R items rest x old new Made f (fault_of.Numeral at) h = absurd h
item_stops Syntax Past Endless TooHigh R items rest x old new Made f (fault_of.NoEndpoint kind at) h = absurd h
item_stops Syntax Past Endless TooHigh R items rest x old new Made f fault_of.NoMemory h = absurd h

-- a fault of syntax of a group is that of all groups
pub group_stops : {A B : Type 0} (Syntax : A → Option ℕ → Type 0) (Past : List A → Option ℕ → Type 0) (Endless : List A → Option (EndKind × ℕ) → Type 0) (TooHigh : List A → Option ℕ → Type 0) (R : List A → B → Type 0)
    (groups rest : List (List A)) (items : List A) (old new : Findings) (Made : List B → Type 0) → AreFound (IsFirst Syntax) Past Endless TooHigh R groups old new Made
    → (fault : RangeFault) → IsSyntaxOf Syntax items fault → IsSyntaxOf (IsFirst Syntax) (groups ++ items ∷ rest) fault
group_stops Syntax Past Endless TooHigh R groups rest items old new Made f (fault_of.Syntax at) h = first_pass (IsFirst Syntax) groups (items ∷ rest) (Some at) f.syntax' (inr (at, h, refl))
group_stops Syntax Past Endless TooHigh R groups rest items old new Made f (fault_of.Numeral at) h = absurd h
group_stops Syntax Past Endless TooHigh R groups rest items old new Made f (fault_of.NoEndpoint kind at) h = absurd h
group_stops Syntax Past Endless TooHigh R groups rest items old new Made f fault_of.NoMemory h = absurd h

-- ---- the items of a loop

-- the item that stands at a place has what all items have
pub each_got : {X Y : Type 0} (P : Y → Type 0) (f : X → Y) (xs : List X) (i : ℕ) (x : X) → slice_get xs i ≡ Some x → AllByRecursion P (map f xs) → P (f x)
each_got {X} P f xs i x at all =
    subst (λ (item : X). P (f item)) (get_or_from_slice_get xs i x x at) (each_at P f xs i x (slice_get_within xs i x at) all)

module _ {X A B : Type 0} (Syntax Past : A → Option ℕ → Type 0) (Endless : A → Option (EndKind × ℕ) → Type 0) (TooHigh : A → Option ℕ → Type 0) (R : A → B → Type 0)
    (f : X → A) (xs : List X) (i : ℕ) where
  -- all items are gone over
  pub all_found : length xs ≤ i → (old new : Findings) (Made : List B → Type 0) → AreFound Syntax Past Endless TooHigh R (map f (take i xs)) old new Made → AreFound Syntax Past Endless TooHigh R (map f xs) old new Made
  all_found more old new Made found = subst (λ (items : List A). AreFound Syntax Past Endless TooHigh R items old new Made) (ap (map f) (take_all i xs more)) found

  module _ (x : X) (at : slice_get xs i ≡ Some x) where
    is : x ≡ get_or xs i x
    is = sym (get_or_from_slice_get xs i x x at)

    less : i < length xs
    less = slice_get_within xs i x at

    taken : map f (take i xs) ++ f x ∷ [] ≡ map f (take (i + 1) xs)
    taken = ap (λ p. map f (take i xs) ++ f p ∷ []) is ∙ sym (ap (map f) (take_more xs i x less) ∙ map_push f (take i xs) (get_or xs i x))

    around : map f (take i xs) ++ f x ∷ map f (drop (i + 1) xs) ≡ map f xs
    around =
        ap (λ p. map f (take i xs) ++ f p ∷ map f (drop (i + 1) xs)) is
        ∙ sym (ap (map f) (sym (take-append-drop i xs) ∙ ap (λ (r : List X). take i xs ++ r) (drop_more xs i x less)) ∙ map-append f (take i xs) (get_or xs i x ∷ drop (i + 1) xs))

    -- one item more is gone over
    pub next_found : (old mid new : Findings) (Made Made' : List B → Type 0) (MadeItem : B → Type 0) → AreFound Syntax Past Endless TooHigh R (map f (take i xs)) old mid Made
        → IsItemFound Syntax Past Endless TooHigh R (f x) mid new MadeItem → ((all : List B) (b : B) → Made all → MadeItem b → Made' (all ++ b ∷ []))
        → AreFound Syntax Past Endless TooHigh R (map f (take (i + 1) xs)) old new Made'
    next_found old mid new Made Made' MadeItem found item step =
        subst (λ (items : List A). AreFound Syntax Past Endless TooHigh R items old new Made') taken
        (more_found Syntax Past Endless TooHigh R (map f (take i xs)) (f x) old mid new Made Made' MadeItem found item step)

    -- a fault of syntax of an item is that of all
    pub item_stops_at : (old new : Findings) (Made : List B → Type 0) → AreFound Syntax Past Endless TooHigh R (map f (take i xs)) old new Made
        → (fault : RangeFault) → IsSyntaxOf Syntax (f x ∷ []) fault → IsSyntaxOf Syntax (map f xs) fault
    item_stops_at old new Made found fault h =
        subst (λ (items : List A). IsSyntaxOf Syntax items fault) around
        (item_stops Syntax Past Endless TooHigh R (map f (take i xs)) (map f (drop (i + 1) xs)) (f x) old new Made found fault h)

-- the same of a loop over groups
module _ {X A B : Type 0} (Syntax : A → Option ℕ → Type 0) (Past : List A → Option ℕ → Type 0) (Endless : List A → Option (EndKind × ℕ) → Type 0) (TooHigh : List A → Option ℕ → Type 0) (R : List A → B → Type 0)
    (f : X → List A) (xs : List X) (i : ℕ) (x : X) (at : slice_get xs i ≡ Some x) where
  pub group_stops_at : (old new : Findings) (Made : List B → Type 0) → AreFound (IsFirst Syntax) Past Endless TooHigh R (map f (take i xs)) old new Made
      → (fault : RangeFault) → IsSyntaxOf Syntax (f x) fault → IsSyntaxOf (IsFirst Syntax) (map f xs) fault
  group_stops_at old new Made found fault h =
      subst (λ (items : List (List A)). IsSyntaxOf (IsFirst Syntax) items fault) (around (IsFirst Syntax) Past Endless TooHigh R f xs i x at)
      (group_stops Syntax Past Endless TooHigh R (map f (take i xs)) (map f (drop (i + 1) xs)) (f x) old new Made found fault h)
