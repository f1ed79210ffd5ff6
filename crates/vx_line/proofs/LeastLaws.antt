-- Tables of the items with the least marks.
use Rattle.std.proofs.Common.{ℕ, ◌≡◌, Bool, true, false, cond, nat_lt, List, [], ◌∷◌, ◌++◌, Option, Some, None, refl, sym, ap, subst, ◌∙◌, ◌⊎◌, inl, inr, arith}
use Rattle.std.specs.declared.cmp.Ordering.{Ordering}
use Rattle.std.specs.declared.cmp.Ordering.TheVariants.{Less, Equal, Greater}
use Rattle.std.specs.Ordering.{match_ordering, is_eq, ordering_reverse}
use Rattle.std.specs.Cmp.{IsTotalOrder}
use Rattle.std.specs.List.{AllByRecursion}
use Rattle.std.proofs.lemmas.Cmp.{tied_itself, tied_back, alike_right}
use Rattle.vx_spec.specs.Ascending.{IsAscending}
use Rattle.vx_line.specs.Least.{least_of, least_of_both, if_level, first_least, unite_behind, unite}
use Rattle.vx_line.proofs.Above.{above_lower, above_alike}

module _ {C : Type 0} (mark : C → ℕ) where
  least_of-assoc : (c d e : C) (m n o : Bool) → nat_lt (mark d) (mark c) ≡ m → nat_lt (mark e) (mark d) ≡ n → nat_lt (mark e) (mark c) ≡ o → cond (nat_lt (mark e) (mark (cond m d c))) e (cond m d c) ≡ cond (nat_lt (mark (cond n e d)) (mark c)) (cond n e d) c
  least_of-assoc c d e true true true f g h = rw (g, h) refl
  least_of-assoc c d e true true false f g h = absurd (grind arith)
  least_of-assoc c d e true false o f g h = rw (g, f) refl
  least_of-assoc c d e false true o f g h = refl
  least_of-assoc c d e false false true f g h = absurd (grind arith)
  least_of-assoc c d e false false false f g h = rw (f, h) refl

  pub least_of_both-assoc : (a b c : Option C) → least_of_both mark (least_of_both mark a b) c ≡ least_of_both mark a (least_of_both mark b c)
  least_of_both-assoc None b c = refl
  least_of_both-assoc (Some a) None c = refl
  least_of_both-assoc (Some a) (Some b) None = refl
  least_of_both-assoc (Some a) (Some b) (Some c) = ap (λ x. Some x) (least_of-assoc a b c (nat_lt (mark b) (mark a)) (nat_lt (mark c) (mark b)) (nat_lt (mark c) (mark a)) refl refl refl)

  least_of_both-none : (a : Option C) → least_of_both mark a None ≡ a
  least_of_both-none None = refl
  least_of_both-none (Some a) = refl

  module _ (R : C → C → Ordering) where
    pub first_least-append : (c : C) (xs ys : List C) → first_least mark R c (xs ++ ys) ≡ least_of_both mark (first_least mark R c xs) (first_least mark R c ys)
    first_least-append c [] ys = refl
    first_least-append c (x ∷ xs) ys = ap (least_of_both mark (if_level mark R c x)) (first_least-append c xs ys) ∙ sym (least_of_both-assoc (if_level mark R c x) (first_least mark R c xs) (first_least mark R c ys))

module _ {C : Type 0} (mark : C → ℕ) {R : C → C → Ordering} (o : IsTotalOrder R) where
  not_level : (d e c : C) (r : Ordering) → R d c ≡ r → R d e ≡ Less → is_eq r ≡ true → is_eq (R e c) ≡ false
  not_level d e c Less f l t = absurd (cc)
  not_level d e c Greater f l t = absurd (cc)
  not_level d e c Equal f l t = ap is_eq (o.antisymm e c ∙ ap ordering_reverse (sym (o.congr d c e f) ∙ l))

  -- behind an item that is order-equal to c, in order, there is no further one
  pub none_level : (d c : C) (list : List C) → is_eq (R d c) ≡ true → AllByRecursion (λ e. R d e ≡ Less) list → first_least mark R c list ≡ None
  none_level d c [] t h = refl
  none_level d c (e ∷ list) t h = rw (not_level d e c (R d c) refl h.0 t) (none_level d c list t h.1)

  eq_of : (r : Ordering) → is_eq r ≡ true → r ≡ Equal
  eq_of Less e = absurd (cc)
  eq_of Equal e = refl
  eq_of Greater e = absurd (cc)

  level_alike : (x y c : C) → R x y ≡ Equal → is_eq (R x c) ≡ is_eq (R y c)
  level_alike x y c e = ap is_eq (o.congr x y c e)

  -- the lesser of two that are order-equal
  picked : (x y c : C) (m b : Bool) → is_eq (R x c) ≡ b → is_eq (R y c) ≡ b → nat_lt (mark y) (mark x) ≡ m → if_level mark R c (cond m y x) ≡ least_of_both mark (cond b (Some x) None) (cond b (Some y) None)
  picked x y c true true f g m = rw (g, m) refl
  picked x y c true false f g m = rw g refl
  picked x y c false true f g m = rw (f, m) refl
  picked x y c false false f g m = rw f refl

  -- a cut in front may be looked at later, where nothing else is order-equal
  pass : (b : Bool) (y : C) (left right : Option C) → (b ≡ true → left ≡ None) → least_of_both mark (cond b (Some y) None) (least_of_both mark left right) ≡ least_of_both mark left (least_of_both mark (cond b (Some y) None) right)
  pass true y left right f = rw (f refl) refl
  pass false y left right f = refl

  module _ (c x : C) (xs : List C) (s : IsAscending R (x ∷ xs)) (next : List C → List C)
      (means : (ys : List C) → IsAscending R ys → first_least mark R c (next ys) ≡ least_of_both mark (first_least mark R c xs) (first_least mark R c ys)) where
    by_order : (y : C) (ys : List C) → IsAscending R (y ∷ ys) → (r : Ordering) → R x y ≡ r
        → first_least mark R c (unite_behind mark R x next ys) ≡ least_of_both mark (first_least mark R c (x ∷ xs)) (first_least mark R c ys)
        → first_least mark R c (match_ordering r (x ∷ next (y ∷ ys)) (least_of mark x y ∷ next ys) (y ∷ unite_behind mark R x next ys)) ≡ least_of_both mark (first_least mark R c (x ∷ xs)) (first_least mark R c (y ∷ ys))
    by_order y ys t Less e i =
        ap (least_of_both mark (if_level mark R c x)) (means (y ∷ ys) t) ∙ sym (least_of_both-assoc mark (if_level mark R c x) (first_least mark R c xs) (first_least mark R c (y ∷ ys)))
    by_order y ys t Equal e i =
        let level = level_alike x y c e in
        (λ j. least_of_both mark (picked x y c (nat_lt (mark y) (mark x)) (is_eq (R x c)) refl (sym level) refl j) (means ys t.1 j))
        ∙ least_of_both-assoc mark (if_level mark R c x) (cond (is_eq (R x c)) (Some y) None) (least_of_both mark (first_least mark R c xs) (first_least mark R c ys))
        ∙ ap (least_of_both mark (if_level mark R c x)) (pass (is_eq (R x c)) y (first_least mark R c xs) (first_least mark R c ys) (λ b. none_level x c xs b s.0))
        ∙ sym (least_of_both-assoc mark (if_level mark R c x) (first_least mark R c xs) (least_of_both mark (cond (is_eq (R x c)) (Some y) None) (first_least mark R c ys)))
        ∙ (λ j. least_of_both mark (first_least mark R c (x ∷ xs)) (least_of_both mark (cond (level j) (Some y) None) (first_least mark R c ys)))
    by_order y ys t Greater e i =
        let l : R y x ≡ Less = o.antisymm y x ∙ ap ordering_reverse e in
        ap (least_of_both mark (if_level mark R c y)) i
        ∙ pass (is_eq (R y c)) y (first_least mark R c (x ∷ xs)) (first_least mark R c ys) (λ b. none_level y c (x ∷ xs) b (l, above_lower o y x xs l s.0))

    behind_means : (ys : List C) → IsAscending R ys → first_least mark R c (unite_behind mark R x next ys) ≡ least_of_both mark (first_least mark R c (x ∷ xs)) (first_least mark R c ys)
    behind_means [] t = ap (least_of_both mark (if_level mark R c x)) (means [] tt) ∙ sym (least_of_both-assoc mark (if_level mark R c x) (first_least mark R c xs) None)
    behind_means (y ∷ ys) t = by_order y ys t (R x y) refl (behind_means ys t.1)

  -- the united table answers for both
  pub unite_means : (c : C) (xs ys : List C) → IsAscending R xs → IsAscending R ys → first_least mark R c (unite mark R xs ys) ≡ least_of_both mark (first_least mark R c xs) (first_least mark R c ys)
  unite_means c [] ys s t = refl
  unite_means c (x ∷ xs) ys s t = behind_means c x xs s (unite mark R xs) (λ ys' t'. unite_means c xs ys' s.1 t') ys t

  -- ---- the united table is in order
  All-by_order : (P : C → Type 0) (r : Ordering) (a b c : List C) → AllByRecursion P a → AllByRecursion P b → AllByRecursion P c → AllByRecursion P (match_ordering r a b c)
  All-by_order P Less a b c f g h = f
  All-by_order P Equal a b c f g h = g
  All-by_order P Greater a b c f g h = h

  All-least : (P : C → Type 0) (x y : C) (m : Bool) → P x → P y → P (cond m y x)
  All-least P x y true p q = q
  All-least P x y false p q = p

  All-behind : (P : C → Type 0) (x : C) (next : List C → List C) → P x → ((ys : List C) → AllByRecursion P ys → AllByRecursion P (next ys)) → (ys : List C) → AllByRecursion P ys → AllByRecursion P (unite_behind mark R x next ys)
  All-behind P x next h n [] g = (h, n [] g)
  All-behind P x next h n (y ∷ ys) g = All-by_order P (R x y) _ _ _ (h, n (y ∷ ys) g) (All-least P x y (nat_lt (mark y) (mark x)) h g.0, n ys g.1) (g.0, All-behind P x next h n ys g.1)

  pub All-unite : (P : C → Type 0) (xs ys : List C) → AllByRecursion P xs → AllByRecursion P ys → AllByRecursion P (unite mark R xs ys)
  All-unite P [] ys h g = g
  All-unite P (x ∷ xs) ys h g = All-behind P x (unite mark R xs) h.0 (λ ys' g'. All-unite P xs ys' h.1 g') ys g

  -- what lies above two order-equal items lies above the lesser
  least_below : (x y : C) (m : Bool) (list : List C) → AllByRecursion (λ d. R x d ≡ Less) list → AllByRecursion (λ d. R y d ≡ Less) list → AllByRecursion (λ d. R (cond m y x) d ≡ Less) list
  least_below x y true list h g = g
  least_below x y false list h g = h

  module _ (x : C) (xs : List C) (s : IsAscending R (x ∷ xs)) where
    rises_by : (y : C) (ys : List C) → IsAscending R (y ∷ ys) → ((zs : List C) → IsAscending R zs → IsAscending R (unite mark R xs zs)) → (r : Ordering) → R x y ≡ r → IsAscending R (unite_behind mark R x (unite mark R xs) ys)
        → IsAscending R (match_ordering r (x ∷ unite mark R xs (y ∷ ys)) (least_of mark x y ∷ unite mark R xs ys) (y ∷ unite_behind mark R x (unite mark R xs) ys))
    rises_by y ys t n Less e i = (All-unite (λ d. R x d ≡ Less) xs (y ∷ ys) s.0 (e, above_lower o x y ys e t.0), n (y ∷ ys) t)
    rises_by y ys t n Equal e i =
        let over_x = All-unite (λ d. R x d ≡ Less) xs ys s.0 (above_alike o x y ys e t.0) in
        let over_y = All-unite (λ d. R y d ≡ Less) xs ys (above_alike o y x xs (tied_back o x y e) s.0) t.0 in
        (least_below x y (nat_lt (mark y) (mark x)) (unite mark R xs ys) over_x over_y, n ys t.1)
    rises_by y ys t n Greater e i =
        let l : R y x ≡ Less = o.antisymm y x ∙ ap ordering_reverse e in
        (All-behind (λ d. R y d ≡ Less) x (unite mark R xs) l (λ zs g. All-unite (λ d. R y d ≡ Less) xs zs (above_lower o y x xs l s.0) g) ys t.0, i)

    rises_behind : ((zs : List C) → IsAscending R zs → IsAscending R (unite mark R xs zs)) → (ys : List C) → IsAscending R ys → IsAscending R (unite_behind mark R x (unite mark R xs) ys)
    rises_behind n [] t = (All-unite (λ d. R x d ≡ Less) xs [] s.0 tt, n [] tt)
    rises_behind n (y ∷ ys) t = rises_by y ys t n (R x y) refl (rises_behind n ys t.1)

  pub unite_in_order : (xs ys : List C) → IsAscending R xs → IsAscending R ys → IsAscending R (unite mark R xs ys)
  unite_in_order [] ys s t = t
  unite_in_order (x ∷ xs) ys s t = rises_behind x xs s (λ zs u. unite_in_order xs zs s.1 u) ys t

  -- ---- in order, each item is its own least
  level_self : (x : C) → is_eq (R x x) ≡ true
  level_self x = ap is_eq (tied_itself o x)

  own : (x : C) (xs : List C) → AllByRecursion (λ d. R x d ≡ Less) xs → first_least mark R x (x ∷ xs) ≡ Some x
  own x xs h = rw (level_self x, none_level x x xs (level_self x) h) refl

  further : (x : C) (xs items : List C) → AllByRecursion (λ d. R x d ≡ Less) items → AllByRecursion (λ d. first_least mark R d xs ≡ Some d) items → AllByRecursion (λ d. first_least mark R d (x ∷ xs) ≡ Some d) items
  further x xs [] h g = tt
  further x xs (d ∷ items) h g = (rw h.0 g.0, further x xs items h.1 g.1)

  pub own_least : (xs : List C) → IsAscending R xs → AllByRecursion (λ d. first_least mark R d xs ≡ Some d) xs
  own_least [] s = tt
  own_least (x ∷ xs) s = (own x xs s.0, further x xs xs s.0 (own_least xs s.1))

  -- ---- of order-equal items it is the same
  pub first_least-alike : (c d : C) (items : List C) → R c d ≡ Equal → first_least mark R c items ≡ first_least mark R d items
  first_least-alike c d [] e = refl
  first_least-alike c d (x ∷ items) e = λ i. least_of_both mark (cond (is_eq (alike_right o c d x e i)) (Some x) None) (first_least-alike c d items e i)

  -- ---- the least item is one of the items, and order-equal
  some_of : (c x : C) (b : Bool) (later : Option C) (e : C) → is_eq (R x c) ≡ b → least_of_both mark (cond b (Some x) None) later ≡ Some e → (x ≡ e) ⊎ (later ≡ Some e)
  some_of c x false later e f n = inr n
  some_of c x true None e f n = inl (cc)
  some_of c x true (Some y) e f n = lesser (nat_lt (mark y) (mark x)) n
    where
      lesser : (m : Bool) → Some (cond m y x) ≡ Some e → (x ≡ e) ⊎ (Some y ≡ Some e)
      lesser true n = inr n
      lesser false n = inl (cc)

  some_level : (c x : C) (b : Bool) (later : Option C) (e : C) → is_eq (R x c) ≡ b → (later ≡ Some e → R e c ≡ Equal) → least_of_both mark (cond b (Some x) None) later ≡ Some e → R e c ≡ Equal
  some_level c x false later e f h n = h n
  some_level c x true later e f h n = elim (some_of c x true later e f n) [
    | inl same ↦ rw (← same) (eq_of (R x c) f)
    | inr rest ↦ h rest
  ]

  pub first_least-level : (c e : C) (items : List C) → first_least mark R c items ≡ Some e → R e c ≡ Equal
  first_least-level c e [] n = absurd (cc)
  first_least-level c e (x ∷ items) n = some_level c x (is_eq (R x c)) (first_least mark R c items) e refl (first_least-level c e items) n

  pub All-first_least : (P : C → Type 0) (c e : C) (items : List C) → AllByRecursion P items → first_least mark R c items ≡ Some e → P e
  All-first_least P c e [] h n = absurd (cc)
  All-first_least P c e (x ∷ items) h n = elim (some_of c x (is_eq (R x c)) (first_least mark R c items) e refl n) [
    | inl same ↦ subst P same h.0
    | inr rest ↦ All-first_least P c e items h.1 rest
  ]

  found_self : (c : C) (b : Bool) (later : Option C) → b ≡ true → least_of_both mark (cond b (Some c) None) later ≡ None → ⊥
  found_self c true None e n = cc
  found_self c true (Some d) e n = cc
  found_self c false later e n = cc

  found_more : (x : C) (b : Bool) (later : Option C) → (later ≡ None → ⊥) → least_of_both mark (cond b (Some x) None) later ≡ None → ⊥
  found_more x true None f n = cc
  found_more x true (Some d) f n = cc
  found_more x false later f n = f n

  more_found : (x : C) (items rest : List C) → AllByRecursion (λ c. first_least mark R c items ≡ None → ⊥) rest → AllByRecursion (λ c. first_least mark R c (x ∷ items) ≡ None → ⊥) rest
  more_found x items [] h = tt
  more_found x items (c ∷ rest) h = (found_more x (is_eq (R x c)) (first_least mark R c items) h.0, more_found x items rest h.1)

  -- each item has a least one
  pub each_found : (items : List C) → AllByRecursion (λ c. first_least mark R c items ≡ None → ⊥) items
  each_found [] = tt
  each_found (x ∷ items) = (found_self x (is_eq (R x x)) (first_least mark R x items) (level_self x), more_found x items items (each_found items))

  -- an item that is not order-equal is no least one
  pub unlevel : (c d : C) (b : Bool) (later : Option C) → is_eq (R d c) ≡ b → least_of_both mark (cond b (Some d) None) later ≡ None → (is_eq (R d c) ≡ false) × (later ≡ None)
  unlevel c d true None e n = absurd (cc)
  unlevel c d true (Some x) e n = absurd (cc)
  unlevel c d false later e n = (e, n)
