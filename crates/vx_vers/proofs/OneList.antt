-- What a text spells and why it is refused: one list at most, one refusal at most, and never both.
use Rattle.std.proofs.Common.{◌≡◌, ◌≢◌, ◌⊎◌, ◌<◌, ◌≤◌, ◌++◌, cond, ℕ, List, [], ◌∷◌, length, refl, sym, ap, subst, ◌∙◌, inl, inr, arith, Option, Some, None, Ordering, Less, Equal, Greater}
use Rattle.std.specs.Prelude.{IsPermutation, sum_by}
use Rattle.std.specs.Cmp.{IsTotalOrder, tied_itself}
use Rattle.std.specs.List.{AllByRecursion}
use Rattle.std.specs.Ordering.{is_eq, ordering_reverse}
use Rattle.std.proofs.lemmas.Bool.{cases_order}
use Rattle.std.proofs.lemmas.List.Elements.{All-from_recursion, recursion_from_All}
use Rattle.std.proofs.lemmas.List.Sorted.{All-permutation, Contains-permutation, IsPermutation-sym, sum_by-IsPermutation}
use Rattle.std.proofs.lemmas.List.Sums.{sum_by-append, sum_by-cons}
use Rattle.vx_spec.specs.Firsts.{IsFirst}
use Rattle.vx_spec.proofs.EachLaws.{one_each}
use Rattle.vx_spec.proofs.FirstLaws.{one_first}
use Rattle.vx_spec.proofs.MarkLaws.{one_join}
use Rattle.vx_scheme.specs.declared.name.SchemeName.{SchemeName}
use Rattle.vx_text.specs.Escapes.{unescaped}
use Rattle.vx_vers.specs.declared.constraints.Constraint.{Constraint}
use Rattle.vx_vers.specs.declared.fault.VersFault.{VersFault}
use Rattle.vx_vers.specs.declared.fault.VersFault.TheVariants as fault_of
use Rattle.vx_text.specs.Pieces.{kept_parts}
use Rattle.vx_vers.specs.Grammar.{AreParts, EachWithin, HasForm, HasStar, IsListOf, IsStarAlone, IsWritten, NoStar, SpellEach, SpellsConstraint, SpellsSolid}
use Rattle.vx_vers.specs.Refusals.{HasDuplicate, HasEqual, HasFirstFault, HasVersionFault, IsApart, IsFirstDuplicate, IsFormless, LacksForm, RefusesPart, RefusesSolid, RefusesWritten, SpellsWithin, numbered_texts}
use Rattle.vx_vers.specs.Sorted.{IsSorted}
use Rattle.vx_vers.proofs.HeadLaws.{one_head}
use Rattle.vx_vers.proofs.ReadLaws.{no_fault}
use Rattle.vx_vers.proofs.Ranked.{Among, among, at_member, contains}
use Rattle.vx_vers.proofs.SignLaws.{one_sign}

-- ---- the written constraints

one_parts : {text : List ℕ} {a b : List (List ℕ)} → AreParts text a → AreParts text b → a ≡ b
one_parts p q = p.counted ∙ ap kept_parts (one_join 124 p.parts q.parts p.apart q.apart p.some q.some (sym p.joined ∙ q.joined)) ∙ sym q.counted

one_written : {name : SchemeName} {text : List ℕ} {a b : List (List ℕ)} → IsWritten name text a → IsWritten name text b → a ≡ b
one_written {name} {text} {a} {b} p q = one_parts p.parts (subst (λ t. AreParts t b) (sym (one_head p.head q.head).1) q.parts)

no_star : (written : List (List ℕ)) → NoStar written → HasStar written → ⊥
no_star [] none h = h
no_star (text ∷ written) none (inl e) = none.0 e
no_star (text ∷ written) none (inr h) = no_star written none.1 h

not_alone : {C : Type 0} (written : List (List ℕ)) (list : List C) → NoStar written → IsStarAlone written list → ⊥
not_alone written list none alone = no_star written none (subst HasStar (sym alone.star) (inl refl))

-- a text with a form is not formless
formed : {raw : List ℕ} → HasForm raw → IsFormless raw → ⊥
formed form (inl e) = form.some e
formed form (inr (inl broken)) = broken form.whole
formed form (inr (inr other)) = other form.utf8

same_constraint : {V : Type 0} (c d : Constraint V) → c.comparator ≡ d.comparator → c.version ≡ d.version → c ≡ d
same_constraint c d e f = λ i. record { comparator = e i; version = f i }

module _ {V : Type 0} (Spells : List ℕ → V → Type 0) (one_version : (text : List ℕ) (v w : V) → Spells text v → Spells text w → v ≡ w) where
  one_constraint : {text : List ℕ} {c d : Constraint V} → SpellsConstraint Spells text c → SpellsConstraint Spells text d → c ≡ d
  one_constraint {text} {c} {d} p q =
      let h = one_sign p.signed q.signed in
      same_constraint c d h.0 (one_version (unescaped q.raw) c.version d.version (subst (λ raw. Spells (unescaped raw) c.version) h.1 p.version) q.version)

  one_spelled : (texts : List (List ℕ)) (a b : List (Constraint V)) → SpellEach Spells texts a → SpellEach Spells texts b → a ≡ b
  one_spelled texts a b p q = one_each (SpellsConstraint Spells) (λ text c d. one_constraint) texts a b p q

  module _ (IsWithin : V → Type 0) where
    -- ---- one text is refused in one way, or not at all

    lacks_or_faulty : {text : List ℕ} {fault : _} → LacksForm text → HasVersionFault Spells IsWithin text fault → ⊥
    lacks_or_faulty p q = formed q.form (subst IsFormless (one_sign p.signed q.signed).1 p.lacks)

    part_spelled : (part : ℕ × List ℕ) (fault : VersFault) → SpellsWithin Spells IsWithin part.1 → RefusesPart Spells IsWithin part (Some fault) → ⊥
    part_spelled part fault_of.Head p r = r
    part_spelled part (fault_of.Constraint k) p r = formed p.spelled.form (subst IsFormless (one_sign r.1.signed p.spelled.signed).1 r.1.lacks)
    part_spelled part (fault_of.Version k) p r = r.1.refused p.constraint.version (subst (λ raw. Spells (unescaped raw) p.constraint.version) (one_sign p.spelled.signed r.1.signed).1 p.spelled.version)
    part_spelled part (fault_of.Duplicate k) p r = r
    part_spelled part fault_of.StarNotAlone p r = r
    part_spelled part (fault_of.Numeral k) p r =
        let past = r.1.refused in
        let v : Spells (unescaped r.1.raw) p.constraint.version = subst (λ raw. Spells (unescaped raw) p.constraint.version) (one_sign p.spelled.signed r.1.signed).1 p.spelled.version in
        past.past (subst IsWithin (one_version (unescaped r.1.raw) p.constraint.version past.version v past.spelled) p.within)
    part_spelled part fault_of.NoMemory p r = r

    one_fault : (part : ℕ × List ℕ) (a b : VersFault) → RefusesPart Spells IsWithin part (Some a) → RefusesPart Spells IsWithin part (Some b) → a ≡ b
    one_fault part fault_of.Head b p q = absurd p
    one_fault part (fault_of.Duplicate j) b p q = absurd p
    one_fault part fault_of.StarNotAlone b p q = absurd p
    one_fault part fault_of.NoMemory b p q = absurd p
    one_fault part a fault_of.Head p q = absurd q
    one_fault part a (fault_of.Duplicate k) p q = absurd q
    one_fault part a fault_of.StarNotAlone p q = absurd q
    one_fault part a fault_of.NoMemory p q = absurd q
    one_fault part (fault_of.Constraint j) (fault_of.Constraint k) p q = ap fault_of.Constraint (p.0 ∙ sym q.0)
    one_fault part (fault_of.Constraint j) (fault_of.Version k) p q = absurd (lacks_or_faulty p.1 q.1)
    one_fault part (fault_of.Constraint j) (fault_of.Numeral k) p q = absurd (lacks_or_faulty p.1 q.1)
    one_fault part (fault_of.Version j) (fault_of.Constraint k) p q = absurd (lacks_or_faulty q.1 p.1)
    one_fault part (fault_of.Version j) (fault_of.Version k) p q = ap fault_of.Version (p.0 ∙ sym q.0)
    one_fault part (fault_of.Version j) (fault_of.Numeral k) p q =
        absurd (let past = q.1.refused in p.1.refused past.version (subst (λ raw. Spells (unescaped raw) past.version) (one_sign q.1.signed p.1.signed).1 past.spelled))
    one_fault part (fault_of.Numeral j) (fault_of.Constraint k) p q = absurd (lacks_or_faulty q.1 p.1)
    one_fault part (fault_of.Numeral j) (fault_of.Version k) p q =
        absurd (let past = p.1.refused in q.1.refused past.version (subst (λ raw. Spells (unescaped raw) past.version) (one_sign p.1.signed q.1.signed).1 past.spelled))
    one_fault part (fault_of.Numeral j) (fault_of.Numeral k) p q = ap fault_of.Numeral (p.0 ∙ sym q.0)

    one_part : (part : ℕ × List ℕ) (a b : Option VersFault) → RefusesPart Spells IsWithin part a → RefusesPart Spells IsWithin part b → a ≡ b
    one_part part None None p q = refl
    one_part part None (Some b) p q = absurd (part_spelled part b p q)
    one_part part (Some a) None p q = absurd (part_spelled part a q p)
    one_part part (Some a) (Some b) p q = ap Some (one_fault part a b p q)

    faultless : (texts : List (List ℕ)) (list : List (Constraint V)) (fault : VersFault) → SpellEach Spells texts list → EachWithin IsWithin list → HasFirstFault Spells IsWithin texts fault → ⊥
    faultless texts list fault p within h = let e = one_first (RefusesPart Spells IsWithin) one_part (numbered_texts 1 texts) None (Some fault) (no_fault Spells IsWithin 1 texts list p within) h.first in cc e

  module _ (order : V → V → Ordering) (laws : IsTotalOrder order) where
    -- ---- a sorted list of given constraints

    not_both : (v w : V) → order v w ≡ Less → order w v ≡ Less → ⊥
    not_both v w p q = let e : order v w ≡ Greater = laws.antisymm v w ∙ ap ordering_reverse q in cc

    same_first : (x y : Constraint V) (a b : List (Constraint V)) → AllByRecursion (λ later. order x.version later.version ≡ Less) a → AllByRecursion (λ later. order y.version later.version ≡ Less) b
        → Among (y ∷ b) x → Among (x ∷ a) y → x ≡ y
    same_first x y a b up below (inl e) k = sym e
    same_first x y a b up below (inr h) (inl e) = e
    same_first x y a b up below (inr h) (inr k) =
        absurd (not_both x.version y.version (at_member (λ later. order x.version later.version ≡ Less) a y up k) (at_member (λ later. order y.version later.version ≡ Less) b x below h))

    -- a member behind the first is another one
    behind_first : (x y z : Constraint V) (a b : List (Constraint V)) → x ≡ y → AllByRecursion (λ later. order x.version later.version ≡ Less) a → Among a z → Among (y ∷ b) z → Among b z
    behind_first x y z a b same up m (inl e) =
        absurd (let less : order x.version z.version ≡ Less = at_member (λ later. order x.version later.version ≡ Less) a z up m in
        let tied : order x.version x.version ≡ Equal = tied_itself laws x.version in
        let is : order x.version z.version ≡ Equal = subst (λ (w : Constraint V). order x.version w.version ≡ Equal) (same ∙ e) tied in
        cc)
    behind_first x y z a b same up m (inr h) = h

    one_sorted : (a b : List (Constraint V)) → IsSorted order a → IsSorted order b → ((z : Constraint V) → Among a z → Among b z) → ((z : Constraint V) → Among b z → Among a z) → a ≡ b
    one_sorted [] [] p q to back = refl
    one_sorted [] (y ∷ b) p q to back = absurd (back y (inl refl))
    one_sorted (x ∷ a) [] p q to back = absurd (to x (inl refl))
    one_sorted (x ∷ a) (y ∷ b) p q to back =
        let same = same_first x y a b p.0 q.0 (to x (inl refl)) (back y (inl refl)) in
        let rest = one_sorted a b p.1 q.1 (λ z m. behind_first x y z a b same p.0 m (to z (inr m))) (λ z m. behind_first y x z b a (sym same) q.0 m (back z (inr m))) in
        cc (same, rest)

    moved : (a b : List (Constraint V)) → IsPermutation a b → (z : Constraint V) → Among a z → Among b z
    moved a b same z m = among b z (Contains-permutation a b z same (contains a z m))

    one_list_of : (written : List (List ℕ)) (a b : List (Constraint V)) → IsListOf order Spells written a → IsListOf order Spells written b → a ≡ b
    one_list_of written a b p q =
        let e = one_spelled written p.constraints q.constraints p.spelled q.spelled in
        let same : IsPermutation p.constraints b = subst (λ cs. IsPermutation cs b) (sym e) q.same in
        one_sorted a b p.sorted q.sorted
        (λ z m. moved p.constraints b same z (moved a p.constraints (IsPermutation-sym p.constraints a p.same) z m))
        (λ z m. moved p.constraints a p.same z (moved b p.constraints (IsPermutation-sym p.constraints b same) z m))

    one_meaning : (written : List (List ℕ)) (a b : List (Constraint V)) → IsStarAlone written a ⊎ IsListOf order Spells written a → IsStarAlone written b ⊎ IsListOf order Spells written b → a ≡ b
    one_meaning written a b (inl p) (inl q) = p.every ∙ sym q.every
    one_meaning written a b (inl p) (inr q) = absurd (not_alone written a q.stars p)
    one_meaning written a b (inr p) (inl q) = absurd (not_alone written b p.stars q)
    one_meaning written a b (inr p) (inr q) = one_list_of written a b p q

    pub one_list : (name : SchemeName) (text : List ℕ) (a b : List (Constraint V)) → SpellsSolid name order Spells text a → SpellsSolid name order Spells text b → a ≡ b
    one_list name text a b p q =
        one_meaning p.written a b p.means
        (subst (λ written. IsStarAlone written b ⊎ IsListOf order Spells written b) (sym (one_written p.is q.is)) q.means)

    -- ---- duplicates

    abbrev equal_to : V → Constraint V → ℕ
    equal_to v c = cond (is_eq (order c.version v)) 1 0

    none_equal : (v : V) (list : List (Constraint V)) → AllByRecursion (λ later. order v later.version ≡ Less) list → sum_by (equal_to v) list ≡ 0
    none_equal v [] up = refl
    none_equal v (c ∷ list) up =
        let e : order c.version v ≡ Greater = laws.antisymm c.version v ∙ ap ordering_reverse up.0 in
        let here : equal_to v c ≡ 0 = rw e refl in
        omega (arith, here, sum_by-cons (equal_to v) c list, none_equal v list up.1)

    -- a sorted list has one order-equal version at most
    equal_once : (v : V) (list : List (Constraint V)) → IsSorted order list → sum_by (equal_to v) list ≤ 1
    equal_once v [] up = omega arith
    equal_once v (c ∷ list) up = by_test (order c.version v) refl (equal_once v list up.1)
      where
        less : order c.version v ≡ Equal → AllByRecursion (λ later. order c.version later.version ≡ Less) list → AllByRecursion (λ later. order v later.version ≡ Less) list
        less e all = recursion_from_All (λ later. order v later.version ≡ Less) list (λ k d below. sym (laws.congr c.version v _ e) ∙ All-from_recursion (λ later. order c.version later.version ≡ Less) list all k d below)

        by_test : (r : Ordering) → order c.version v ≡ r → sum_by (equal_to v) list ≤ 1 → sum_by (equal_to v) (c ∷ list) ≤ 1
        by_test Less e rest = let here : equal_to v c ≡ 0 = rw e refl in omega (arith, here, sum_by-cons (equal_to v) c list)
        by_test Equal e rest = let here : equal_to v c ≡ 1 = rw e refl in omega (arith, here, sum_by-cons (equal_to v) c list, none_equal v list (less e up.0))
        by_test Greater e rest = let here : equal_to v c ≡ 0 = rw e refl in omega (arith, here, sum_by-cons (equal_to v) c list)

    equal_some : (v : V) (list : List (Constraint V)) → HasEqual order v list → 1 ≤ sum_by (equal_to v) list
    equal_some v [] h = absurd h
    equal_some v (c ∷ list) (inl e) = let here : equal_to v c ≡ 1 = rw e refl in omega (arith, here, sum_by-cons (equal_to v) c list)
    equal_some v (c ∷ list) (inr h) = omega (arith, sum_by-cons (equal_to v) c list, equal_some v list h)

    no_duplicate : (constraints list : List (Constraint V)) (k : ℕ) → IsPermutation constraints list → IsSorted order list → IsFirstDuplicate order constraints k → ⊥
    no_duplicate constraints list k same up d =
        let v = d.constraint.version in
        let tied : order v v ≡ Equal = tied_itself laws v in
        let here : equal_to v d.constraint ≡ 1 = rw tied refl in
        let whole : sum_by (equal_to v) constraints ≡ sum_by (equal_to v) (d.before ++ d.constraint ∷ d.behind) = ap (sum_by (equal_to v)) d.split in
        omega (
          arith,
          here,
          whole,
          sum_by-append (equal_to v) d.before (d.constraint ∷ d.behind),
          sum_by-cons (equal_to v) d.constraint d.behind,
          equal_some v d.before d.twice,
          sum_by-IsPermutation (equal_to v) constraints list same,
          equal_once v list up,
        )

    -- the first duplicate is one
    longer : (a b r s : List (Constraint V)) (c d : Constraint V) → a ++ c ∷ r ≡ b ++ d ∷ s → length a < length b → (more : List (Constraint V)) × (b ≡ a ++ c ∷ more)
    longer [] [] r s c d e less = absurd (omega arith)
    longer [] (y ∷ b) r s c d e less = (b, cc e)
    longer (x ∷ a) [] r s c d e less = absurd (omega arith)
    longer (x ∷ a) (y ∷ b) r s c d e less = let h = longer a b r s c d (cc e) (omega arith) in (h.0, cc (e, h.1))

    at_middle : (P : Constraint V → Type 0) (a r : List (Constraint V)) (c : Constraint V) → AllByRecursion P (a ++ c ∷ r) → P c
    at_middle P [] r c all = all.0
    at_middle P (x ∷ a) r c all = at_middle P a r c all.1

    not_apart : (a r : List (Constraint V)) (c : Constraint V) → IsApart order (a ++ c ∷ r) → HasEqual order c.version a → ⊥
    not_apart [] r c all h = h
    not_apart (x ∷ a) r c all (inl e) = at_middle (λ later. order x.version later.version ≢ Equal) a r c all.0 e
    not_apart (x ∷ a) r c all (inr h) = not_apart a r c all.1 h

    earlier : {list : List (Constraint V)} {j k : ℕ} (p : IsFirstDuplicate order list j) (q : IsFirstDuplicate order list k) → length p.before < length q.before → ⊥
    earlier p q less =
        let h = longer p.before q.before p.behind q.behind p.constraint q.constraint (sym p.split ∙ q.split) less in
        not_apart p.before h.0 p.constraint (subst (IsApart order) h.1 q.apart) p.twice

    one_duplicate : (list : List (Constraint V)) (j k : ℕ) → IsFirstDuplicate order list j → IsFirstDuplicate order list k → j ≡ k
    one_duplicate list j k p q = elim (cases_order (length p.before) (length q.before)) [
      | inl e ↦ omega (arith, e, p.number, q.number)
      | inr (inl less) ↦ absurd (earlier p q less)
      | inr (inr more) ↦ absurd (earlier q p more)
    ]

    module _ (IsWithin : V → Type 0) where
      -- ---- why written constraints are refused

      abbrev IsEmpty : List (List ℕ) → VersFault → Type 0
      IsEmpty written fault = (written ≡ []) × (fault ≡ fault_of.Constraint 1)

      abbrev IsTwice : List (List ℕ) → VersFault → Type 0
      IsTwice written fault = (k : ℕ) × (fault ≡ fault_of.Duplicate k) × HasDuplicate order Spells IsWithin written k

      abbrev IsStarred : List (List ℕ) → VersFault → Type 0
      IsStarred written fault = (fault ≡ fault_of.StarNotAlone) × (2 ≤ length written) × HasStar written

      abbrev HasCause : List (List ℕ) → VersFault → Type 0
      HasCause written fault = IsEmpty written fault ⊎ (HasFirstFault Spells IsWithin written fault ⊎ (IsTwice written fault ⊎ IsStarred written fault))

      cause : (written : List (List ℕ)) (fault : VersFault) → RefusesWritten order Spells IsWithin written fault → HasCause written fault
      cause written fault_of.Head r = absurd r
      cause written (fault_of.Constraint k) (inl r) = inl (r.0, ap fault_of.Constraint r.1)
      cause written (fault_of.Constraint k) (inr r) = inr (inl r)
      cause written (fault_of.Version k) r = inr (inl r)
      cause written (fault_of.Duplicate k) r = inr (inr (inl (k, refl, r)))
      cause written fault_of.StarNotAlone r = inr (inr (inr (refl, r.0, r.1)))
      cause written (fault_of.Numeral k) r = inr (inl r)
      cause written fault_of.NoMemory r = absurd r

      empty_first : (written : List (List ℕ)) (fault : VersFault) → written ≡ [] → HasFirstFault Spells IsWithin written fault → ⊥
      empty_first written fault e h =
          let first : IsFirst (RefusesPart Spells IsWithin) (numbered_texts 1 []) (Some fault) = subst (λ texts. IsFirst (RefusesPart Spells IsWithin) (numbered_texts 1 texts) (Some fault)) e h.first in
          cc first

      empty_twice : (written : List (List ℕ)) (k : ℕ) → written ≡ [] → HasDuplicate order Spells IsWithin written k → ⊥
      empty_twice written k e h = nothing h.constraints (subst (λ texts. SpellEach Spells texts h.constraints) e h.spelled) h.first.before h.first.split
        where
          nothing : (list : List (Constraint V)) → SpellEach Spells [] list → (before : List (Constraint V)) → list ≡ before ++ h.first.constraint ∷ h.first.behind → ⊥
          nothing [] p [] e = cc e
          nothing [] p (x ∷ before) e = cc e
          nothing (c ∷ list) p before e = p

      empty_starred : (written : List (List ℕ)) → written ≡ [] → HasStar written → ⊥
      empty_starred written e h = subst HasStar e h

      first_twice : (written : List (List ℕ)) (fault : VersFault) (k : ℕ) → HasFirstFault Spells IsWithin written fault → HasDuplicate order Spells IsWithin written k → ⊥
      first_twice written fault k p q = faultless IsWithin written q.constraints fault q.spelled q.within p

      twice_twice : (written : List (List ℕ)) (j k : ℕ) → HasDuplicate order Spells IsWithin written j → HasDuplicate order Spells IsWithin written k → j ≡ k
      twice_twice written j k p q =
          one_duplicate p.constraints j k p.first (subst (λ list. IsFirstDuplicate order list k) (sym (one_spelled written p.constraints q.constraints p.spelled q.spelled)) q.first)

      one_cause : (written : List (List ℕ)) (a b : VersFault) → HasCause written a → HasCause written b → a ≡ b
      one_cause written a b (inl p) (inl q) = p.1 ∙ sym q.1
      one_cause written a b (inl p) (inr (inl q)) = absurd (empty_first written b p.0 q)
      one_cause written a b (inl p) (inr (inr (inl q))) = absurd (empty_twice written q.0 p.0 q.2)
      one_cause written a b (inl p) (inr (inr (inr q))) = absurd (empty_starred written p.0 q.2)
      one_cause written a b (inr (inl p)) (inl q) = absurd (empty_first written a q.0 p)
      one_cause written a b (inr (inl p)) (inr (inl q)) = let e = one_first (RefusesPart Spells IsWithin) (one_part IsWithin) (numbered_texts 1 written) (Some a) (Some b) p.first q.first in cc e
      one_cause written a b (inr (inl p)) (inr (inr (inl q))) = absurd (first_twice written a q.0 p q.2)
      one_cause written a b (inr (inl p)) (inr (inr (inr q))) = absurd (no_star written p.stars q.2)
      one_cause written a b (inr (inr (inl p))) (inl q) = absurd (empty_twice written p.0 q.0 p.2)
      one_cause written a b (inr (inr (inl p))) (inr (inl q)) = absurd (first_twice written b p.0 q p.2)
      one_cause written a b (inr (inr (inl p))) (inr (inr (inl q))) = p.1 ∙ ap fault_of.Duplicate (twice_twice written p.0 q.0 p.2 q.2) ∙ sym q.1
      one_cause written a b (inr (inr (inl p))) (inr (inr (inr q))) = absurd (no_star written p.2.stars q.2)
      one_cause written a b (inr (inr (inr p))) (inl q) = absurd (empty_starred written q.0 p.2)
      one_cause written a b (inr (inr (inr p))) (inr (inl q)) = absurd (no_star written q.stars p.2)
      one_cause written a b (inr (inr (inr p))) (inr (inr (inl q))) = absurd (no_star written q.2.stars p.2)
      one_cause written a b (inr (inr (inr p))) (inr (inr (inr q))) = p.0 ∙ sym q.0

      pub one_refusal : (name : SchemeName) (text : List ℕ) (a b : VersFault) → RefusesSolid name order Spells IsWithin text a → RefusesSolid name order Spells IsWithin text b → a ≡ b
      one_refusal name text a b (inl p) (inl q) = p.0 ∙ sym q.0
      one_refusal name text a b (inl p) (inr q) = absurd (p.1 q.is.behind q.is.head)
      one_refusal name text a b (inr p) (inl q) = absurd (q.1 p.is.behind p.is.head)
      one_refusal name text a b (inr p) (inr q) =
          one_cause p.written a b (cause p.written a p.refused)
          (cause p.written b (subst (λ written. RefusesWritten order Spells IsWithin written b) (sym (one_written p.is q.is)) q.refused))

      -- ---- and what is refused spells no list within the limits

      not_star_and_cause : (written : List (List ℕ)) (list : List (Constraint V)) (fault : VersFault) → IsStarAlone written list → HasCause written fault → ⊥
      not_star_and_cause written list fault p (inl q) = let e = sym p.star ∙ q.0 in cc e
      not_star_and_cause written list fault p (inr (inl q)) = not_alone written list q.stars p
      not_star_and_cause written list fault p (inr (inr (inl q))) = not_alone written list q.2.stars p
      not_star_and_cause written list fault p (inr (inr (inr q))) = let n : length written ≡ 1 = ap length p.star in omega (arith, q.1)

      not_list_and_cause : (written : List (List ℕ)) (list : List (Constraint V)) (fault : VersFault) → IsListOf order Spells written list → EachWithin IsWithin list → HasCause written fault → ⊥
      not_list_and_cause written list fault p within (inl q) = p.some q.0
      not_list_and_cause written list fault p within (inr (inl q)) =
          faultless IsWithin written p.constraints fault p.spelled
          (recursion_from_All (λ c. IsWithin c.version) p.constraints
          (All-permutation (λ c. IsWithin c.version) list p.constraints (IsPermutation-sym p.constraints list p.same) (All-from_recursion (λ c. IsWithin c.version) list within))) q
      not_list_and_cause written list fault p within (inr (inr (inl q))) =
          let e = one_spelled written q.2.constraints p.constraints q.2.spelled p.spelled in
          no_duplicate p.constraints list q.0 p.same p.sorted (subst (λ cs. IsFirstDuplicate order cs q.0) e q.2.first)
      not_list_and_cause written list fault p within (inr (inr (inr q))) = no_star written p.stars q.2

      pub unspelled : (name : SchemeName) (text : List ℕ) (fault : VersFault) (list : List (Constraint V)) → RefusesSolid name order Spells IsWithin text fault → SpellsSolid name order Spells text list → ¬ (EachWithin IsWithin list)
      unspelled name text fault list (inl r) p within = r.1 p.is.behind p.is.head
      unspelled name text fault list (inr r) p within =
          by_meaning (cause p.written fault (subst (λ written. RefusesWritten order Spells IsWithin written fault) (one_written r.is p.is) r.refused)) p.means
        where
          by_meaning : HasCause p.written fault → IsStarAlone p.written list ⊎ IsListOf order Spells p.written list → ⊥
          by_meaning h (inl q) = not_star_and_cause p.written list fault q h
          by_meaning h (inr q) = not_list_and_cause p.written list fault q within h
