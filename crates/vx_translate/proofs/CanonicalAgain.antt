-- The canonical text of a canonical text is that text. It is shown in a finer order, in which versions are order-equal only
-- where their normal texts are equal too: what holds of printed texts over any order holds there.
use Rattle.std.proofs.Common.{◌≡◌, ◌⊎◌, ℕ, List, [], ◌∷◌, map, refl, sym, ap, subst, ◌∙◌, inl, inr, Ordering, Less, Equal, Greater}
use Rattle.std.specs.Cmp.{IsTotalOrder, alike_right, tied_itself}
use Rattle.std.specs.Cmp.Lexicographic.{slice_cmp}
use Rattle.std.specs.List.{AllByRecursion}
use Rattle.std.specs.Ordering.{is_eq, nat_cmp, on, ordering_then, then_cmp}
use Rattle.std.specs.Str.{IsUtf8}
use Rattle.std.proofs.lemmas.Cmp.{nat_list_cmp_total, on_total, then_total}
use Rattle.std.proofs.lemmas.Map.Text.{is_eq-slice_cmp}
use Rattle.std.proofs.lemmas.Slice.Eq.{bytes_eq-Decides}
use Rattle.vx_scheme.specs.declared.scheme.Scheme.{Ghosts as Scheme}
use Rattle.vx_scheme.specs.Scheme.{TextLaws}
use Rattle.vx_vers.specs.declared.constraints.Constraint.{Constraint}
use Rattle.vx_vers.specs.Again.{EachWritable, IsSameList, IsWritable, SpellsSame}
use Rattle.vx_vers.specs.Grammar.{IsListOf, IsStarAlone, SpellsList}
use Rattle.vx_vers.specs.Meaning.{kind}
use Rattle.vx_vers.specs.Sorted.{IsSorted}
use Rattle.vx_vers.specs.Texts.{constraint_text, vers_text}
use Rattle.vx_vers.proofs.Spelled.{printed_same}
use Rattle.vx_simplify.specs.Simplified.{simplified}
use Rattle.vx_simplify.proofs.KeptLaws.{simplified_is_sorted}
use Rattle.vx_simplify.proofs.SameLaws.{again_once, again_valid}
use Rattle.vx_translate.specs.Canonical.{PrintsSimplified, MeansSame}
use Rattle.vx_translate.specs.VersTexts.{SpellsVers}
use Rattle.vx_translate.proofs.BackwardLaws.{stay_all}
use Rattle.vx_translate.proofs.VersLaws.{read_each}

-- texts that compare equal are equal
equal_texts : (a b : List ℕ) → slice_cmp nat_cmp a b ≡ Equal → a ≡ b
equal_texts a b e = (bytes_eq-Decides a b).0 (sym (is_eq-slice_cmp a b) ∙ ap is_eq e)

both_equal : (a b : Ordering) → ordering_then a b ≡ Equal → (a ≡ Equal) × (b ≡ Equal)
both_equal Less b e = cc e
both_equal Equal b e = (refl, e)
both_equal Greater b e = cc e

each_more : {C : Type 0} (P Q : C → Type 0) → ((c : C) → P c → Q c) → (list : List C) → AllByRecursion P list → AllByRecursion Q list
each_more P Q gives [] all = tt
each_more P Q gives (c ∷ list) all = (gives c all.0, each_more P Q gives list all.1)

each_given : {C : Type 0} (P Q : C → Type 0) (list : List C) → AllByRecursion (λ c. P c → Q c) list → AllByRecursion P list → AllByRecursion Q list
each_given P Q [] gives all = tt
each_given P Q (c ∷ list) gives all = (gives.0 all.0, each_given P Q list gives.1 all.1)

module _ {S V : Type 0} (scheme : Scheme S V) (total : IsTotalOrder scheme.order) (texts : TextLaws scheme.order scheme.IsVersion scheme.IsWithin scheme.Spells scheme.normal) where
  -- ---- the finer order

  abbrev by_text : V → V → Ordering
  by_text = on scheme.normal (slice_cmp nat_cmp)

  abbrev finer : V → V → Ordering
  finer = then_cmp scheme.order by_text

  finer_total : IsTotalOrder finer
  finer_total = then_total total (on_total scheme.normal nat_list_cmp_total)

  finer_less : (v w : V) → scheme.order v w ≡ Less → finer v w ≡ Less
  finer_less v w e = ap (λ o. ordering_then o (by_text v w)) e

  finer_equal : (v w : V) → scheme.order v w ≡ Equal → scheme.normal v ≡ scheme.normal w → finer v w ≡ Equal
  finer_equal v w e same = ap (λ o. ordering_then o (by_text v w)) e ∙ ap (λ t. slice_cmp nat_cmp t (scheme.normal w)) same ∙ tied_itself nat_list_cmp_total (scheme.normal w)

  finer_texts : TextLaws finer scheme.IsVersion scheme.IsWithin scheme.Spells scheme.normal
  finer_texts = record {
    version_spelled = texts.version_spelled;
    spelled_version = texts.spelled_version;
    spells_one = texts.spells_one;
    normal_spells = λ v is.
        let n = texts.normal_spells v is in
        record { not_empty = n.not_empty; version = n.version; spelled = n.spelled; order_equal = finer_equal n.version v n.order_equal n.same_text; same_text = n.same_text; within = n.within };
  }

  finer_sorted : (list : List (Constraint V)) → IsSorted scheme.order list → IsSorted finer list
  finer_sorted [] s = tt
  finer_sorted (c ∷ list) s = (
    each_more (λ later. scheme.order c.version later.version ≡ Less) (λ later. finer c.version later.version ≡ Less) (λ later. finer_less c.version later.version) list s.0,
    finer_sorted list s.1,
  )

  -- ---- lists that are the same in it

  plain_same : (a b : List (Constraint V)) → IsSameList finer a b → IsSameList scheme.order a b
  plain_same [] [] s = tt
  plain_same [] (d ∷ b) s = absurd s
  plain_same (c ∷ a) [] s = absurd s
  plain_same (c ∷ a) (d ∷ b) s = (s.0, (both_equal (scheme.order c.version d.version) (by_text c.version d.version) s.1).0, plain_same a b s.2)

  same_text : (c d : Constraint V) → c.comparator ≡ d.comparator → finer c.version d.version ≡ Equal → constraint_text scheme.normal c ≡ constraint_text scheme.normal d
  same_text c d sign e =
      let same : scheme.normal c.version ≡ scheme.normal d.version = equal_texts (scheme.normal c.version) (scheme.normal d.version) (both_equal (scheme.order c.version d.version) (by_text c.version d.version) e).1 in
      cc (sign, same)

  same_texts : (a b : List (Constraint V)) → IsSameList finer a b → map (constraint_text scheme.normal) a ≡ map (constraint_text scheme.normal) b
  same_texts [] [] s = refl
  same_texts [] (d ∷ b) s = absurd s
  same_texts (c ∷ a) [] s = absurd s
  same_texts (c ∷ a) (d ∷ b) s = cc (same_text c d s.0 s.1, same_texts a b s.2)

  same_whole : (a b : List (Constraint V)) → IsSameList finer a b → vers_text scheme.name scheme.normal a ≡ vers_text scheme.name scheme.normal b
  same_whole [] [] s = refl
  same_whole [] (d ∷ b) s = absurd s
  same_whole (c ∷ a) [] s = absurd s
  same_whole (c ∷ a) (d ∷ b) s = let e = same_texts (c ∷ a) (d ∷ b) s in cc e

  -- what is the same as a sorted list is sorted
  same_above : (v w : V) → scheme.order v w ≡ Equal → (a b : List (Constraint V)) → IsSameList scheme.order a b → AllByRecursion (λ later. scheme.order w later.version ≡ Less) b
      → AllByRecursion (λ later. scheme.order v later.version ≡ Less) a
  same_above v w e [] [] s up = tt
  same_above v w e [] (d ∷ b) s up = absurd s
  same_above v w e (c ∷ a) [] s up = absurd s
  same_above v w e (c ∷ a) (d ∷ b) s up = (total.congr v w c.version e ∙ alike_right total c.version d.version w s.1 ∙ up.0, same_above v w e a b s.2 up.1)

  same_sorted : (a b : List (Constraint V)) → IsSameList scheme.order a b → IsSorted scheme.order b → IsSorted scheme.order a
  same_sorted [] [] s sorted = tt
  same_sorted [] (d ∷ b) s sorted = absurd s
  same_sorted (c ∷ a) [] s sorted = absurd s
  same_sorted (c ∷ a) (d ∷ b) s sorted = (same_above c.version d.version s.1 a b s.2 sorted.0, same_sorted a b s.2 sorted.1)

  plain_means : (written : List (List ℕ)) (list : List (Constraint V)) → IsSorted scheme.order list → IsStarAlone written list ⊎ IsListOf finer scheme.Spells written list
      → IsStarAlone written list ⊎ IsListOf scheme.order scheme.Spells written list
  plain_means written list sorted (inl star) = inl star
  plain_means written list sorted (inr l) = inr (record { some = l.some; stars = l.stars; constraints = l.constraints; spelled = l.spelled; same = l.same; sorted = sorted })

  plain_spells : (text : List ℕ) (list : List (Constraint V)) → IsSorted scheme.order list → SpellsList scheme.name finer scheme.Spells text list → SpellsList scheme.name scheme.order scheme.Spells text list
  plain_spells text list sorted s = record { written = s.written; is = s.is; means = plain_means s.written list sorted s.means }

  -- ---- the printed text of a simplified list

  -- a list that is read is sorted
  meant_sorted : (written : List (List ℕ)) (list : List (Constraint V)) → IsStarAlone written list ⊎ IsListOf scheme.order scheme.Spells written list → IsSorted scheme.order list
  meant_sorted written list (inl star) = subst (IsSorted scheme.order) (sym star.every) tt
  meant_sorted written list (inr l) = l.sorted

  abbrev IsWritten : V → Type 0
  IsWritten v = IsWritable scheme.IsVersion scheme.IsWithin scheme.normal v

  module _ (writable : (t : List ℕ) (v : V) → IsUtf8 t → scheme.Spells t v → scheme.IsWithin v → IsWritten v) where
    read_writable : (text : List ℕ) (list : List (Constraint V)) → SpellsVers scheme text list → EachWritable scheme.IsVersion scheme.IsWithin scheme.normal list
    read_writable text list read =
        each_given (λ c. scheme.IsWithin c.version) (λ c. IsWritten c.version) list (read_each scheme text (λ v. scheme.IsWithin v → IsWritten v) writable list read) read.within

    -- the printed text of a simplified list spells it again, over the finer order
    spells_again : (text out : List ℕ) (p : PrintsSimplified scheme text out) → SpellsSame scheme.name finer scheme.Spells scheme.IsWithin out (simplified kind p.list)
    spells_again text out p =
        let simple = simplified kind p.list in
        let sorted = simplified_is_sorted scheme.order p.list (meant_sorted p.read.spelled.written p.list p.read.spelled.means) in
        let each = stay_all kind (λ c. IsWritten c.version) [] p.list (read_writable text p.list p.read) in
        subst (λ t. SpellsSame scheme.name finer scheme.Spells scheme.IsWithin t simple) (sym p.printed)
        (printed_same finer finer_total scheme.IsVersion scheme.IsWithin scheme.Spells scheme.normal finer_texts scheme.name simple each (finer_sorted simple sorted))

    -- and so over the scheme's
    reads_again : (text out : List ℕ) (p : PrintsSimplified scheme text out) → SpellsVers scheme out (spells_again text out p).again
    reads_again text out p =
        let simple = simplified kind p.list in
        let spells = spells_again text out p in
        let sorted = simplified_is_sorted scheme.order p.list (meant_sorted p.read.spelled.written p.list p.read.spelled.means) in
        record {
          spelled = plain_spells out spells.again (same_sorted spells.again simple (plain_same spells.again simple spells.same) sorted) spells.spelled;
          within = spells.within;
        }

    pub printed_again : (text out : List ℕ) → PrintsSimplified scheme text out → PrintsSimplified scheme out out
    printed_again text out p =
        let simple = simplified kind p.list in
        let spells = spells_again text out p in
        let once : simplified kind spells.again ≡ spells.again = again_once scheme.order spells.again p.list (plain_same spells.again simple spells.same) in
        record {
          list = spells.again;
          read = reads_again text out p;
          printed = p.printed ∙ sym (same_whole spells.again simple spells.same) ∙ ap (vers_text scheme.name scheme.normal) (sym once);
        }

    pub means_again : (text out : List ℕ) → PrintsSimplified scheme text out → MeansSame scheme out out
    means_again text out p =
        let simple = simplified kind p.list in
        let spells = spells_again text out p in
        let same = plain_same spells.again simple spells.same in
        record {
          list = spells.again;
          read = reads_again text out p;
          canonical = spells.again;
          again = reads_again text out p;
          valid = again_valid scheme.order spells.again p.list same;
          same = λ v. refl;
          simple = again_once scheme.order spells.again p.list same;
        }
