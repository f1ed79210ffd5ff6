-- The printed text of a list spells a list with the same comparators and order-equal versions.
use Rattle.std.proofs.Common.{◌≡◌, ◌≢◌, ◌⊎◌, ◌<◌, ◌≤◌, ◌++◌, ◌||◌, eqb, ℕ, Bool, true, false, true≢false, List, [], ◌∷◌, length, map, refl, sym, ap, subst, ◌∙◌, inl, inr, arith, Ordering, Less, Equal}
use Rattle.std.specs.Prelude.{IsUtf8, codes}
use Rattle.std.specs.Cmp.{IsTotalOrder, alike_right}
use Rattle.std.specs.List.{AllByRecursion, list_all}
use Rattle.std.proofs.lemmas.Bool.{and_parts, ne_eqb}
use Rattle.std.proofs.lemmas.List.Elements.{All-from_recursion}
use Rattle.std.proofs.lemmas.List.Sorted.{IsPermutation-refl}
use Rattle.vx_spec.specs.Marks.{Lacks}
use Rattle.vx_spec.specs.Runs.{is_solid}
use Rattle.vx_spec.proofs.EndLaws.{lacks_append}
use Rattle.vx_spec.proofs.TextLaws.{each_append, each_by_test, each_joined, test_by_each}
use Rattle.vx_scheme.specs.declared.name.SchemeName.{SchemeName}
use Rattle.vx_scheme.specs.Names.{text_of}
use Rattle.vx_scheme.specs.Scheme.{TextLaws}
use Rattle.vx_text.specs.Escapes.{escaped, is_left, unescaped}
use Rattle.vx_text.proofs.EscapeLaws.{escaped-whole, escaped_ascii, escaped_lacks, escaped_some, unescaped-escaped}
use Rattle.vx_vers.specs.declared.constraints.Comparator.{Comparator}
use Rattle.vx_vers.specs.declared.constraints.Comparator.TheVariants.{Equal as EqualTo, NotEqual as NotEqualTo, Less as LessThan, LessEqual as AtMost, Greater as GreaterThan, GreaterEqual as AtLeast}
use Rattle.vx_vers.specs.declared.constraints.Constraint.{Constraint}
use Rattle.vx_vers.specs.Again.{EachWritable, IsSameList, IsWritable, SpellsSame}
use Rattle.vx_text.specs.Pieces.{kept_parts}
use Rattle.vx_vers.specs.Grammar.{AreParts, EachWithin, IsListOf, IsSigned, IsStarAlone, NoStar, SpellEach, SpellsConstraint, SpellsSolid, Writes}
use Rattle.vx_vers.specs.Heads.{solid}
use Rattle.vx_vers.specs.Sorted.{IsSorted}
use Rattle.vx_vers.specs.Texts.{constraint_text, constraints_text, sign, vers_text}
use Rattle.vx_vers.proofs.HeadLaws.{filter_all, head_named, head_solid, lacks_by_test}

-- ---- no blanks

abbrev IsSolid : ℕ → Type 0
IsSolid b = is_solid b ≡ true

solid_test : (text : List ℕ) → list_all is_solid text ≡ true → AllByRecursion IsSolid text
solid_test text all = each_by_test IsSolid is_solid text (λ b t. t) all

sign_solid : (c : Comparator) → AllByRecursion IsSolid (sign c)
sign_solid EqualTo = tt
sign_solid NotEqualTo = solid_test (codes "!=") refl
sign_solid LessThan = solid_test (codes "<") refl
sign_solid AtMost = solid_test (codes "<=") refl
sign_solid GreaterThan = solid_test (codes ">") refl
sign_solid AtLeast = solid_test (codes ">=") refl

-- a byte of an escaped text is none that is escaped, but `%`
other_byte : (b c : ℕ) → is_left c ≡ false → 37 ≢ c → (b ≡ 37) ⊎ (is_left b ≡ true) → eqb b c ≡ false
other_byte b c out other (inl e) = ne_eqb b c (λ same. other (sym e ∙ same))
other_byte b c out other (inr left) = ne_eqb b c (λ same. true≢false (sym left ∙ ap is_left same ∙ out))

escaped_solid_byte : (b : ℕ) → (b ≡ 37) ⊎ (is_left b ≡ true) → IsSolid b
escaped_solid_byte b h = rw (other_byte b 32 refl (omega arith) h, other_byte b 9 refl (omega arith) h) refl

each_more : (P Q : ℕ → Type 0) (text : List ℕ) → ((b : ℕ) → P b → Q b) → AllByRecursion P text → AllByRecursion Q text
each_more P Q [] h all = tt
each_more P Q (b ∷ text) h all = (h b all.0, each_more P Q text h all.1)

escaped_solid : (text : List ℕ) → AllByRecursion IsSolid (escaped text)
escaped_solid text = each_more (λ b. (b ≡ 37) ⊎ (is_left b ≡ true)) IsSolid (escaped text) escaped_solid_byte (escaped_ascii text)

-- ---- comparators

is_sign_byte : ℕ → Bool
is_sign_byte b = eqb b 33 || eqb b 60 || eqb b 61 || eqb b 62

signs_only : (front : List ℕ) (c : Comparator) → Writes front c → list_all is_sign_byte front ≡ true
unfolding is_sign_byte
signs_only front EqualTo (inl w) = ap (list_all is_sign_byte) w
signs_only front NotEqualTo (inl w) = ap (list_all is_sign_byte) w
signs_only front LessThan (inl w) = ap (list_all is_sign_byte) w
signs_only front AtMost (inl w) = ap (list_all is_sign_byte) w
signs_only front GreaterThan (inl w) = ap (list_all is_sign_byte) w
signs_only front AtLeast (inl w) = ap (list_all is_sign_byte) w
signs_only front c (inr w) = ap (list_all is_sign_byte) w.1

escaped_no_sign : (b : ℕ) → (b ≡ 37) ⊎ (is_left b ≡ true) → is_sign_byte b ≡ false
unfolding is_sign_byte
escaped_no_sign b h =
    rw (other_byte b 33 refl (omega arith) h, other_byte b 60 refl (omega arith) h, other_byte b 61 refl (omega arith) h, other_byte b 62 refl (omega arith) h) refl

fits_no_more : (a raw other more : List ℕ) → list_all is_sign_byte other ≡ true → AllByRecursion (λ b. is_sign_byte b ≡ false) raw → a ++ raw ≡ other ++ more → length other ≤ length a
fits_no_more a raw [] more signs none e = omega arith
fits_no_more [] [] (o ∷ other) more signs none e = cc e
fits_no_more [] (r ∷ raw) (o ∷ other) more signs none e =
    let same : r ≡ o = cc e in
    absurd (true≢false (sym (and_parts (is_sign_byte o) (list_all is_sign_byte other) signs).0 ∙ ap is_sign_byte (sym same) ∙ none.0))
fits_no_more (x ∷ a) raw (o ∷ other) more signs none e =
    let rest : length other ≤ length a = fits_no_more a raw other more (and_parts (is_sign_byte o) (list_all is_sign_byte other) signs).1 none (cc e) in
    omega arith

signed_escaped : (c : Comparator) (text : List ℕ) → IsSigned (sign c ++ escaped text) c (escaped text)
signed_escaped c text = record {
  front = sign c;
  writes = inl refl;
  joined = refl;
  longest = λ other d more w e.
      fits_no_more (sign c) (escaped text) other more (signs_only other d w)
      (each_more (λ b. (b ≡ 37) ⊎ (is_left b ≡ true)) (λ b. is_sign_byte b ≡ false) (escaped text) escaped_no_sign (escaped_ascii text)) e;
}

-- ---- what a sign lacks

sign_lacks_bar : (c : Comparator) → Lacks 124 (sign c)
sign_lacks_bar EqualTo = tt
sign_lacks_bar NotEqualTo = lacks_by_test 124 (codes "!=") refl
sign_lacks_bar LessThan = lacks_by_test 124 (codes "<") refl
sign_lacks_bar AtMost = lacks_by_test 124 (codes "<=") refl
sign_lacks_bar GreaterThan = lacks_by_test 124 (codes ">") refl
sign_lacks_bar AtLeast = lacks_by_test 124 (codes ">=") refl

sign_lacks_star : (c : Comparator) → Lacks 42 (sign c)
sign_lacks_star EqualTo = tt
sign_lacks_star NotEqualTo = lacks_by_test 42 (codes "!=") refl
sign_lacks_star LessThan = lacks_by_test 42 (codes "<") refl
sign_lacks_star AtMost = lacks_by_test 42 (codes "<=") refl
sign_lacks_star GreaterThan = lacks_by_test 42 (codes ">") refl
sign_lacks_star AtLeast = lacks_by_test 42 (codes ">=") refl

not_empty : (a raw : List ℕ) → raw ≢ [] → a ++ raw ≢ []
not_empty [] raw some = some
not_empty (x ∷ a) raw some = λ e. cc e

kept_some : (text : List ℕ) (texts : List (List ℕ)) → text ≢ [] → kept_parts (text ∷ texts) ≡ text ∷ kept_parts texts
kept_some [] texts some = absurd (some refl)
kept_some (b ∷ text) texts some = refl

module _ {V : Type 0} (order : V → V → Ordering) (laws : IsTotalOrder order) (IsVersion IsWithin : V → Type 0) (Spells : List ℕ → V → Type 0) (normal : V → List ℕ) (texts : TextLaws order IsVersion IsWithin Spells normal) where
  some_text : (c : Constraint V) → IsVersion c.version → constraint_text normal c ≢ []
  some_text c is = not_empty (sign c.comparator) (escaped (normal c.version)) (escaped_some (normal c.version) (texts.normal_spells c.version is).not_empty)

  -- the constraint that its text spells
  again_one : (c : Constraint V) → IsVersion c.version → Constraint V
  again_one c is = record { comparator = c.comparator; version = (texts.normal_spells c.version is).version }

  bytes_of : (list : List ℕ) → AllByRecursion (λ b. b < 256) list → unescaped (escaped list) ≡ list
  bytes_of list small = unescaped-escaped list (All-from_recursion (λ b. b < 256) list small)

  spells_one : (c : Constraint V) (w : IsWritable IsVersion IsWithin normal c.version) → SpellsConstraint Spells (constraint_text normal c) (again_one c w.is)
  unfolding again_one
  spells_one c w =
      let plain = normal c.version in
      let back : unescaped (escaped plain) ≡ plain = bytes_of plain w.bytes in
      let spelled = texts.normal_spells c.version w.is in
      record {
        raw = escaped plain;
        signed = signed_escaped c.comparator plain;
        form = record { some = escaped_some plain spelled.not_empty; whole = escaped-whole plain; utf8 = subst IsUtf8 (sym back) w.utf8 };
        version = subst (λ t. Spells t spelled.version) (sym back) spelled.spelled;
      }

  again : (list : List (Constraint V)) → EachWritable IsVersion IsWithin normal list → List (Constraint V)
  again [] all = []
  again (c ∷ list) all = again_one c all.0.is ∷ again list all.1

  spells_each : (list : List (Constraint V)) (all : EachWritable IsVersion IsWithin normal list) → SpellEach Spells (map (constraint_text normal) list) (again list all)
  unfolding again
  spells_each [] all = tt
  spells_each (c ∷ list) all = (spells_one c all.0, spells_each list all.1)

  each_within : (list : List (Constraint V)) (all : EachWritable IsVersion IsWithin normal list) → EachWithin IsWithin (again list all)
  unfolding again again_one
  each_within [] all = tt
  each_within (c ∷ list) all = ((texts.normal_spells c.version all.0.is).within all.0.within, each_within list all.1)

  same_list : (list : List (Constraint V)) (all : EachWritable IsVersion IsWithin normal list) → IsSameList order (again list all) list
  unfolding again again_one
  same_list [] all = tt
  same_list (c ∷ list) all = (refl, (texts.normal_spells c.version all.0.is).order_equal, same_list list all.1)

  above_again : (v w : V) → order w v ≡ Equal → (list : List (Constraint V)) (all : EachWritable IsVersion IsWithin normal list) → AllByRecursion (λ later. order v later.version ≡ Less) list → AllByRecursion (λ later. order w later.version ≡ Less) (again list all)
  unfolding again again_one
  above_again v w e [] all up = tt
  above_again v w e (c ∷ list) all up =
      let d = texts.normal_spells c.version all.0.is in
      (laws.congr w v d.version e ∙ alike_right laws d.version c.version v d.order_equal ∙ up.0, above_again v w e list all.1 up.1)

  sorted_again : (list : List (Constraint V)) (all : EachWritable IsVersion IsWithin normal list) → IsSorted order list → IsSorted order (again list all)
  unfolding again again_one
  sorted_again [] all up = tt
  sorted_again (c ∷ list) all up =
      let d = texts.normal_spells c.version all.0.is in
      (above_again c.version d.version d.order_equal list all.1 up.0, sorted_again list all.1 up.1)

  -- ---- the parts of the printed text

  texts_apart : (list : List (Constraint V)) → AllByRecursion (Lacks 124) (map (constraint_text normal) list)
  texts_apart [] = tt
  texts_apart (c ∷ list) = (lacks_append 124 (sign c.comparator) (escaped (normal c.version)) (sign_lacks_bar c.comparator) (escaped_lacks 124 (normal c.version) refl (omega arith)), texts_apart list)

  texts_kept : (list : List (Constraint V)) → EachWritable IsVersion IsWithin normal list → kept_parts (map (constraint_text normal) list) ≡ map (constraint_text normal) list
  texts_kept [] all = refl
  texts_kept (c ∷ list) all =
      kept_some (constraint_text normal c) (map (constraint_text normal) list) (some_text c all.0.is)
      ∙ ap (λ (ts : List (List ℕ)). constraint_text normal c ∷ ts) (texts_kept list all.1)

  texts_starless : (list : List (Constraint V)) → NoStar (map (constraint_text normal) list)
  texts_starless [] = tt
  texts_starless (c ∷ list) = (
    λ e.
        let lacks : Lacks 42 (constraint_text normal c) = lacks_append 42 (sign c.comparator) (escaped (normal c.version)) (sign_lacks_star c.comparator) (escaped_lacks 42 (normal c.version) refl (omega arith)) in
        (subst (Lacks 42) e lacks).0 refl,
    texts_starless list,
  )

  texts_solid : (list : List (Constraint V)) → AllByRecursion (AllByRecursion IsSolid) (map (constraint_text normal) list)
  texts_solid [] = tt
  texts_solid (c ∷ list) = (each_append IsSolid (sign c.comparator) (escaped (normal c.version)) (sign_solid c.comparator) (escaped_solid (normal c.version)), texts_solid list)

  list_solid : (list : List (Constraint V)) → AllByRecursion IsSolid (constraints_text normal list)
  list_solid [] = solid_test (codes "*") refl
  list_solid (c ∷ list) = each_joined IsSolid 124 refl (map (constraint_text normal) (c ∷ list)) (texts_solid (c ∷ list))

  whole_solid : (name : SchemeName) (list : List (Constraint V)) → solid (vers_text name normal list) ≡ vers_text name normal list
  whole_solid name list =
      filter_all is_solid (vers_text name normal list)
      (test_by_each IsSolid is_solid (vers_text name normal list) (λ b t. t)
      (each_append IsSolid (codes "vers:" ++ text_of name) (codes "/" ++ constraints_text normal list) (solid_test (codes "vers:" ++ text_of name) (head_solid name)) (refl, list_solid list)))

  written_texts : List (Constraint V) → List (List ℕ)
  written_texts [] = codes "*" ∷ []
  written_texts (c ∷ list) = map (constraint_text normal) (c ∷ list)

  list_parts : (list : List (Constraint V)) → EachWritable IsVersion IsWithin normal list → AreParts (constraints_text normal list) (written_texts list)
  unfolding written_texts
  list_parts [] all = record { parts = codes "*" ∷ []; some = omega arith; joined = refl; apart = (lacks_star, tt); counted = refl }
    where
      lacks_star : Lacks 124 (codes "*")
      lacks_star = lacks_by_test 124 (codes "*") refl
  list_parts (c ∷ list) all = record {
    parts = map (constraint_text normal) (c ∷ list);
    some = omega arith;
    joined = refl;
    apart = texts_apart (c ∷ list);
    counted = sym (texts_kept (c ∷ list) all);
  }

  list_means : (list : List (Constraint V)) (all : EachWritable IsVersion IsWithin normal list) → IsSorted order list → IsStarAlone (written_texts list) (again list all) ⊎ IsListOf order Spells (written_texts list) (again list all)
  unfolding written_texts again
  list_means [] all up = inl (record { star = refl; every = refl })
  list_means (c ∷ list) all up = inr (record {
    some = λ e. cc e;
    stars = texts_starless (c ∷ list);
    constraints = again (c ∷ list) all;
    spelled = spells_each (c ∷ list) all;
    same = IsPermutation-refl (again (c ∷ list) all);
    sorted = sorted_again (c ∷ list) all up;
  })

  pub printed_same : (name : SchemeName) (list : List (Constraint V)) → EachWritable IsVersion IsWithin normal list → IsSorted order list → SpellsSame name order Spells IsWithin (vers_text name normal list) list
  printed_same name list all up = record {
    again = again list all;
    spelled = subst (λ t. SpellsSolid name order Spells t (again list all)) (sym (whole_solid name list)) (record {
      written = written_texts list;
      is = record {
        behind = constraints_text normal list;
        head = record { front = codes "vers:" ++ text_of name; joined = refl; named = head_named name };
        parts = list_parts list all;
      };
      means = list_means list all up;
    });
    within = each_within list all;
    same = same_list list all;
  }
