-- What is written of terms is read as these terms, in each table whose operators and version texts hold no blank, comma
-- or bar.
use Rattle.std.proofs.Common.{◌≡◌, ◌≢◌, ◌+◌, ◌-◌, ◌==◌, ◌||◌, not, ℕ, Bool, true, false, List, [], ◌∷◌, ◌++◌, length, take, reverse, refl, sym, ap, ◌∙◌, subst, inl, inr, map, Option, Some, None, arith, append-nil, append_assoc, length-append}
use Rattle.std.specs.List.{list_all, AllByRecursion, prefix_len, suffix_len, slice_split}
use Rattle.std.proofs.lemmas.Bool.{cases_Bool, and_parts, and_from, not-true}
use Rattle.std.proofs.lemmas.Bool.Decides.{nat_tests}
use Rattle.std.proofs.lemmas.List.{reverse-append}
use Rattle.vx_spec.specs.Marks.{Lacks}
use Rattle.vx_spec.specs.Each.{AreEach}
use Rattle.vx_spec.specs.Runs.{is_blank, begins, past, without_end, trimmed}
use Rattle.vx_spec.proofs.RunLaws.{past_step, past_stays, one_run}
use Rattle.vx_spec.proofs.EndLaws.{lacks_by, lacks_append}
use Rattle.vx_text.proofs.Joins.{split_whole, split_first}
use Rattle.vx_range.specs.Lists.{Plain, pieces_of, pieces_at, is_some, not_empty, group_of, groups_of}
use Rattle.vx_range.specs.Reading as ranges
use Rattle.relation_ranges.specs.declared.relations.Relation.{Relation}
use Rattle.relation_ranges.specs.Reading as relations
use Rattle.relation_ranges.specs.Reading.{version_text}
use Rattle.relation_ranges.specs.Written as written

-- ---- blanks at the ends

-- a text that begins and ends with a byte that is no blank
record IsTight (text : List ℕ) : Type 0 where
  first : begins is_blank text ≡ false
  some : is_some text ≡ true
  last : suffix_len is_blank text ≡ 0

last_solid : (xs : List ℕ) (b : ℕ) → is_blank b ≡ false → suffix_len is_blank (xs ++ b ∷ []) ≡ 0
last_solid xs b solid = rw (reverse-append xs (b ∷ []), solid) refl

solid_end : (xs ys : List ℕ) → is_some ys ≡ true → list_all (λ b. not (is_blank b)) ys ≡ true → suffix_len is_blank (xs ++ ys) ≡ 0
solid_end xs [] some all = absurd (cc some)
solid_end xs (b ∷ []) some all = last_solid xs b (not-true (is_blank b) (and_parts (not (is_blank b)) true all).0)
solid_end xs (b ∷ c ∷ ys) some all =
    ap (suffix_len is_blank) (sym (append_assoc xs (b ∷ []) (c ∷ ys))) ∙ solid_end (xs ++ b ∷ []) (c ∷ ys) refl (and_parts (not (is_blank b)) (list_all (λ d. not (is_blank d)) (c ∷ ys)) all).1

past_tight : (text : List ℕ) → begins is_blank text ≡ false → past is_blank text ≡ text
past_tight [] first = refl
past_tight (b ∷ text) first = past_stays is_blank b text first

take_all : (text : List ℕ) → take (length text) text ≡ text
take_all [] = refl
take_all (b ∷ text) = ap (λ (t : List ℕ). b ∷ t) (take_all text)

trimmed_tight : (text : List ℕ) → IsTight text → trimmed text ≡ text
trimmed_tight text tight =
    ap (without_end is_blank) (past_tight text tight.first)
    ∙ (rw (tight.last) (let size : length text - 0 ≡ length text = omega arith in rw size (take_all text)))

-- behind a blank
trimmed_behind : (text : List ℕ) → IsTight text → trimmed (32 ∷ text) ≡ text
trimmed_behind text tight = ap (without_end is_blank) (past_step is_blank 32 text refl) ∙ trimmed_tight text tight

take_front : (xs ys : List ℕ) → take (length xs) (xs ++ ys) ≡ xs
take_front [] ys = refl
take_front (x ∷ xs) ys = ap (λ (t : List ℕ). x ∷ t) (take_front xs ys)

begins_front : (xs ys : List ℕ) → is_some xs ≡ true → begins is_blank xs ≡ false → begins is_blank (xs ++ ys) ≡ false
begins_front [] ys some first = absurd (cc some)
begins_front (x ∷ xs) ys some first = first

-- before a blank
trimmed_before : (text : List ℕ) → IsTight text → trimmed (text ++ 32 ∷ []) ≡ text
trimmed_before text tight =
    let kept = past_tight (text ++ 32 ∷ []) (begins_front text (32 ∷ []) tight.some tight.first) in
    let one : suffix_len is_blank (text ++ 32 ∷ []) ≡ 1 = rw (reverse-append text (32 ∷ [])) (rw tight.last refl) in
    let size : length (text ++ 32 ∷ []) - 1 ≡ length text = omega (arith, length-append text (32 ∷ [])) in
    ap (without_end is_blank) kept ∙ (rw (one, size) (take_front text (32 ∷ [])))

-- ---- what is asked of a table

-- a byte of words: neither blank, comma (44) nor bar (124)
abbrev pub is_word_byte : ℕ → Bool
is_word_byte b = not (is_blank b || b == 44 || b == 124)

-- a text of such bytes, one or more
pub record IsWord (text : List ℕ) : Type 0 where
  pub bytes : list_all is_word_byte text ≡ true
  pub some : is_some text ≡ true

pub some_text : (text : List ℕ) → text ≢ [] → is_some text ≡ true
some_text [] some = absurd (some refl)
some_text (b ∷ text) some = refl

-- operators and version texts are words, the signs of an operator are its bytes, and a space is none of them
pub record IsWritable {O V : Type 0} (is_sign : ℕ → Bool) (signs_of : O → List ℕ) (HasSigns : O → List ℕ → Type 0) (Spells : List ℕ → V → Type 0) (normal : V → List ℕ) (IsVersion : V → Type 0) : Type 0 where
  pub no_blank : is_sign 32 ≡ false
  pub signs_all : (operator : O) → list_all is_sign (signs_of operator) ≡ true
  pub signs_word : (operator : O) → IsWord (signs_of operator)
  pub signs_are : (operator : O) → HasSigns operator (signs_of operator)
  pub text_word : (v : V) → IsVersion v → IsWord (normal v)
  pub spelled : (v : V) → IsVersion v → Spells (normal v) v

-- a word holds no blank, comma or bar
word_solid : (b : ℕ) → is_word_byte b ≡ true → not (is_blank b) ≡ true
word_solid b is = grind (arith, nat_tests)

all_solid : (text : List ℕ) → list_all is_word_byte text ≡ true → list_all (λ b. not (is_blank b)) text ≡ true
all_solid [] all = refl
all_solid (b ∷ text) all =
    let a = and_parts (is_word_byte b) (list_all is_word_byte text) all in
    and_from (not (is_blank b)) (list_all (λ d. not (is_blank d)) text) (word_solid b a.0) (all_solid text a.1)

begins_solid : (text : List ℕ) → list_all (λ b. not (is_blank b)) text ≡ true → begins is_blank text ≡ false
begins_solid [] all = refl
begins_solid (b ∷ text) all = not-true (is_blank b) (and_parts (not (is_blank b)) (list_all (λ d. not (is_blank d)) text) all).0

word_begins : (word rest : List ℕ) → IsWord word → begins is_blank (word ++ rest) ≡ false
word_begins word rest is = begins_front word rest is.some (begins_solid word (all_solid word is.bytes))

word_lacks : (mark : ℕ) → is_word_byte mark ≡ false → (word : List ℕ) → IsWord word → Lacks mark word
word_lacks mark fails word is = lacks_by is_word_byte mark fails word is.bytes

some_front : (xs ys : List ℕ) → is_some xs ≡ true → is_some (xs ++ ys) ≡ true
some_front [] ys some = absurd (cc some)
some_front (x ∷ xs) ys some = refl

-- ---- texts side by side

two_parts : (a b : List ℕ) → Lacks 124 a → Lacks 124 b → slice_split (λ d. d == 124) (a ++ (32 ∷ 124 ∷ 32 ∷ b)) ≡ (a ++ 32 ∷ []) ∷ (32 ∷ b) ∷ []
two_parts a b p q =
    ap (slice_split (λ d. d == 124)) (sym (append_assoc a (32 ∷ []) (124 ∷ 32 ∷ b)))
    ∙ split_first 124 (a ++ 32 ∷ []) (32 ∷ b) (lacks_append 124 a (32 ∷ []) p (λ e. omega (arith, e), tt))
    ∙ ap (λ (parts : List (List ℕ)). (a ++ 32 ∷ []) ∷ parts) (split_whole 124 (32 ∷ b) (λ e. omega (arith, e), q))

prefix_zero : (zs ws : List ℕ) → is_some zs ≡ true → prefix_len is_blank zs ≡ 0 → prefix_len is_blank (zs ++ ws) ≡ 0
prefix_zero [] ws some none = absurd (cc some)
prefix_zero (z ∷ zs) ws some none = elim (cases_Bool (is_blank z)) [
  | inl blank ↦ absurd (let e : 1 + prefix_len is_blank zs ≡ 0 = rw blank at none in omega (arith, e))
  | inr solid ↦ rw solid refl
]

some_end : (xs : List ℕ) (b : ℕ) → is_some (xs ++ b ∷ []) ≡ true
some_end [] b = refl
some_end (x ∷ xs) b = refl

some_reverse : (ys : List ℕ) → is_some ys ≡ true → is_some (reverse ys) ≡ true
some_reverse [] some = absurd (cc some)
some_reverse (y ∷ ys) some = ap is_some (reverse-append (y ∷ []) ys) ∙ some_end (reverse ys) y

end_tight : (xs ys : List ℕ) → is_some ys ≡ true → suffix_len is_blank ys ≡ 0 → suffix_len is_blank (xs ++ ys) ≡ 0
end_tight xs ys some none = ap (prefix_len is_blank) (reverse-append xs ys) ∙ prefix_zero (reverse ys) (reverse xs) (some_reverse ys some) none

-- what parts the relations of one term: a bar, or nothing where terms are of one relation
abbrev pub bar_of : Bool → Option ℕ
bar_of true = Some 124
bar_of false = None

-- one relation, or two where there is a bar, of versions
abbrev pub IsTerm : {O V : Type 0} → (V → Type 0) → Bool → List (Relation O V) → Type 0
IsTerm IsVersion barred [] = ⊥
IsTerm IsVersion barred (r ∷ []) = IsVersion r.version
IsTerm IsVersion true (r ∷ s ∷ []) = IsVersion r.version × IsVersion s.version
IsTerm IsVersion false (r ∷ s ∷ []) = ⊥
IsTerm IsVersion barred (r ∷ s ∷ t ∷ term) = ⊥

-- ---- the text of a relation

module _ {O V : Type 0} (is_sign : ℕ → Bool) (signs_of : O → List ℕ) (HasSigns : O → List ℕ → Type 0) (Spells : List ℕ → V → Type 0) (normal : V → List ℕ) (IsVersion : V → Type 0)
    (table : IsWritable is_sign signs_of HasSigns Spells normal IsVersion) where
  abbrev relation_text : Relation O V → List ℕ
  relation_text = written.relation_text signs_of normal

  abbrev term_text : List (Relation O V) → List ℕ
  term_text = written.term_text signs_of normal

  abbrev range_text : List (List (Relation O V)) → List ℕ
  range_text = written.range_text signs_of normal

  abbrev ReadsAs : Plain → Relation O V → Type 0
  ReadsAs = relations.ReadsAs is_sign HasSigns Spells

  relation_tight : (r : Relation O V) → IsVersion r.version → IsTight (relation_text r)
  relation_tight r is =
      let signs = signs_of r.operator in
      let text = normal r.version in
      let word = table.text_word r.version is in
      record {
        first = word_begins signs (32 ∷ text) (table.signs_word r.operator);
        some = some_front signs (32 ∷ text) (table.signs_word r.operator).some;
        last = ap (suffix_len is_blank) (sym (append_assoc signs (32 ∷ []) text)) ∙ solid_end (signs ++ 32 ∷ []) text word.some (all_solid text word.bytes);
      }

  relation_lacks : (mark : ℕ) → is_word_byte mark ≡ false → ◌≢◌ {A = ℕ} 32 mark → (r : Relation O V) → IsVersion r.version → Lacks mark (relation_text r)
  relation_lacks mark fails blank r is =
      lacks_append mark (signs_of r.operator) (32 ∷ normal r.version) (word_lacks mark fails (signs_of r.operator) (table.signs_word r.operator))
      (blank, word_lacks mark fails (normal r.version) (table.text_word r.version is))

  -- a relation's text is read as the relation
  relation_read : (at : ℕ) (r : Relation O V) → IsVersion r.version → ReadsAs (record { kind = tt; at = at; bytes = relation_text r }) r
  relation_read at r is =
      let signs = signs_of r.operator in
      let text = normal r.version in
      let word = table.text_word r.version is in
      let cut = one_run is_sign signs (32 ∷ text) (table.signs_all r.operator) table.no_blank in
      let behind : version_text is_sign (relation_text r) ≡ text =
      ap (past is_blank) cut.1 ∙ past_step is_blank 32 text refl ∙ past_tight text (begins_solid text (all_solid text word.bytes)) in
      record {
        operator = subst (HasSigns r.operator) (sym cut.0) (table.signs_are r.operator);
        version = subst (λ t. Spells t r.version) (sym behind) (table.spelled r.version is);
      }

  -- a piece that has a relation's text
  relation_reads : (at : ℕ) (bytes : List ℕ) (r : Relation O V) → bytes ≡ relation_text r → IsVersion r.version → ReadsAs (record { kind = tt; at = at; bytes = bytes }) r
  relation_reads at bytes r e is = subst (λ b. ReadsAs (record { kind = tt; at = at; bytes = b }) r) (sym e) (relation_read at r is)

  -- ---- the text of a term

  bar_lacks : (r : Relation O V) → IsVersion r.version → Lacks 124 (relation_text r)
  bar_lacks r is = relation_lacks 124 refl (λ e. omega (arith, e)) r is

  comma_lacks : (r : Relation O V) → IsVersion r.version → Lacks 44 (relation_text r)
  comma_lacks r is = relation_lacks 44 refl (λ e. omega (arith, e)) r is

  term_read : (barred : Bool) (at : ℕ) (bytes : List ℕ) (term : List (Relation O V)) → bytes ≡ term_text term → IsTerm IsVersion barred term → AreEach ReadsAs (group_of (bar_of barred) (record { kind = tt; at = at; bytes = bytes })) term
  term_read barred at bytes [] e is = absurd is
  term_read false at bytes (r ∷ []) e is = (relation_reads at bytes r e is, tt)
  term_read false at bytes (r ∷ s ∷ []) e is = absurd is
  term_read false at bytes (r ∷ s ∷ t ∷ term) e is = absurd is
  term_read true at bytes (r ∷ []) e is =
      subst (λ b. AreEach ReadsAs (pieces_at 124 at b) (r ∷ [])) (sym e)
      (subst (λ (parts : List (List ℕ)). AreEach ReadsAs (pieces_of at parts) (r ∷ [])) (sym (split_whole 124 (relation_text r) (bar_lacks r is)))
      (relation_reads _ (trimmed (relation_text r)) r (trimmed_tight (relation_text r) (relation_tight r is)) is, tt))
  term_read true at bytes (r ∷ s ∷ []) e is =
      subst (λ b. AreEach ReadsAs (pieces_at 124 at b) (r ∷ s ∷ [])) (sym e)
      (subst (λ (parts : List (List ℕ)). AreEach ReadsAs (pieces_of at parts) (r ∷ s ∷ [])) (sym (two_parts (relation_text r) (relation_text s) (bar_lacks r is.0) (bar_lacks s is.1))) (
        relation_reads _ (trimmed (relation_text r ++ 32 ∷ [])) r (trimmed_before (relation_text r) (relation_tight r is.0)) is.0,
        (relation_reads _ (trimmed (32 ∷ relation_text s)) s (trimmed_behind (relation_text s) (relation_tight s is.1)) is.1, tt),
      ))
  term_read true at bytes (r ∷ s ∷ t ∷ term) e is = absurd is

  term_tight : (barred : Bool) (term : List (Relation O V)) → IsTerm IsVersion barred term → IsTight (term_text term)
  term_tight barred [] is = absurd is
  term_tight barred (r ∷ []) is = relation_tight r is
  term_tight false (r ∷ s ∷ []) is = absurd is
  term_tight true (r ∷ s ∷ []) is =
      let first = relation_tight r is.0 in
      let last = relation_tight s is.1 in
      let rest = 32 ∷ 124 ∷ 32 ∷ relation_text s in
      record {
        first = begins_front (relation_text r) rest first.some first.first;
        some = some_front (relation_text r) rest first.some;
        last = end_tight (relation_text r) rest refl (end_tight (32 ∷ 124 ∷ 32 ∷ []) (relation_text s) last.some last.last);
      }
  term_tight barred (r ∷ s ∷ t ∷ term) is = absurd is

  term_lacks : (barred : Bool) (term : List (Relation O V)) → IsTerm IsVersion barred term → Lacks 44 (term_text term)
  term_lacks barred [] is = absurd is
  term_lacks barred (r ∷ []) is = comma_lacks r is
  term_lacks false (r ∷ s ∷ []) is = absurd is
  term_lacks true (r ∷ s ∷ []) is =
      lacks_append 44 (relation_text r) (32 ∷ 124 ∷ 32 ∷ relation_text s) (comma_lacks r is.0)
      (λ e. omega (arith, e), (λ e. omega (arith, e), (λ e. omega (arith, e), comma_lacks s is.1)))
  term_lacks barred (r ∷ s ∷ t ∷ term) is = absurd is

  -- ---- the text of all terms

  abbrev terms_between : Bool → List Plain → List (List Plain)
  terms_between barred pieces = map (group_of (bar_of barred)) (not_empty pieces)

  abbrev AreTerms : List (List Plain) → List (List (Relation O V)) → Type 0
  AreTerms = AreEach (AreEach ReadsAs)

  -- what stands behind the first term
  abbrev behind_first : List (List (Relation O V)) → List ℕ
  behind_first [] = []
  behind_first (term ∷ terms) = 44 ∷ 32 ∷ range_text (term ∷ terms)

  range_is : (term : List (Relation O V)) (terms : List (List (Relation O V))) → range_text (term ∷ terms) ≡ term_text term ++ behind_first terms
  range_is term [] = sym (append-nil (term_text term))
  range_is term (next ∷ terms) = refl

  one_more : (barred : Bool) (at : ℕ) (bytes : List ℕ) (pieces : List Plain) (term : List (Relation O V)) (terms : List (List (Relation O V))) → bytes ≡ term_text term → IsTerm IsVersion barred term
      → AreTerms (terms_between barred pieces) terms → AreTerms (terms_between barred (record { kind = tt; at = at; bytes = bytes } ∷ pieces)) (term ∷ terms)
  one_more barred at bytes pieces term terms e is rest =
      let some : is_some bytes ≡ true = ap is_some e ∙ (term_tight barred term is).some in
      rw some (term_read barred at bytes term e is, rest)

  parts_read : (barred : Bool) (at : ℕ) (part : List ℕ) (term : List (Relation O V)) (terms : List (List (Relation O V))) → trimmed part ≡ term_text term → Lacks 44 part → IsTerm IsVersion barred term → AllByRecursion (IsTerm IsVersion barred) terms
      → AreTerms (terms_between barred (pieces_at 44 at (part ++ behind_first terms))) (term ∷ terms)
  parts_read barred at part term [] e lacks is all =
      subst (λ (parts : List (List ℕ)). AreTerms (terms_between barred (pieces_of at parts)) (term ∷ [])) (sym (ap (slice_split (λ b. b == 44)) (append-nil part) ∙ split_whole 44 part lacks))
      (one_more barred _ (trimmed part) [] term [] e is tt)
  parts_read barred at part term (next ∷ terms) e lacks is all =
      let rest = range_text (next ∷ terms) in
      let split = split_first 44 part (32 ∷ rest) lacks in
      let here = at + length part + 1 in
      let read = parts_read barred here (32 ∷ term_text next) next terms (trimmed_behind (term_text next) (term_tight barred next all.0)) (λ d. omega (arith, d), term_lacks barred next all.0) all.0 all.1 in
      let behind : AreTerms (terms_between barred (pieces_at 44 here (32 ∷ rest))) (next ∷ terms) =
      subst (λ (t : List ℕ). AreTerms (terms_between barred (pieces_at 44 here (32 ∷ t))) (next ∷ terms)) (sym (range_is next terms)) read in
      subst (λ (parts : List (List ℕ)). AreTerms (terms_between barred (pieces_of at parts)) (term ∷ next ∷ terms)) (sym split)
      (one_more barred _ (trimmed part) (pieces_at 44 here (32 ∷ rest)) term (next ∷ terms) e is behind)

  all_read : (barred : Bool) (terms : List (List (Relation O V))) → AllByRecursion (IsTerm IsVersion barred) terms → AreTerms (groups_of (bar_of barred) (range_text terms)) terms
  all_read barred [] all = tt
  all_read barred (term ∷ terms) all =
      subst (λ (t : List ℕ). AreTerms (terms_between barred (pieces_at 44 0 t)) (term ∷ terms)) (sym (range_is term terms))
      (parts_read barred 0 (term_text term) term terms (trimmed_tight (term_text term) (term_tight barred term all.0)) (term_lacks barred term all.0) all.0 all.1)

  -- What is written of terms is read as these terms.
  pub written_read : (barred : Bool) (terms : List (List (Relation O V))) → AllByRecursion (IsTerm IsVersion barred) terms → ranges.Reads (relations.IsCut (bar_of barred)) ReadsAs (range_text terms) terms
  written_read barred terms all = record { groups = groups_of (bar_of barred) (range_text terms); cut = refl; each = all_read barred terms all }
