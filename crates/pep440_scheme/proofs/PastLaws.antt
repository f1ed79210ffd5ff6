-- A version is within the limit exactly where no numeral of its text is past it.
use Rattle.std.proofs.Common.{◌≡◌, ◌↔◌, ◌<◌, ◌+◌, ◌^◌, ◌++◌, ◌&&◌, ◌==◌, nat_lt, not, ℕ, true, false, List, [], ◌∷◌, length, map, Option, Some, None, refl, sym, ap, ◌∙◌, subst, inl, inr, arith, append_assoc, append-nil}
use Rattle.std.specs.Char.{is_ascii_digit, is_ascii_lowercase, to_ascii_lowercase}
use Rattle.std.specs.List.{AllByRecursion, flat_map, join_with_byte, list_all, slice_split}
use Rattle.std.specs.Option.{option_or}
use Rattle.std.specs.Str.{bytes_eq}
use Rattle.std.proofs.lemmas.Slice.Eq.{bytes_eq-Decides}
use Rattle.pep440_scheme.specs.Steps.Apart.{small_v}
use Rattle.std.proofs.lemmas.Bool.{and_parts, cases_Bool, eqb-false, eqb-true, lt-ltb, ltb-true, not-false}
use Rattle.std.proofs.lemmas.Bool.Decides.{nat_tests}
use Rattle.vx_spec.specs.Marks.{IsCut, Lacks, in_front}
use Rattle.vx_spec.specs.Numerals.{is_numeral, value}
use Rattle.vx_spec.specs.Runs.{begins, is_blank, run, without_end}
use Rattle.vx_spec.proofs.EndLaws.{lacks_append, lacks_by}
use Rattle.vx_spec.proofs.MarkLaws.{cut_apart}
use Rattle.vx_spec.proofs.RunLaws.{one_run, run_stays}
use Rattle.vx_text.specs.Folding.{lowered}
use Rattle.vx_text.specs.Past.{NonePast, first_past, is_past}
use Rattle.vx_text.proofs.PastLaws.{none_behind, none_front, none_past, none_run, run_front}
use Rattle.vx_scheme.specs.declared.ident.Ident.{Ident}
use Rattle.vx_order.specs.PastParts.{is_past_numeral}
use Rattle.pep440_scheme.specs.declared.words.Mark.{Mark}
use Rattle.pep440_scheme.specs.Version.{Fields, IsSmall, IsSmallLocal, IsSmallOption, IsSmallPre, IsWithin}
use Rattle.vx_spec.specs.Signs.{bang, dot, plus}
use Rattle.vx_text.specs.EpochParts.{epoch_value, is_epoch}
use Rattle.pep440_scheme.specs.Spelling.{AreVersionParts, LocalPart, Parts, Spells, Suffix, are_locals, is_dev, is_gap, is_implicit, is_later_local, is_local_text, is_post, is_pre, is_separator, is_v, local_of, local_text, option_text, pre_value, suffix_text, suffix_value, version_of, whole}
use Rattle.pep440_scheme.specs.Past.{first_past_local, first_past_part, past_numeral_of}
use Rattle.pep440_scheme.specs.Laws.Suffixes.{IsSuffix, suffix_apart, suffix_parts}
use Rattle.pep440_scheme.specs.Laws.Behind.{dash_form, dev_form, post_form, pre_form}
use Rattle.pep440_scheme.specs.Laws.Ends.{without_end_append}
use Rattle.pep440_scheme.specs.Laws.Reading.{split_label}
use Rattle.pep440_scheme.specs.Laws.Solid.{AreInner, core_parts, locals_solid, public_core, public_inner, solid_ends, v_inner, word_letters}

-- ---- one part of a label

pub past_here : (at : ℕ) (part : List ℕ) (parts : List (List ℕ)) → is_past_numeral part ≡ true → first_past_part at (part ∷ parts) ≡ Some (at + 1)
past_here at part parts is = rw is refl

pub passed_over : (at : ℕ) (part : List ℕ) (parts : List (List ℕ)) → is_past_numeral part ≡ false → first_past_part (at + (length part + 1)) parts ≡ first_past_part at (part ∷ parts)
passed_over at part parts other = rw other refl

-- ---- texts without a numeral past the limit

first_none : (at : ℕ) (text : List ℕ) → NonePast text → first_past at text ≡ None
first_none at [] h = refl
first_none at (b ∷ text) h = rw (not_past (run is_ascii_digit (b ∷ text)) h.0) (first_none (at + 1) text h.1)
  where
    not_past : (digits : List ℕ) → value digits < 2 ^ 128 → is_past digits ≡ false
    not_past digits small = ap not (lt-ltb (value digits) (2 ^ 128) small)

no_digit : (b : ℕ) (text : List ℕ) → is_ascii_digit b ≡ false → value (run is_ascii_digit (b ∷ text)) < 2 ^ 128
no_digit b text other = rw (run_stays is_ascii_digit b text other) (omega arith)

none_join : (xs ys : List ℕ) → begins is_ascii_digit ys ≡ false → NonePast xs → NonePast ys → NonePast (xs ++ ys)
none_join [] ys none p q = q
none_join (x ∷ xs) ys none p q = (subst (λ r. value r < 2 ^ 128) (sym (run_front (x ∷ xs) ys none)) p.0, none_join xs ys none p.1 q)

-- bytes that are no digits

none_others : (xs ys : List ℕ) → AllByRecursion (λ b. is_ascii_digit b ≡ false) xs → NonePast ys → NonePast (xs ++ ys)
none_others [] ys all q = q
none_others (x ∷ xs) ys all q = (no_digit x (xs ++ ys) all.0, none_others xs ys all.1 q)

-- such bytes count for nothing at the front
behind_others : (xs ys : List ℕ) → AllByRecursion (λ b. is_ascii_digit b ≡ false) xs → NonePast (xs ++ ys) ↔ NonePast ys
behind_others xs ys all = (none_behind xs ys, none_others xs ys all)

none_digits : (digits : List ℕ) → list_all is_ascii_digit digits ≡ true → value digits < 2 ^ 128 → NonePast digits
none_digits [] all small = tt
none_digits (d ∷ digits) all small =
    let whole' : run is_ascii_digit (d ∷ digits) ≡ d ∷ digits = ap (run is_ascii_digit) (sym (append-nil (d ∷ digits))) ∙ (one_run is_ascii_digit (d ∷ digits) [] all refl).0 in
    let less : value digits < 2 ^ 128 = omega (arith, small) in
    (subst (λ r. value r < 2 ^ 128) (sym whole') small, none_digits digits (and_parts (is_ascii_digit d) (list_all is_ascii_digit digits) all).1 less)

small_digits : (digits : List ℕ) → list_all is_ascii_digit digits ≡ true → NonePast digits → value digits < 2 ^ 128
small_digits digits all none =
    let whole' : run is_ascii_digit digits ≡ digits = ap (run is_ascii_digit) (sym (append-nil digits)) ∙ (one_run is_ascii_digit digits [] all refl).0 in
    subst (λ r. value r < 2 ^ 128) whole' (none_run digits none)

-- digits in front of a text that begins with none
digits_front : (digits rest : List ℕ) → list_all is_ascii_digit digits ≡ true → begins is_ascii_digit rest ≡ false → NonePast (digits ++ rest) ↔ IsSmall (value digits) × NonePast rest
digits_front digits rest all none = (
  λ h. (small_digits digits all (none_front digits rest none h), none_behind digits rest h),
  λ h. none_join digits rest none (none_digits digits all h.0) h.1,
)

numeral_digits : (digits : List ℕ) → is_numeral digits ≡ true → list_all is_ascii_digit digits ≡ true
numeral_digits digits is = (and_parts (nat_lt 0 (length digits)) (list_all is_ascii_digit digits) is).1

-- ---- suffixes

gap_others : (gap rest : List ℕ) → is_gap gap ≡ true → AllByRecursion (λ b. is_ascii_digit b ≡ false) rest → AllByRecursion (λ b. is_ascii_digit b ≡ false) (gap ++ rest)
gap_others [] rest is all = all
gap_others (b ∷ []) rest is all = (gap_other b is, all)
  where
    gap_other : (c : ℕ) → is_separator c ≡ true → is_ascii_digit c ≡ false
    gap_other c passes = grind (arith, nat_tests)
gap_others (b ∷ c ∷ gap) rest is all = absurd (cc is)

letters_others : (x rest : List ℕ) → list_all is_ascii_lowercase (lowered x) ≡ true → AllByRecursion (λ b. is_ascii_digit b ≡ false) rest → AllByRecursion (λ b. is_ascii_digit b ≡ false) (x ++ rest)
letters_others [] rest all more = more
letters_others (b ∷ x) rest all more =
    let a = and_parts (is_ascii_lowercase (to_ascii_lowercase b)) (list_all is_ascii_lowercase (lowered x)) all in
    (letter_other b a.0, letters_others x rest a.1 more)
  where
    letter_other : (c : ℕ) → is_ascii_lowercase (to_ascii_lowercase c) ≡ true → is_ascii_digit c ≡ false
    letter_other c passes = grind (arith, nat_tests)

word_front : (mark : Mark) (s : Suffix) (rest : List ℕ) → IsSuffix mark s → begins is_ascii_digit rest ≡ false → NonePast (suffix_text s ++ rest) ↔ IsSmall (value s.digits) × NonePast rest
word_front mark s rest is none =
    let front = s.lead ++ (s.word ++ (s.gap ++ [])) in
    let others = gap_others s.lead (s.word ++ (s.gap ++ [])) is.lead (letters_others s.word (s.gap ++ []) (word_letters mark s is) (gap_others s.gap [] is.gap tt)) in
    let text : suffix_text s ++ rest ≡ front ++ (s.digits ++ rest) =
    suffix_parts s rest ∙ sym (append_assoc s.lead (s.word ++ (s.gap ++ [])) (s.digits ++ rest)
    ∙ ap (λ (t : List ℕ). s.lead ++ t) (append_assoc s.word (s.gap ++ []) (s.digits ++ rest)
    ∙ ap (λ (t : List ℕ). s.word ++ t) (append_assoc s.gap [] (s.digits ++ rest)))) in
    let skip = behind_others front (s.digits ++ rest) others in
    let number = digits_front s.digits rest is.digits none in
    rw text (λ h. number.0 (skip.0 h), λ h. skip.1 (number.1 h))

dash_front : (s : Suffix) (rest : List ℕ) → is_implicit s ≡ true → begins is_ascii_digit rest ≡ false → NonePast (suffix_text s ++ rest) ↔ IsSmall (value s.digits) × NonePast rest
dash_front s rest is none =
    let form = dash_form s is in
    let number = digits_front s.digits rest (numeral_digits s.digits form.digits) none in
    rw form.text_is (λ h. number.0 h.1, λ h. (no_digit 45 (s.digits ++ rest) refl, number.1 h))

pre_front : (pre : Option Suffix) (rest : List ℕ) → is_pre pre ≡ true → begins is_ascii_digit rest ≡ false → NonePast (option_text pre ++ rest) ↔ IsSmallPre (pre_value pre) × NonePast rest
pre_front None rest is none = (λ h. (tt, h), λ h. h.1)
pre_front (Some s) rest is none = let form = pre_form s is in rw form.1.word (word_front _ s rest form.1 none)

post_front : (post : Option Suffix) (rest : List ℕ) → is_post post ≡ true → begins is_ascii_digit rest ≡ false → NonePast (option_text post ++ rest) ↔ IsSmallOption (suffix_value post) × NonePast rest
post_front None rest is none = (λ h. (tt, h), λ h. h.1)
post_front (Some s) rest is none = elim (cases_Bool (is_implicit s)) [
  | inl dash ↦ dash_front s rest dash none
  | inr other ↦ word_front _ s rest (post_form s (rw other at is)) none
]

dev_front : (dev : Option Suffix) (rest : List ℕ) → is_dev dev ≡ true → begins is_ascii_digit rest ≡ false → NonePast (option_text dev ++ rest) ↔ IsSmallOption (suffix_value dev) × NonePast rest
dev_front None rest is none = (λ h. (tt, h), λ h. h.1)
dev_front (Some s) rest is none = word_front _ s rest (dev_form s is) none

pre_begins : (pre : Option Suffix) (rest : List ℕ) → is_pre pre ≡ true → begins is_ascii_digit rest ≡ false → begins is_ascii_digit (option_text pre ++ rest) ≡ false
pre_begins None rest is none = none
pre_begins (Some s) rest is none = let form = pre_form s is in (suffix_apart _ s rest form.1).no_digit

post_begins : (post : Option Suffix) (rest : List ℕ) → is_post post ≡ true → begins is_ascii_digit rest ≡ false → begins is_ascii_digit (option_text post ++ rest) ≡ false
post_begins None rest is none = none
post_begins (Some s) rest is none = elim (cases_Bool (is_implicit s)) [
  | inl dash ↦ rw (dash_form s dash).text_is refl
  | inr other ↦ (suffix_apart _ s rest (post_form s (rw other at is))).no_digit
]

dev_begins : (dev : Option Suffix) (rest : List ℕ) → is_dev dev ≡ true → begins is_ascii_digit rest ≡ false → begins is_ascii_digit (option_text dev ++ rest) ≡ false
dev_begins None rest is none = none
dev_begins (Some s) rest is none = (suffix_apart _ s rest (dev_form s is)).no_digit

-- ---- the front

release_front : (parts : List (List ℕ)) (rest : List ℕ) → list_all is_numeral parts ≡ true → begins is_ascii_digit rest ≡ false → NonePast (join_with_byte dot parts ++ rest) ↔ AllByRecursion IsSmall (map value parts) × NonePast rest
release_front [] rest all none = (λ h. (tt, h), λ h. h.1)
release_front (x ∷ []) rest all none =
    let number = digits_front x rest (numeral_digits x (and_parts (is_numeral x) true all).0) none in
    (λ h. ((((number.0 h).0, tt)), (number.0 h).1), λ h. number.1 (h.0.0, h.1))
release_front (x ∷ y ∷ parts) rest all none =
    let a = and_parts (is_numeral x) (list_all is_numeral (y ∷ parts)) all in
    let later = join_with_byte dot (y ∷ parts) ++ rest in
    let number = digits_front x (dot ∷ later) (numeral_digits x a.0) refl in
    let more = release_front (y ∷ parts) rest a.1 none in
    rw (append_assoc x (dot ∷ join_with_byte dot (y ∷ parts)) rest) (
      λ h. let p = number.0 h in let q = more.0 p.1.1 in ((p.0, q.0), q.1),
      λ h. number.1 (h.0.0, (no_digit dot later refl, more.1 (h.0.1, h.1))),
    )

epoch_front : (epoch : Option (List ℕ)) (rest : List ℕ) → is_epoch epoch ≡ true → NonePast (in_front bang epoch rest) ↔ IsSmall (epoch_value epoch) × NonePast rest
epoch_front None rest is = (λ h. (omega arith, h), λ h. h.1)
epoch_front (Some part) rest is =
    let number = digits_front part (bang ∷ rest) (numeral_digits part is) refl in
    (λ h. let p = number.0 h in (p.0, p.1.1), λ h. number.1 (h.0, (no_digit bang rest refl, h.1)))

-- the numbers that stand before a label are within the limit
pub record IsPublicWithin (v : Fields) : Type 0 where
  pub epoch : IsSmall v.epoch
  pub release : AllByRecursion IsSmall v.release
  pub pre : IsSmallPre v.pre
  pub post : IsSmallOption v.post
  pub dev : IsSmallOption v.dev

front_append : (epoch : Option (List ℕ)) (release pre post dev rest : List ℕ)
    → in_front bang epoch (release ++ (pre ++ (post ++ dev))) ++ rest ≡ in_front bang epoch (release ++ (pre ++ (post ++ (dev ++ rest))))
front_append None release pre post dev rest =
    append_assoc release (pre ++ (post ++ dev)) rest
    ∙ ap (λ (t : List ℕ). release ++ t) (append_assoc pre (post ++ dev) rest ∙ ap (λ (t : List ℕ). pre ++ t) (append_assoc post dev rest))
front_append (Some part) release pre post dev rest =
    append_assoc part (bang ∷ (release ++ (pre ++ (post ++ dev)))) rest
    ∙ ap (λ (t : List ℕ). part ++ bang ∷ t) (append_assoc release (pre ++ (post ++ dev)) rest
    ∙ ap (λ (t : List ℕ). release ++ t) (append_assoc pre (post ++ dev) rest ∙ ap (λ (t : List ℕ). pre ++ t) (append_assoc post dev rest)))

core_front : (p : Parts) (rest : List ℕ) → AreVersionParts p → begins is_ascii_digit rest ≡ false → NonePast (public_core p ++ rest) ↔ IsPublicWithin (version_of p) × NonePast rest
core_front p rest form none =
    let pre = option_text p.pre in
    let post = option_text p.post in
    let dev = option_text p.dev in
    let dev_none = dev_begins p.dev rest form.dev none in
    let post_none = post_begins p.post (dev ++ rest) form.post dev_none in
    let pre_none = pre_begins p.pre (post ++ (dev ++ rest)) form.pre post_none in
    let a = epoch_front p.epoch (join_with_byte dot p.release ++ (pre ++ (post ++ (dev ++ rest)))) form.epoch in
    let b = release_front p.release (pre ++ (post ++ (dev ++ rest))) form.numerals pre_none in
    let d = pre_front p.pre (post ++ (dev ++ rest)) form.pre post_none in
    let e = post_front p.post (dev ++ rest) form.post dev_none in
    let f = dev_front p.dev rest form.dev none in
    rw (front_append p.epoch (join_with_byte dot p.release) pre post dev rest) (
      λ h. let i = a.0 h in let j = b.0 i.1 in let k = d.0 j.1 in let l = e.0 k.1 in let m = f.0 l.1 in
          (record { epoch = i.0; release = j.0; pre = k.0; post = l.0; dev = m.0 }, m.1),
      λ h. a.1 (h.0.epoch, b.1 (h.0.release, d.1 (h.0.pre, e.1 (h.0.post, f.1 (h.0.dev, h.1))))),
    )

-- ---- what stands before a label

blanks_others : (text : List ℕ) → list_all is_blank text ≡ true → AllByRecursion (λ b. is_ascii_digit b ≡ false) text
blanks_others [] all = tt
blanks_others (b ∷ text) all = let a = and_parts (is_blank b) (list_all is_blank text) all in (blank_other b a.0, blanks_others text a.1)
  where
    blank_other : (c : ℕ) → is_blank c ≡ true → is_ascii_digit c ≡ false
    blank_other c passes = grind (arith, nat_tests)

one_v_others : (v : List ℕ) → lowered v ≡ small_v ∷ [] → AllByRecursion (λ b. is_ascii_digit b ≡ false) v
one_v_others [] e = tt
one_v_others (b ∷ []) e = let is : to_ascii_lowercase b ≡ small_v = cc e in (v_other b is, tt)
  where
    v_other : (c : ℕ) → to_ascii_lowercase c ≡ small_v → is_ascii_digit c ≡ false
    v_other c passes = grind (arith, nat_tests)
one_v_others (b ∷ c ∷ v) e = absurd (cc e)

v_others : (v : List ℕ) → is_v v ≡ true → AllByRecursion (λ b. is_ascii_digit b ≡ false) v
v_others v is = elim (cases_Bool (bytes_eq v [])) [
  | inl none ↦ rw ((bytes_eq-Decides v []).0 none) tt
  | inr other ↦ let one : bytes_eq (lowered v) (small_v ∷ []) ≡ true = rw other at is in one_v_others v ((bytes_eq-Decides (lowered v) (small_v ∷ [])).0 one)
]

-- the text before the label
abbrev public_text : Parts → List ℕ
public_text p = p.before ++ (p.v ++ public_core p)

public_front : (p : Parts) (rest : List ℕ) → AreVersionParts p → begins is_ascii_digit rest ≡ false → NonePast (public_text p ++ rest) ↔ IsPublicWithin (version_of p) × NonePast rest
public_front p rest form none =
    let text : public_text p ++ rest ≡ p.before ++ (p.v ++ (public_core p ++ rest)) =
    append_assoc p.before (p.v ++ public_core p) rest ∙ ap (λ (t : List ℕ). p.before ++ t) (append_assoc p.v (public_core p) rest) in
    let blanks = behind_others p.before (p.v ++ (public_core p ++ rest)) (blanks_others p.before form.before) in
    let v = behind_others p.v (public_core p ++ rest) (v_others p.v form.v) in
    let numbers = core_front p rest form none in
    rw text (λ h. numbers.0 (v.0 (blanks.0 h)), λ h. blanks.1 (v.1 (numbers.1 h)))

-- ---- no '+' stands before the label

inner_public : (text : List ℕ) → AreInner text → Lacks plus text
inner_public [] all = tt
inner_public (b ∷ text) all = (eqb-false b plus all.0.1, inner_public text all.1)

blanks_public : (text : List ℕ) → list_all is_blank text ≡ true → Lacks plus text
blanks_public = lacks_by is_blank plus refl

public_bytes : (p : Parts) → AreVersionParts p → Lacks plus (public_text p)
public_bytes p form =
    lacks_append plus p.before (p.v ++ public_core p) (blanks_public p.before form.before)
    (lacks_append plus p.v (public_core p) (inner_public p.v (v_inner p.v form.v)) (inner_public (public_core p) (public_inner p form)))

-- ---- the label

small_part : (text : List ℕ) → IsSmallLocal (local_of text) ↔ (is_past_numeral text ≡ false)
small_part text = elim (cases_Bool (is_numeral text)) [
  | inl number ↦ rw number (small_number (value text))
  | inr word ↦ rw word (λ _. refl, λ _. tt)
]
  where
    small_number : (n : ℕ) → IsSmall n ↔ (not (nat_lt n (2 ^ 128)) ≡ false)
    small_number n = (λ small. ap not (lt-ltb n (2 ^ 128) small), λ e. ltb-true n (2 ^ 128) (not-false (nat_lt n (2 ^ 128)) e))

small_parts : (at : ℕ) (parts : List (List ℕ)) → AllByRecursion IsSmallLocal (map local_of parts) ↔ (first_past_part at parts ≡ None)
small_parts at [] = (λ _. refl, λ _. tt)
small_parts at (part ∷ parts) =
    let later = small_parts (at + (length part + 1)) parts in
    let here = small_part part in (
      λ h. rw (here.0 h.0) (later.0 h.1),
      λ none. elim (cases_Bool (is_past_numeral part)) [
        | inl past' ↦ absurd (cc (rw past' at none))
        | inr other ↦ (here.1 other, later.1 (rw other at none))
      ],
    )

either : (a b : Option ℕ) → (option_or a b ≡ None) ↔ (a ≡ None) × (b ≡ None)
either None b = (λ e. (refl, e), λ h. h.1)
either (Some n) b = (λ e. absurd (cc e), λ h. absurd (cc h.0))

-- ---- the whole text

within_parts : (p : Parts) → IsWithin (version_of p) ↔ IsPublicWithin (version_of p) × AllByRecursion IsSmallLocal (map (λ part. local_of part.text) p.locals)
within_parts p = (
  λ h. (record { epoch = h.epoch; release = h.release; pre = h.pre; post = h.post; dev = h.dev }, h.local),
  λ h. record { epoch = h.0.epoch; release = h.0.release; pre = h.0.pre; post = h.0.post; dev = h.0.dev; local = h.1 },
)

-- what is looked for, where the text is cut at its '+'
pub cut_at : (at : ℕ) (text public : List ℕ) (label : Option (List ℕ)) → IsCut plus text public label
    → past_numeral_of at text ≡ option_or (first_past at public) (first_past_local (at + length public) label)
cut_at at text public label cut = let r = cut_apart plus text public label cut in rw (r.0, r.1) refl

none_first : (at : ℕ) (text : List ℕ) → (first_past at text ≡ None) ↔ NonePast text
none_first at text = (none_past at text, first_none at text)

map_twice : (parts : List LocalPart) → map local_of (map (λ part. part.text) parts) ≡ map (λ part. local_of part.text) parts
map_twice [] = refl
map_twice (part ∷ parts) = ap (λ idents. local_of part.text ∷ idents) (map_twice parts)

-- a label and the blanks behind it
label_front : (at : ℕ) (part : LocalPart) (parts : List LocalPart) (behind : List ℕ) → are_locals (part ∷ parts) ≡ true → list_all is_blank behind ≡ true
    → AllByRecursion IsSmallLocal (map (λ p. local_of p.text) (part ∷ parts)) ↔ (first_past_local at (Some ((part.text ++ flat_map local_text parts) ++ behind)) ≡ None)
label_front at part parts behind is blanks =
    let body = part.text ++ flat_map local_text parts in
    let a = and_parts (part.sign == plus && is_local_text part.text) (list_all is_later_local parts) is in
    let b = and_parts (part.sign == plus) (is_local_text part.text) a.0 in
    let solid = (locals_solid (part ∷ parts) is).1 in
    let inner : without_end is_blank (body ++ behind) ≡ body = without_end_append is_blank body behind blanks (solid_ends body solid) in
    let split = split_label part.text parts b.1 a.1 in
    let found : first_past_local at (Some (body ++ behind)) ≡ first_past_part at (map (λ p. p.text) (part ∷ parts)) =
    ap (λ (t : List ℕ). first_past_part at (slice_split is_separator t)) inner ∙ ap (first_past_part at) split in
    let small = small_parts at (map (λ p. p.text) (part ∷ parts)) in
    let same : AllByRecursion IsSmallLocal (map (λ p. local_of p.text) (part ∷ parts)) ↔ (first_past_part at (map (λ p. p.text) (part ∷ parts)) ≡ None) =
    subst (λ (idents : List Ident). AllByRecursion IsSmallLocal idents ↔ (first_past_part at (map (λ p. p.text) (part ∷ parts)) ≡ None)) (map_twice (part ∷ parts)) small in
    rw found same

-- the text with its label, and without one
label_text : (p : Parts) → whole p ≡ public_text p ++ (flat_map local_text p.locals ++ p.behind)
label_text p =
    let label = flat_map local_text p.locals in
    ap (λ (t : List ℕ). p.before ++ ((p.v ++ t) ++ p.behind)) (core_parts p)
    ∙ ap (λ (t : List ℕ). p.before ++ t) (
    append_assoc p.v (public_core p ++ label) p.behind
    ∙ ap (λ (t : List ℕ). p.v ++ t) (append_assoc (public_core p) label p.behind)
    ∙ sym (append_assoc p.v (public_core p) (label ++ p.behind)))
    ∙ sym (append_assoc p.before (p.v ++ public_core p) (label ++ p.behind))

none_blanks : (text : List ℕ) → list_all is_blank text ≡ true → NonePast text
none_blanks text all = subst NonePast (append-nil text) (none_others text [] (blanks_others text all) tt)

blanks_begin : (text : List ℕ) → list_all is_blank text ≡ true → begins is_ascii_digit text ≡ false
blanks_begin [] all = refl
blanks_begin (b ∷ text) all = (blanks_others (b ∷ text) all).0

parts_agree : (at : ℕ) (p : Parts) (locals : List LocalPart) → AreVersionParts p → are_locals locals ≡ true
    → IsPublicWithin (version_of p) × AllByRecursion IsSmallLocal (map (λ part. local_of part.text) locals)
    ↔ (past_numeral_of at (public_text p ++ (flat_map local_text locals ++ p.behind)) ≡ None)
parts_agree at p [] form is =
    let whole' = public_text p ++ p.behind in
    let lacks = lacks_append plus (public_text p) p.behind (public_bytes p form) (blanks_public p.behind form.behind) in
    let cut : past_numeral_of at whole' ≡ option_or (first_past at whole') None = cut_at at whole' whole' None (record { joined = sym (append-nil whole'); first = lacks }) in
    let numbers = public_front p p.behind form (blanks_begin p.behind form.behind) in
    let both = either (first_past at whole') None in
    let first = none_first at whole' in
    rw cut (
      λ h. both.1 (first.1 (numbers.1 (h.0, none_blanks p.behind form.behind)), refl),
      λ none. ((numbers.0 (first.0 (both.0 none).0)).0, tt),
    )
parts_agree at p (part ∷ parts) form is =
    let public = public_text p in
    let body = part.text ++ flat_map local_text parts in
    let a = and_parts (part.sign == plus && is_local_text part.text) (list_all is_later_local parts) is in
    let sign = eqb-true part.sign plus (and_parts (part.sign == plus) (is_local_text part.text) a.0).0 in
    let cut = cut_at at (public ++ (plus ∷ (body ++ p.behind))) public (Some (body ++ p.behind)) (record { joined = refl; first = public_bytes p form }) in
    let numbers = public_front p [] form refl in
    let both = either (first_past at public) (first_past_local (at + length public) (Some (body ++ p.behind))) in
    let first = none_first at public in
    let label = label_front (at + length public) part parts p.behind is form.behind in
    rw (sign, cut) (
      λ h. both.1 (first.1 (subst NonePast (append-nil public) (numbers.1 (h.0, tt))), label.0 h.1),
      λ none. let r = both.0 none in ((numbers.0 (subst NonePast (sym (append-nil public)) (first.0 r.0))).0, label.1 r.1),
    )

-- a version is within the limit exactly where none of its numerals is past it
pub limits_agree : (text : List ℕ) (v : Fields) (at : ℕ) → Spells text v → IsWithin v ↔ (past_numeral_of at text ≡ None)
limits_agree text v at s =
    let p = s.parts in
    let parts = within_parts p in
    let agree = parts_agree at p p.locals s.form s.form.locals in
    rw (s.values, s.joined, label_text p) (λ h. agree.0 (parts.0 h), λ none. parts.1 (agree.1 none))
