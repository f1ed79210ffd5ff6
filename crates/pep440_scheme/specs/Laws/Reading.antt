-- What is spelled is taken apart into its parts: so no text spells two versions.
use Rattle.std.proofs.Common.{◌≡◌, ◌≢◌, ◌++◌, ◌&&◌, ◌==◌, not, nat_lt, ℕ, true, false, List, [], ◌∷◌, length, map, Option, Some, None, refl, sym, ap, ◌∙◌, append_assoc, append-nil, inl, inr, arith}
use Rattle.std.specs.Char.{is_ascii_alphanumeric, is_ascii_digit}
use Rattle.std.specs.List.{AllByRecursion, flat_map, join_with_byte, list_all, slice_split}
use Rattle.std.specs.Option.{option_map}
use Rattle.std.proofs.lemmas.Bool.{and_from, and_parts, cases_Bool}
use Rattle.std.proofs.lemmas.Bool.Decides.{nat_tests}
use Rattle.std.proofs.lemmas.List.Elements.{All-from_recursion}
use Rattle.std.proofs.lemmas.List.Splits.{slice_split_at, slice_split_none}
use Rattle.vx_spec.specs.Marks.{in_front}
use Rattle.vx_spec.specs.Numerals.{is_numeral, value}
use Rattle.vx_spec.specs.Runs.{begins, trimmed}
use Rattle.vx_spec.proofs.TextLaws.{each_append, each_by_test}
use Rattle.vx_text.proofs.Joins.{split_join}
use Rattle.vx_order.specs.Laws.Dotted.{all_made_lack}
use Rattle.pep440_scheme.specs.Version.{Fields}
use Rattle.vx_spec.specs.Signs.{bang, dot, plus}
use Rattle.vx_text.specs.EpochParts.{is_epoch}
use Rattle.pep440_scheme.specs.Spelling.{AreVersionParts, LocalPart, Parts, Spells, Suffix, are_locals, core, is_later_local, is_local_text, is_implicit, is_post, is_pre, is_separator, local_of, local_text, option_text, suffix_value, suffixes, version_of, whole}
use Rattle.pep440_scheme.specs.Steps.Apart.{after_release, after_v, apart, epoch_step, fields_of, from_epoch, is_label, label_parts, pre_step, release_parts, with_pre}
use Rattle.pep440_scheme.specs.Laws.Ends.{trimmed_append}
use Rattle.pep440_scheme.specs.Laws.Suffixes.{suffix_apart}
use Rattle.pep440_scheme.specs.Laws.Behind.{IsEnd, dash_form, end_of, numeral_begins, post_apart, pre_form, pre_reads, suffix_digits}
use Rattle.pep440_scheme.specs.Laws.Release.{IsBehind, behind_apart, behind_dash, epoch_reads, release_bytes, release_reads, v_reads}
use Rattle.pep440_scheme.specs.Laws.Solid.{core_solid, solid_begins, solid_ends, v_solid}

-- ---- the parts of a label

no_separator : (text : List ℕ) → is_local_text text ≡ true → AllByRecursion (λ b. is_separator b ≡ false) text
no_separator text is = each_by_test (λ b. is_separator b ≡ false) is_ascii_alphanumeric text other (and_parts (nat_lt 0 (length text)) (list_all is_ascii_alphanumeric text) is).1
  where
    other : (b : ℕ) → is_ascii_alphanumeric b ≡ true → is_separator b ≡ false
    other b passes = grind (arith, nat_tests)

pub split_label : (text : List ℕ) (parts : List LocalPart) → is_local_text text ≡ true → list_all is_later_local parts ≡ true
    → slice_split is_separator (text ++ flat_map local_text parts) ≡ text ∷ map (λ part. part.text) parts
split_label text [] is all =
    let free = All-from_recursion (λ b. is_separator b ≡ false) text (no_separator text is) in
    ap (slice_split is_separator) (append-nil text) ∙ slice_split_none is_separator text free
split_label text (part ∷ parts) is all =
    let a = and_parts (is_later_local part) (list_all is_later_local parts) all in
    let b = and_parts (is_separator part.sign) (is_local_text part.text) a.0 in
    let free = All-from_recursion (λ b. is_separator b ≡ false) text (no_separator text is) in
    slice_split_at is_separator text part.sign (part.text ++ flat_map local_text parts) free b.0
    ∙ ap (λ (found : List (List ℕ)). text ∷ found) (split_label part.text parts b.1 a.1)

later_texts : (parts : List LocalPart) → list_all is_later_local parts ≡ true → list_all is_local_text (map (λ part. part.text) parts) ≡ true
later_texts [] all = refl
later_texts (part ∷ parts) all =
    let a = and_parts (is_later_local part) (list_all is_later_local parts) all in
    and_from (is_local_text part.text) (list_all is_local_text (map (λ p. p.text) parts)) (and_parts (is_separator part.sign) (is_local_text part.text) a.0).1 (later_texts parts a.1)

map_twice : (parts : List LocalPart) → map local_of (map (λ part. part.text) parts) ≡ map (λ part. local_of part.text) parts
map_twice [] = refl
map_twice (part ∷ parts) = ap (λ idents. local_of part.text ∷ idents) (map_twice parts)

-- the label has its form and its parts
pub record ReadsLabel (locals : List LocalPart) : Type 0 where
  pub form : is_label (flat_map local_text locals) ≡ true
  pub values : map local_of (label_parts (flat_map local_text locals)) ≡ map (λ part. local_of part.text) locals

label_reads : (locals : List LocalPart) → are_locals locals ≡ true → ReadsLabel locals
label_reads [] is = record { form = refl; values = refl }
label_reads (part ∷ parts) is =
    let a = and_parts (part.sign == plus && is_local_text part.text) (list_all is_later_local parts) is in
    let b = and_parts (part.sign == plus) (is_local_text part.text) a.0 in
    let split = split_label part.text parts b.1 a.1 in
    record {
      form = and_from (part.sign == plus) _ b.0 (ap (list_all is_local_text) split ∙ and_from (is_local_text part.text) (list_all is_local_text (map (λ p. p.text) parts)) b.1 (later_texts parts a.1));
      values = ap (map local_of) split ∙ map_twice (part ∷ parts);
    }

-- ---- what stands behind the release

suffixes_behind : (p : Parts) → AreVersionParts p → IsBehind (suffixes p)
suffixes_behind p form = of_pre p.pre form.pre
  where
    end : List ℕ
    end = flat_map local_text p.locals

    last : IsEnd end
    last = end_of p.locals form.locals

    of_post : (post : Option Suffix) → is_post post ≡ true → IsBehind (option_text post ++ (option_text p.dev ++ end))
    of_post None is = behind_apart _ (post_apart None p.dev end is refl form.dev last)
    of_post (Some s) is = elim (cases_Bool (is_implicit s)) [
      | inl dash ↦ rw (dash_form s dash).text_is (behind_dash (s.digits ++ (option_text p.dev ++ end)))
      | inr other ↦ behind_apart _ (post_apart (Some s) p.dev end is (ap not other) form.dev last)
    ]

    of_pre : (pre : Option Suffix) → is_pre pre ≡ true → IsBehind (option_text pre ++ (option_text p.post ++ (option_text p.dev ++ end)))
    of_pre None is = of_post p.post form.post
    of_pre (Some s) is = let word = pre_form s is in behind_apart _ (suffix_apart _ s (option_text p.post ++ (option_text p.dev ++ end)) word.1)

-- ---- the text

front_digit : (epoch : Option (List ℕ)) (x : List ℕ) (parts : List (List ℕ)) (behind : List ℕ) → is_epoch epoch ≡ true → is_numeral x ≡ true
    → begins is_ascii_digit (in_front bang epoch (join_with_byte dot (x ∷ parts) ++ behind)) ≡ true
front_digit None x [] behind is numeral = numeral_begins x behind numeral
front_digit None x (y ∷ parts) behind is numeral = rw (append_assoc x (dot ∷ join_with_byte dot (y ∷ parts)) behind) (numeral_begins x _ numeral)
front_digit (Some part) x parts behind is numeral = numeral_begins part _ is

pub core_digit : (p : Parts) → AreVersionParts p → begins is_ascii_digit (core p) ≡ true
core_digit p form = of_release p.release form.release form.numerals
  where
    of_release : (release : List (List ℕ)) → nat_lt 0 (length release) ≡ true → list_all is_numeral release ≡ true → begins is_ascii_digit (in_front bang p.epoch (join_with_byte dot release ++ suffixes p)) ≡ true
    of_release [] some all = cc some
    of_release (x ∷ parts) some all = front_digit p.epoch x parts (suffixes p) form.epoch (and_parts (is_numeral x) (list_all is_numeral parts) all).0

some_text : (v text : List ℕ) → begins is_ascii_digit text ≡ true → v ++ text ≢ []
some_text [] [] is e = cc is
some_text [] (b ∷ text) is e = cc e
some_text (b ∷ v) text is e = cc e

inner_text : (p : Parts) → AreVersionParts p → after_v (trimmed (whole p)) ≡ core p
inner_text p form =
    let digit = core_digit p form in
    let solid = each_append _ p.v (core p) (v_solid p.v form.v) (core_solid p form) in
    ap after_v (trimmed_append p.before (p.v ++ core p) p.behind form.before form.behind (solid_begins (p.v ++ core p) solid) (some_text p.v (core p) digit) (solid_ends (p.v ++ core p) solid))
    ∙ v_reads p.v (core p) form.v digit

-- a text is taken apart into parts that have their form, and that stand for this version
pub record ReadsAs (text : List ℕ) (v : Fields) : Type 0 where
  pub release : list_all is_numeral (release_parts (apart text).release) ≡ true
  pub label : is_label (apart text).label ≡ true
  pub values : fields_of (apart text) ≡ v

split_release : (parts : List (List ℕ)) → nat_lt 0 (length parts) ≡ true → list_all is_numeral parts ≡ true → release_parts (join_with_byte dot parts) ≡ parts
split_release [] some all = cc some
split_release (x ∷ parts) some all = split_join dot x parts (all_made_lack is_ascii_digit dot refl (x ∷ parts) all)

taken_value : (s : Option Suffix) → option_map value (suffix_digits s) ≡ suffix_value s
taken_value None = refl
taken_value (Some s) = refl

-- the parts of a text that is a version's
apart_is : (p : Parts) → AreVersionParts p → apart (whole p) ≡ with_pre p.epoch (join_with_byte dot p.release) (pre_step (suffixes p))
unfolding apart
apart_is p form =
    let behind = suffixes_behind p form in
    let text = join_with_byte dot p.release ++ suffixes p in
    let release = release_reads p.release (suffixes p) form.numerals behind in
    let epoch = epoch_reads p.epoch (join_with_byte dot p.release) (suffixes p) form.epoch (release_bytes p.release form.numerals) behind.no_digit behind.no_bang in
    ap (λ (inner : List ℕ). from_epoch (epoch_step inner)) (inner_text p form) ∙ ap from_epoch epoch
    ∙ ap (λ (found : List ℕ). with_pre p.epoch found (pre_step (after_release text))) release.release_is
    ∙ ap (λ (rest : List ℕ). with_pre p.epoch (join_with_byte dot p.release) (pre_step rest)) release.behind_is

parts_read : (p : Parts) → AreVersionParts p → ReadsAs (whole p) (version_of p)
parts_read p form =
    let found = apart_is p form in
    let end = flat_map local_text p.locals in
    let suffix = pre_reads p.pre p.post p.dev end form.pre form.post form.dev form.follows (end_of p.locals form.locals) in
    let label = label_reads p.locals form.locals in
    let release = split_release p.release form.release form.numerals in
    let last = suffix.later.later in
    record {
      release = rw (found, release) form.numerals;
      label = rw (found, last) label.form;
      values = rw (found, release, suffix.value, suffix.later.digits, last, label.values, taken_value p.post, taken_value p.dev) refl;
    }

pub spelled_reads : (text : List ℕ) (v : Fields) → Spells text v → ReadsAs text v
spelled_reads text v s = rw (s.joined, s.values) (parts_read s.parts s.form)

-- no text spells two versions
pub one_reading : (text : List ℕ) (v w : Fields) → Spells text v → Spells text w → v ≡ w
one_reading text v w s t = sym (spelled_reads text v s).values ∙ (spelled_reads text w t).values
