-- What is taken apart is spelled.
use Rattle.std.proofs.Common.{Result, Ok, Err, IfOk, ◌≡◌, ◌++◌, ◌&&◌, ◌==◌, codes, if◌then◌else◌, length, drop, map, ℕ, Bool, true, false, List, [], ◌∷◌, Option, Some, None, refl, sym, ap, ◌∙◌, subst, append_assoc, inl, inr, arith}
use Rattle.std.specs.Char.{is_ascii_digit, to_ascii_lowercase}
use Rattle.std.specs.List.{flat_map, join_with_byte, list_all, onto_first, slice_split}
use Rattle.std.specs.Option.{option_map}
use Rattle.std.specs.Str.{bytes_eq}
use Rattle.std.proofs.lemmas.Bool.{and_from, and_parts, cases_Bool, eqb-true, lt-ltb, or_right}
use Rattle.std.proofs.lemmas.List.{drop_at, length-map}
use Rattle.std.proofs.lemmas.List.Splits.{join_with_byte-slice_split, slice_split-cons_no, slice_split-cons_yes}
use Rattle.std.proofs.lemmas.Slice.Eq.{bytes_eq-Decides}
use Rattle.vx_spec.specs.Marks.{in_front}
use Rattle.vx_spec.specs.Numerals.{is_numeral, value}
use Rattle.vx_spec.specs.Runs.{begins, is_blank, past, run, trimmed}
use Rattle.vx_spec.proofs.RunLaws.{run_all, run_past}
use Rattle.vx_text.specs.Folding.{lowered}
use Rattle.vx_text.proofs.Joins.{split_some}
use Rattle.vx_scheme.specs.Values.{Gives}
use Rattle.vx_scheme.specs.declared.version_fault.VersionFault.{VersionFault}
use Rattle.vx_spec.specs.Signs.{bang, dot, plus}
use Rattle.vx_text.specs.EpochParts.{is_epoch}
use Rattle.pep440_scheme.specs.Spelling.{LocalPart, Spells, Suffix, are_locals, has_byte, is_closed, is_implicit, is_later_local, is_local_text, is_separator, is_v, local_of, local_text, may_follow, option_text, suffix_value}
use Rattle.pep440_scheme.specs.Steps.Apart.{Apart, AreTaken, Step, after_release, after_v, apart, are_digits, epoch_by, epoch_step, fields_of, is_dot, is_label, is_release_byte, label_parts, release_at, release_parts, small_v, dev_step, post_step, pre_step}
use Rattle.pep440_scheme.specs.Laws.Ends.{end_found}
use Rattle.pep440_scheme.specs.Laws.Behind.{suffix_digits}
use Rattle.pep440_scheme.specs.Laws.Reading.{spelled_reads}
use Rattle.pep440_scheme.specs.Version.{Fields, IsVersion, is_local}
use Rattle.pep440_scheme.specs.Laws.Texts.{formed_local}
use Rattle.pep440_scheme.proofs.FoundSuffixes.{dev_found, implicit_begins, post_found, pre_found}

-- ---- the 'v'

v_of : List ℕ → List ℕ
v_of [] = []
v_of (b ∷ text) = if to_ascii_lowercase b == small_v then b ∷ [] else []

v_found : (text : List ℕ) → text ≡ v_of text ++ after_v text
unfolding v_of
v_found [] = refl
v_found (b ∷ text) = elim (cases_Bool (to_ascii_lowercase b == small_v)) [
  | inl is ↦ rw is refl
  | inr other ↦ rw other refl
]

v_is : (text : List ℕ) → is_v (v_of text) ≡ true
unfolding v_of
v_is [] = refl
v_is (b ∷ text) = elim (cases_Bool (to_ascii_lowercase b == small_v)) [
  | inl is ↦
      let e : lowered (b ∷ []) ≡ small_v ∷ [] = rw (eqb-true (to_ascii_lowercase b) small_v is) refl in
      rw is (or_right (bytes_eq (b ∷ []) []) (bytes_eq (lowered (b ∷ [])) (codes "v")) ((bytes_eq-Decides (lowered (b ∷ [])) (codes "v")).1 e))
  | inr other ↦ rw other refl
]

-- ---- the epoch

-- the epoch that was taken
pub record IsEpochTaken (text : List ℕ) (step : Step) : Type 0 where
  pub joined : text ≡ in_front bang step.digits step.rest
  pub form : is_epoch step.digits ≡ true
  pub digits : are_digits step.digits ≡ true

no_epoch : (text : List ℕ) → IsEpochTaken text (record { digits = None; rest = text })
no_epoch text = record { joined = refl; form = refl; digits = refl }

some_numeral : (digits : List ℕ) → has_byte digits ≡ true → list_all is_ascii_digit digits ≡ true → is_numeral digits ≡ true
some_numeral [] some all = cc some
some_numeral (d ∷ digits) some all = and_from _ _ (lt-ltb 0 (length (d ∷ digits)) (omega arith)) all

one_epoch : (text digits : List ℕ) (b : ℕ) (behind : List ℕ) → text ≡ digits ++ b ∷ behind → b ≡ bang → has_byte digits ≡ true → list_all is_ascii_digit digits ≡ true → IsEpochTaken text (record { digits = Some digits; rest = behind })
one_epoch text digits b behind e is some all = record { joined = rw is at e; form = some_numeral digits some all; digits = all }

epoch_found : (text : List ℕ) → IsEpochTaken text (epoch_step text)
epoch_found text = by_behind (past is_ascii_digit text) (run_past is_ascii_digit text)
  where
    by_behind : (behind : List ℕ) → text ≡ run is_ascii_digit text ++ behind → IsEpochTaken text (epoch_by text (run is_ascii_digit text) behind)
    by_behind [] e = no_epoch text
    by_behind (b ∷ behind) e = elim (cases_Bool (has_byte (run is_ascii_digit text) && b == bang)) [
      | inl is ↦
          let a = and_parts (has_byte (run is_ascii_digit text)) (b == bang) is in
          rw is (one_epoch text (run is_ascii_digit text) b behind e (eqb-true b bang a.1) a.0 (run_all is_ascii_digit text))
      | inr other ↦ rw other (no_epoch text)
    ]

-- ---- the release

release_found : (text : List ℕ) → text ≡ release_at text ++ after_release text
release_found text =
    let dots = end_found is_dot (run is_release_byte text) in
    let whole' : text ≡ release_at text ++ (dots.0 ++ past is_release_byte text) =
    run_past is_release_byte text ∙ ap (λ (t : List ℕ). t ++ past is_release_byte text) dots.1 ∙ append_assoc (release_at text) dots.0 (past is_release_byte text) in
    let rest : after_release text ≡ dots.0 ++ past is_release_byte text =
    ap (drop (length (release_at text))) whole' ∙ drop_at (release_at text) (dots.0 ++ past is_release_byte text) (length (release_at text)) refl in
    whole' ∙ ap (λ (t : List ℕ). release_at text ++ t) (sym rest)

-- ---- the label

-- a text is a first part and parts behind separators, and is split into these
pub record IsLabelTaken (text : List ℕ) : Type 0 where
  pub first : List ℕ
  pub later : List LocalPart
  pub joined : text ≡ first ++ flat_map local_text later
  pub split : slice_split is_separator text ≡ first ∷ map (λ part. part.text) later
  pub signs : list_all (λ part. is_separator part.sign) later ≡ true

label_found : (text : List ℕ) → IsLabelTaken text
label_found [] = record { first = []; later = []; joined = refl; split = refl; signs = refl }
label_found (b ∷ text) =
    let rest = label_found text in
    elim (cases_Bool (is_separator b)) [
      | inl is ↦ record {
        first = [];
        later = record { sign = b; text = rest.first } ∷ rest.later;
        joined = ap (λ (t : List ℕ). b ∷ t) rest.joined;
        split = slice_split-cons_yes is_separator b text is ∙ ap (λ (parts : List (List ℕ)). [] ∷ parts) rest.split;
        signs = and_from (is_separator b) _ is rest.signs;
      }
      | inr other ↦ record {
        first = b ∷ rest.first;
        later = rest.later;
        joined = ap (λ (t : List ℕ). b ∷ t) rest.joined;
        split = slice_split-cons_no is_separator b text other ∙ ap (onto_first b) rest.split;
        signs = rest.signs;
      }
    ]

later_form : (parts : List LocalPart) → list_all (λ part. is_separator part.sign) parts ≡ true → list_all is_local_text (map (λ part. part.text) parts) ≡ true → list_all is_later_local parts ≡ true
later_form [] signs texts = refl
later_form (part ∷ parts) signs texts =
    let a = and_parts (is_separator part.sign) (list_all (λ p. is_separator p.sign) parts) signs in
    let b = and_parts (is_local_text part.text) (list_all is_local_text (map (λ p. p.text) parts)) texts in
    and_from (is_later_local part) (list_all is_later_local parts) (and_from (is_separator part.sign) (is_local_text part.text) a.0 b.0) (later_form parts a.1 b.1)

map_twice : (parts : List LocalPart) → map local_of (map (λ part. part.text) parts) ≡ map (λ part. local_of part.text) parts
map_twice [] = refl
map_twice (part ∷ parts) = ap (λ idents. local_of part.text ∷ idents) (map_twice parts)

-- the label with its '+'
pub record AreLocalsTaken (text : List ℕ) : Type 0 where
  pub locals : List LocalPart
  pub joined : text ≡ flat_map local_text locals
  pub form : are_locals locals ≡ true
  pub values : map local_of (label_parts text) ≡ map (λ part. local_of part.text) locals

locals_found : (text : List ℕ) → is_label text ≡ true → AreLocalsTaken text
locals_found [] is = record { locals = []; joined = refl; form = refl; values = refl }
locals_found (sign ∷ text) is =
    let a = and_parts (sign == plus) (list_all is_local_text (slice_split is_separator text)) is in
    let found = label_found text in
    let texts = and_parts (is_local_text found.first) (list_all is_local_text (map (λ p. p.text) found.later)) (ap (list_all is_local_text) (sym found.split) ∙ a.1) in
    record {
      locals = record { sign = sign; text = found.first } ∷ found.later;
      joined = ap (λ (t : List ℕ). sign ∷ t) found.joined;
      form = and_from _ _ (and_from (sign == plus) (is_local_text found.first) a.0 texts.0) (later_form found.later found.signs texts.1);
      values = ap (map local_of) found.split ∙ ap (λ idents. local_of found.first ∷ idents) (map_twice found.later);
    }

-- ---- the whole text

-- what an implicit post-release may follow
follows_found : (pre post : Option Suffix) (rest text : List ℕ) → text ≡ option_text post ++ rest → (is_closed pre ≡ false → begins is_separator text ≡ false) → may_follow pre post ≡ true
follows_found pre None rest text joined closed = refl
follows_found pre (Some s) rest text joined closed = elim (cases_Bool (is_implicit s)) [
  | inr other ↦ rw other refl
  | inl dash ↦ rw dash (elim (cases_Bool (is_closed pre)) [
    | inl is ↦ is
    | inr open' ↦ let begun : begins is_separator text ≡ true = rw joined (implicit_begins s rest dash) in absurd (cc (begun, closed open'))
  ])
]

value_taken : (part : Option Suffix) (digits : Option (List ℕ)) → suffix_digits part ≡ digits → option_map value digits ≡ suffix_value part
value_taken None digits e = rw (sym e) refl
value_taken (Some s) digits e = rw (sym e) refl

-- the parts of a text
pub record IsFound (text : List ℕ) : Type 0 where
  pub spelled : Spells text (fields_of (apart text))
  pub taken : AreTaken (apart text)

pub found : (text : List ℕ) → list_all is_numeral (release_parts (apart text).release) ≡ true → is_label (apart text).label ≡ true → IsFound text
unfolding apart
found text numerals is_end =
    let behind = end_found is_blank (past is_blank text) in
    let inner = trimmed text in
    let epoch = epoch_found (after_v inner) in
    let step = epoch_step (after_v inner) in
    let release = release_at step.rest in
    let first = pre_step (after_release step.rest) in
    let pre = pre_found (after_release step.rest) in
    let second = post_step first.rest in
    let post = post_found first.rest in
    let dev = dev_found second.rest in
    let locals = locals_found (dev_step second.rest).rest is_end in
    let tail : after_release step.rest ≡ option_text pre.pre ++ (option_text post.part ++ (option_text dev.part ++ flat_map local_text locals.locals)) =
    pre.joined ∙ ap (λ (t : List ℕ). option_text pre.pre ++ t) (post.joined ∙ ap (λ (t : List ℕ). option_text post.part ++ t) (dev.joined ∙ ap (λ (t : List ℕ). option_text dev.part ++ t) locals.joined)) in
    let joined_release : join_with_byte dot (release_parts release) ≡ release = join_with_byte-slice_split dot release in
    let front : step.rest ≡ join_with_byte dot (release_parts release) ++ (option_text pre.pre ++ (option_text post.part ++ (option_text dev.part ++ flat_map local_text locals.locals))) =
    release_found step.rest ∙ ap (λ (t : List ℕ). release ++ t) tail ∙ ap (λ (t : List ℕ). t ++ (option_text pre.pre ++ (option_text post.part ++ (option_text dev.part ++ flat_map local_text locals.locals)))) (sym joined_release) in
    record {
      spelled = record {
        parts = record { before = run is_blank text; v = v_of inner; epoch = step.digits; release = release_parts release; pre = pre.pre; post = post.part; dev = dev.part; locals = locals.locals; behind = behind.0 };
        joined = run_past is_blank text ∙ ap (λ (t : List ℕ). run is_blank text ++ t)
            (behind.1 ∙ ap (λ (t : List ℕ). t ++ behind.0) (v_found inner ∙ ap (λ (t : List ℕ). v_of inner ++ t) (epoch.joined ∙ ap (in_front bang step.digits) front)));
        form = record {
          before = run_all is_blank text;
          behind = behind.2;
          v = v_is inner;
          epoch = epoch.form;
          release = lt-ltb 0 (length (release_parts release)) (split_some dot release);
          numerals = numerals;
          pre = pre.form;
          post = post.form;
          dev = dev.form;
          follows = follows_found pre.pre post.part second.rest first.rest post.joined pre.closed;
          locals = locals.form;
        };
        values = rw (pre.value, value_taken post.part second.digits post.value, value_taken dev.part (dev_step second.rest).digits dev.value, locals.values) refl;
      };
      taken = record { epoch = epoch.digits; release = numerals; pre = pre.digits; post = post.digits; dev = dev.digits; label = is_end };
    }

-- ---- what the reader tests

abbrev is_form : Apart → Bool
is_form a = list_all is_numeral (release_parts a.release) && is_label a.label

whole_form : (text : List ℕ) (a : Apart) → a ≡ apart text → (list_all is_numeral (release_parts a.release) && is_label a.label) ≡ true → IsFound text
whole_form text a e is =
    let both = and_parts (list_all is_numeral (release_parts (apart text).release)) (is_label (apart text).label) (ap is_form (sym e) ∙ is) in
    found text both.0 both.1

pub taken_parts : (text : List ℕ) (a : Apart) → a ≡ apart text → (list_all is_numeral (release_parts a.release) && is_label a.label) ≡ true → AreTaken a
taken_parts text a e is = subst AreTaken (sym e) (whole_form text a e is).taken

pub spelled_parts : (text : List ℕ) (a : Apart) → a ≡ apart text → (list_all is_numeral (release_parts a.release) && is_label a.label) ≡ true → Spells text (fields_of a)
spelled_parts text a e is = subst (λ b. Spells text (fields_of b)) (sym e) (whole_form text a e is).spelled

pub no_parts : (text : List ℕ) (a : Apart) → a ≡ apart text → (list_all is_numeral (release_parts a.release) && is_label a.label) ≡ false → (v : Fields) → ¬ (Spells text v)
no_parts text a e none v s =
    let reads = spelled_reads text v s in
    let both : is_form (apart text) ≡ true = and_from _ _ reads.release reads.label in
    absurd (cc (ap is_form e, both, none))

pub given : {V : Type 0} (Spells' : List ℕ → V → Type 0) (Within : V → Type 0) (text : List ℕ) (v : V) → Spells' text v → (r : Result V VersionFault) → Gives Within r v → IfOk r (λ w. Spells' text w × Within w)
given Spells' Within text v s (Ok w) h = (subst (Spells' text) (sym h.0) s, subst Within (sym h.0) h.1)
given Spells' Within text v s (Err fault) h = tt

-- ---- the parts stand for a version

formed_parts : (parts : List (List ℕ)) → list_all is_local_text parts ≡ true → list_all is_local (map local_of parts) ≡ true
formed_parts [] all = refl
formed_parts (part ∷ parts) all =
    let a = and_parts (is_local_text part) (list_all is_local_text parts) all in
    and_from _ _ (formed_local part a.0) (formed_parts parts a.1)

formed_label : (label : List ℕ) → is_label label ≡ true → list_all is_local (map local_of (label_parts label)) ≡ true
formed_label [] is = refl
formed_label (sign ∷ label) is = formed_parts (slice_split is_separator label) (and_parts (sign == plus) (list_all is_local_text (slice_split is_separator label)) is).1

pub formed_taken : (a : Apart) → AreTaken a → IsVersion (fields_of a)
formed_taken a is = record {
  release = rw (length-map (release_parts a.release) value) (lt-ltb 0 (length (release_parts a.release)) (split_some dot a.release));
  local = formed_label a.label is.label;
}
