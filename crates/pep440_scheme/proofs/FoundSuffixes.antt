-- What is taken for a suffix is one.
use Rattle.std.proofs.Common.{◌≡◌, ◌++◌, ◌||◌, ◌==◌, codes, if◌then◌else◌, length, ℕ, Bool, true, false, List, [], ◌∷◌, Option, Some, None, refl, sym, ap, ◌∙◌, inl, inr, arith}
use Rattle.std.specs.Char.{is_ascii_digit, to_ascii_lowercase}
use Rattle.std.specs.Str.{bytes_eq}
use Rattle.std.proofs.lemmas.Bool.{and_from, and_parts, cases_Bool, eqb-true, lt-ltb, or_left, or_right}
use Rattle.std.proofs.lemmas.Slice.Eq.{bytes_eq-Decides}
use Rattle.vx_spec.specs.Numerals.{is_numeral}
use Rattle.vx_spec.specs.Runs.{begins, past, run}
use Rattle.vx_spec.proofs.RunLaws.{run_all, run_past, run_step}
use Rattle.vx_text.specs.Folding.{lowered}
use Rattle.pep440_scheme.specs.declared.version.PreKind.{PreKind}
use Rattle.pep440_scheme.specs.declared.words.Mark.{Mark}
use Rattle.pep440_scheme.specs.declared.words.Mark.TheVariants.{Pre, Post, Dev}
use Rattle.vx_spec.specs.Signs.{hyphen}
use Rattle.pep440_scheme.specs.Spelling.{Suffix, has_byte, is_closed, is_dev, is_dev_mark, is_gap, is_implicit, is_post, is_post_mark, is_pre, is_pre_mark, is_separator, is_suffix, option_text, pre_value, suffix_text}
use Rattle.pep440_scheme.specs.Words.{MarkWord, mark_in, mark_words}
use Rattle.pep440_scheme.specs.Steps.Apart.{Begun, PreStep, Step, Taken, after_gap, after_word, are_digits, are_pre_digits, begun_by, dev_step, dev_taken, first_word, is_dashed, post_step, post_taken, pre_part_of, pre_step, pre_taken, suffix_at, taken_by}
use Rattle.pep440_scheme.specs.Laws.FirstWords.{word_again}
use Rattle.pep440_scheme.specs.Laws.Suffixes.{IsSuffix, suffix_parts}
use Rattle.pep440_scheme.specs.Laws.Behind.{dash_form, suffix_digits}

some_value : {A : Type 0} (x y : A) → Some x ≡ Some y → x ≡ y
some_value x y e = cc e

-- ---- a separator, or nothing

gap_of : List ℕ → List ℕ
gap_of [] = []
gap_of (b ∷ text) = if is_separator b then b ∷ [] else []

gap_found : (text : List ℕ) → text ≡ gap_of text ++ after_gap text
unfolding gap_of
gap_found [] = refl
gap_found (b ∷ text) = elim (cases_Bool (is_separator b)) [
  | inl is ↦ rw is refl
  | inr other ↦ rw other refl
]

gap_is : (text : List ℕ) → is_gap (gap_of text) ≡ true
unfolding gap_of
gap_is [] = refl
gap_is (b ∷ text) = elim (cases_Bool (is_separator b)) [
  | inl is ↦ rw is is
  | inr other ↦ rw other refl
]

-- none is left where there is none
no_gap_left : (text : List ℕ) → gap_of text ≡ [] → begins is_separator text ≡ false
unfolding gap_of
no_gap_left [] none = refl
no_gap_left (b ∷ text) none = elim (cases_Bool (is_separator b)) [
  | inl is ↦ absurd (cc (rw is at none))
  | inr other ↦ other
]

-- ---- a word

word_found : (word text rest : List ℕ) → after_word word text ≡ Some rest → (x : List ℕ) × (text ≡ x ++ rest) × (lowered x ≡ word)
unfolding after_word
word_found [] text rest e = ([], cc e, refl)
word_found (w ∷ word) [] rest e = absurd (cc e)
word_found (w ∷ word) (b ∷ text) rest e = elim (cases_Bool (to_ascii_lowercase b == w)) [
  | inl is ↦
      let found = word_found word text rest (rw is at e) in
      (b ∷ found.0, ap (λ (t : List ℕ). b ∷ t) found.1, cc (eqb-true (to_ascii_lowercase b) w is, found.2))
  | inr other ↦ absurd (cc (rw other at e))
]

-- a word of the table, and what stands behind it
pub record IsBegun (table : List MarkWord) (text : List ℕ) (begun : Begun) : Type 0 where
  pub word : List ℕ
  pub joined : text ≡ word ++ begun.rest
  pub mark : mark_in table (lowered word) ≡ Some begun.mark

here : (entry : MarkWord) (table : List MarkWord) (text rest : List ℕ) → after_word entry.word text ≡ Some rest → IsBegun (entry ∷ table) text (record { mark = entry.mark; rest = rest })
here entry table text rest e =
    let found = word_found entry.word text rest e in
    let same = (bytes_eq-Decides entry.word (lowered found.0)).1 (sym found.2) in
    record { word = found.0; joined = found.1; mark = rw same refl }

later : (entry : MarkWord) (table : List MarkWord) (text : List ℕ) (begun : Begun) → after_word entry.word text ≡ None → IsBegun table text begun → IsBegun (entry ∷ table) text begun
later entry table text begun none is = record {
  word = is.word;
  joined = is.joined;
  mark = elim (cases_Bool (bytes_eq entry.word (lowered is.word))) [
    | inl same ↦
        let e = (bytes_eq-Decides entry.word (lowered is.word)).0 same in
        let found : after_word entry.word text ≡ Some begun.rest = rw (e, is.joined) (word_again is.word begun.rest) in
        absurd (cc (found, none))
    | inr other ↦ rw other is.mark
  ];
}

at_word : (entry : MarkWord) (table : List MarkWord) (text : List ℕ) (begun : Begun) (o : Option (List ℕ)) → after_word entry.word text ≡ o → (first_word table text ≡ Some begun → IsBegun table text begun)
    → begun_by entry.mark o (first_word table text) ≡ Some begun → IsBegun (entry ∷ table) text begun
at_word entry table text begun (Some rest) is others e = let same : record { mark = entry.mark; rest = rest } ≡ begun = some_value _ _ e in rw (sym same) (here entry table text rest is)
at_word entry table text begun None is others e = later entry table text begun is (others e)

begun_found : (table : List MarkWord) (text : List ℕ) (begun : Begun) → first_word table text ≡ Some begun → IsBegun table text begun
begun_found [] text begun e = absurd (cc e)
begun_found (entry ∷ table) text begun e = at_word entry table text begun (after_word entry.word text) refl (begun_found table text begun) e

-- ---- a suffix

-- the suffix that was taken, which ends with its word only where no separator follows
pub record IsTaken (text : List ℕ) (taken : Taken) : Type 0 where
  pub suffix : Suffix
  pub joined : text ≡ suffix_text suffix ++ taken.rest
  pub form : IsSuffix taken.mark suffix
  pub digits : suffix.digits ≡ taken.digits
  pub closed : is_closed (Some suffix) ≡ false → begins is_separator taken.rest ≡ false

no_bytes : (digits gap : List ℕ) → (has_byte digits || has_byte gap) ≡ false → (digits ≡ []) × (gap ≡ [])
no_bytes [] [] none = (refl, refl)
no_bytes [] (b ∷ gap) none = absurd (cc none)
no_bytes (b ∷ digits) gap none = absurd (cc none)

same_rest : (run' past' text : List ℕ) → text ≡ run' ++ past' → run' ≡ [] → past' ≡ text
same_rest run' past' text e none = sym (rw none at e)

taken_found : (text : List ℕ) (begun : Begun) → IsBegun mark_words (after_gap text) begun
    → IsTaken text (record { mark = begun.mark; digits = run is_ascii_digit (after_gap begun.rest); rest = past is_ascii_digit (after_gap begun.rest) })
taken_found text begun is =
    let behind = after_gap begun.rest in
    let digits = run is_ascii_digit behind in
    let rest = past is_ascii_digit behind in
    let number : begun.rest ≡ gap_of begun.rest ++ (digits ++ rest) = gap_found begun.rest ∙ ap (λ (t : List ℕ). gap_of begun.rest ++ t) (run_past is_ascii_digit behind) in
    let parts : text ≡ gap_of text ++ (is.word ++ (gap_of begun.rest ++ (digits ++ rest))) =
    gap_found text ∙ ap (λ (t : List ℕ). gap_of text ++ t) (is.joined ∙ ap (λ (t : List ℕ). is.word ++ t) number) in
    let s : Suffix = record { lead = gap_of text; word = is.word; gap = gap_of begun.rest; digits = digits } in
    record {
      suffix = s;
      joined = parts ∙ sym (suffix_parts s rest);
      form = record { lead = gap_is text; word = is.mark; gap = gap_is begun.rest; digits = run_all is_ascii_digit behind };
      digits = refl;
      closed = λ open'.
          let none = no_bytes digits (gap_of begun.rest) open' in
          let gap = no_gap_left begun.rest none.1 in
          let all : rest ≡ behind = same_rest digits rest behind (run_past is_ascii_digit behind) none.0 in
          let whole : behind ≡ begun.rest = sym (rw none.1 at (gap_found begun.rest)) in
          rw (all, whole) gap;
    }

pub suffix_found : (text : List ℕ) (taken : Taken) → suffix_at text ≡ Some taken → IsTaken text taken
unfolding suffix_at
suffix_found text taken e = by_word (first_word mark_words (after_gap text)) refl e
  where
    by_word : (o : Option Begun) → first_word mark_words (after_gap text) ≡ o → taken_by o ≡ Some taken → IsTaken text taken
    by_word None is e' = absurd (cc e')
    by_word (Some begun) is e' =
        let same : record { mark = begun.mark; digits = run is_ascii_digit (after_gap begun.rest); rest = past is_ascii_digit (after_gap begun.rest) } ≡ taken = some_value _ _ e' in
        rw (sym same) (taken_found text begun (begun_found mark_words (after_gap text) begun is))

-- ---- the steps

suffix_passes : (test : Option Mark → Bool) (mark : Mark) (s : Suffix) → IsSuffix mark s → test (Some mark) ≡ true → is_suffix test s ≡ true
suffix_passes test mark s is passes = rw (is.lead, is.word, passes, is.gap, is.digits) refl

-- the pre-release that was taken
pub record IsPreTaken (text : List ℕ) (step : PreStep) : Type 0 where
  pub pre : Option Suffix
  pub joined : text ≡ option_text pre ++ step.rest
  pub form : is_pre pre ≡ true
  pub value : pre_part_of step.pre ≡ pre_value pre
  pub digits : are_pre_digits step.pre ≡ true
  pub closed : is_closed pre ≡ false → begins is_separator step.rest ≡ false

no_pre : (text : List ℕ) → IsPreTaken text (record { pre = None; rest = text })
no_pre text = record { pre = None; joined = refl; form = refl; value = refl; digits = refl; closed = λ open'. absurd (cc open') }

one_pre : (text : List ℕ) (kind : PreKind) (digits rest : List ℕ) → IsTaken text (record { mark = Pre kind; digits = digits; rest = rest }) → IsPreTaken text (record { pre = Some (record { kind = kind; digits = digits }); rest = rest })
one_pre text kind digits rest is = record {
  pre = Some is.suffix;
  joined = is.joined;
  form = suffix_passes is_pre_mark (Pre kind) is.suffix is.form refl;
  value = rw (is.form.word, is.digits) refl;
  digits = rw (sym is.digits) is.form.digits;
  closed = is.closed;
}

pub pre_found : (text : List ℕ) → IsPreTaken text (pre_step text)
pre_found text = by_suffix (suffix_at text) refl
  where
    by_mark : (mark : Mark) (digits rest : List ℕ) → IsTaken text (record { mark = mark; digits = digits; rest = rest }) → IsPreTaken text (pre_taken text (Some (record { mark = mark; digits = digits; rest = rest })))
    by_mark (Pre kind) digits rest is = one_pre text kind digits rest is
    by_mark Post digits rest is = no_pre text
    by_mark Dev digits rest is = no_pre text

    by_suffix : (o : Option Taken) → suffix_at text ≡ o → IsPreTaken text (pre_taken text o)
    by_suffix None is = no_pre text
    by_suffix (Some taken) is = by_mark taken.mark taken.digits taken.rest (suffix_found text taken is)

-- the post- or dev-release that was taken
pub record IsStepTaken (is_form : Option Suffix → Bool) (text : List ℕ) (step : Step) : Type 0 where
  pub part : Option Suffix
  pub joined : text ≡ option_text part ++ step.rest
  pub form : is_form part ≡ true
  pub value : suffix_digits part ≡ step.digits
  pub digits : are_digits step.digits ≡ true

no_step : (is_form : Option Suffix → Bool) (text : List ℕ) → is_form None ≡ true → IsStepTaken is_form text (record { digits = None; rest = text })
no_step is_form text is = record { part = None; joined = refl; form = is; value = refl; digits = refl }

one_step : (is_form : Option Suffix → Bool) (mark : Mark) (text digits rest : List ℕ) → (taken : IsTaken text (record { mark = mark; digits = digits; rest = rest })) → is_form (Some taken.suffix) ≡ true
    → IsStepTaken is_form text (record { digits = Some digits; rest = rest })
one_step is_form mark text digits rest is form = record {
  part = Some is.suffix;
  joined = is.joined;
  form = form;
  value = ap (λ (ds : List ℕ). Some ds) is.digits;
  digits = rw (sym is.digits) is.form.digits;
}

pub dev_found : (text : List ℕ) → IsStepTaken is_dev text (dev_step text)
dev_found text = by_suffix (suffix_at text) refl
  where
    by_mark : (mark : Mark) (digits rest : List ℕ) → IsTaken text (record { mark = mark; digits = digits; rest = rest }) → IsStepTaken is_dev text (dev_taken text (Some (record { mark = mark; digits = digits; rest = rest })))
    by_mark (Pre kind) digits rest is = no_step is_dev text refl
    by_mark Post digits rest is = no_step is_dev text refl
    by_mark Dev digits rest is = one_step is_dev Dev text digits rest is (suffix_passes is_dev_mark Dev is.suffix is.form refl)

    by_suffix : (o : Option Taken) → suffix_at text ≡ o → IsStepTaken is_dev text (dev_taken text o)
    by_suffix None is = no_step is_dev text refl
    by_suffix (Some taken) is = by_mark taken.mark taken.digits taken.rest (suffix_found text taken is)

word_post : (text : List ℕ) → IsStepTaken is_post text (post_taken text (suffix_at text))
word_post text = by_suffix (suffix_at text) refl
  where
    by_mark : (mark : Mark) (digits rest : List ℕ) → IsTaken text (record { mark = mark; digits = digits; rest = rest }) → IsStepTaken is_post text (post_taken text (Some (record { mark = mark; digits = digits; rest = rest })))
    by_mark (Pre kind) digits rest is = no_step is_post text refl
    by_mark Post digits rest is = one_step is_post Post text digits rest is (or_right (is_implicit is.suffix) (is_suffix is_post_mark is.suffix) (suffix_passes is_post_mark Post is.suffix is.form refl))
    by_mark Dev digits rest is = no_step is_post text refl

    by_suffix : (o : Option Taken) → suffix_at text ≡ o → IsStepTaken is_post text (post_taken text o)
    by_suffix None is = no_step is_post text refl
    by_suffix (Some taken) is = by_mark taken.mark taken.digits taken.rest (suffix_found text taken is)

first_digit : (text : List ℕ) → begins is_ascii_digit text ≡ true → is_numeral (run is_ascii_digit text) ≡ true
first_digit [] is = cc is
first_digit (d ∷ text) is =
    let e = run_step is_ascii_digit d text is in
    and_from _ _ (rw e (lt-ltb 0 (length (d ∷ run is_ascii_digit text)) (omega arith))) (run_all is_ascii_digit (d ∷ text))

dash_found : (text : List ℕ) → begins is_ascii_digit text ≡ true → IsStepTaken is_post (hyphen ∷ text) (record { digits = Some (run is_ascii_digit text); rest = past is_ascii_digit text })
dash_found text is =
    let numeral = first_digit text is in
    record {
      part = Some (record { lead = codes "-"; word = []; gap = []; digits = run is_ascii_digit text });
      joined = ap (λ (t : List ℕ). hyphen ∷ t) (run_past is_ascii_digit text);
      form = or_left _ _ numeral;
      value = refl;
      digits = run_all is_ascii_digit text;
    }

pub post_found : (text : List ℕ) → IsStepTaken is_post text (post_step text)
post_found [] = word_post []
post_found (b ∷ text) = elim (cases_Bool (is_dashed (b ∷ text))) [
  | inl dashed ↦
      let a = and_parts (b == hyphen) (begins is_ascii_digit text) dashed in
      rw dashed (of_dash b (eqb-true b hyphen a.0) a.1)
  | inr other ↦ rw other (word_post (b ∷ text))
]
  where
    of_dash : (c : ℕ) → c ≡ hyphen → begins is_ascii_digit text ≡ true → IsStepTaken is_post (c ∷ text) (record { digits = Some (run is_ascii_digit text); rest = past is_ascii_digit text })
    of_dash c e digit = rw e (dash_found text digit)

-- an implicit post-release begins with a separator
pub implicit_begins : (s : Suffix) (rest : List ℕ) → is_implicit s ≡ true → begins is_separator (suffix_text s ++ rest) ≡ true
implicit_begins s rest is = rw (dash_form s is).text_is refl
