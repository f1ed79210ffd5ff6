-- What stands behind a release is taken apart into the pre-, post- and dev-release and the label that it is made of.
use Rattle.std.proofs.Common.{◌≡◌, ◌++◌, ◌&&◌, ◌==◌, not, codes, ℕ, Bool, true, false, List, [], ◌∷◌, Option, Some, None, refl, sym, ap, ◌∙◌, subst, inl, inr, arith}
use Rattle.std.specs.Char.{is_ascii_digit, is_ascii_lowercase, to_ascii_lowercase}
use Rattle.std.specs.List.{flat_map, list_all}
use Rattle.std.specs.Str.{bytes_eq}
use Rattle.std.proofs.lemmas.Bool.{and_parts, cases_Bool, eqb-true, not-true}
use Rattle.std.proofs.lemmas.Bool.Decides.{nat_tests}
use Rattle.std.proofs.lemmas.Slice.Eq.{bytes_eq-Decides}
use Rattle.vx_spec.specs.Numerals.{is_numeral}
use Rattle.vx_spec.specs.Runs.{begins}
use Rattle.vx_spec.proofs.RunLaws.{one_run}
use Rattle.vx_text.specs.Folding.{lowered}
use Rattle.pep440_scheme.specs.declared.version.PreKind.{PreKind}
use Rattle.pep440_scheme.specs.declared.words.Mark.{Mark}
use Rattle.pep440_scheme.specs.declared.words.Mark.TheVariants.{Pre, Post, Dev}
use Rattle.vx_spec.specs.Signs.{hyphen, plus}
use Rattle.pep440_scheme.specs.Spelling.{LocalPart, Suffix, are_locals, is_closed, is_dev, is_dev_mark, is_gap, is_implicit, is_local_text, is_later_local, is_post, is_post_mark, is_pre, is_pre_mark, is_suffix, local_text, may_follow, option_text, pre_value, suffix_text}
use Rattle.pep440_scheme.specs.Words.{MarkWord, mark_of, mark_words}
use Rattle.pep440_scheme.specs.Steps.Apart.{PreStep, Step, after_gap, after_word, dev_step, first_word, is_dashed, post_step, post_taken, pre_part_of, pre_step, pre_taken, suffix_at}
use Rattle.pep440_scheme.specs.Laws.FirstWords.{goes_on}
use Rattle.pep440_scheme.specs.Laws.Suffixes.{IsSuffix, StandsApart, left_behind, no_dash, no_dash_behind, suffix_again, suffix_apart, suffix_behind, suffix_no_letter}

-- ---- forms

dev_mark : (mark : Option Mark) → is_dev_mark mark ≡ true → mark ≡ Some Dev
dev_mark None is = cc is
dev_mark (Some (Pre kind)) is = cc is
dev_mark (Some Post) is = cc is
dev_mark (Some Dev) is = refl

post_mark : (mark : Option Mark) → is_post_mark mark ≡ true → mark ≡ Some Post
post_mark None is = cc is
post_mark (Some (Pre kind)) is = cc is
post_mark (Some Post) is = refl
post_mark (Some Dev) is = cc is

pre_mark : (mark : Option Mark) → is_pre_mark mark ≡ true → (kind : PreKind) × (mark ≡ Some (Pre kind))
pre_mark None is = absurd (cc is)
pre_mark (Some (Pre kind)) is = (kind, refl)
pre_mark (Some Post) is = absurd (cc is)
pre_mark (Some Dev) is = absurd (cc is)

suffix_form : (test : Option Mark → Bool) (s : Suffix) (mark : Mark) → is_suffix test s ≡ true → mark_of (lowered s.word) ≡ Some mark → IsSuffix mark s
suffix_form test s mark is word =
    let a = and_parts (is_gap s.lead) (test (mark_of (lowered s.word)) && (is_gap s.gap && list_all is_ascii_digit s.digits)) is in
    let b = and_parts (test (mark_of (lowered s.word))) (is_gap s.gap && list_all is_ascii_digit s.digits) a.1 in
    let d = and_parts (is_gap s.gap) (list_all is_ascii_digit s.digits) b.1 in
    record { lead = a.0; word = word; gap = d.0; digits = d.1 }

marked : (test : Option Mark → Bool) (s : Suffix) → is_suffix test s ≡ true → test (mark_of (lowered s.word)) ≡ true
marked test s is =
    let a = and_parts (is_gap s.lead) (test (mark_of (lowered s.word)) && (is_gap s.gap && list_all is_ascii_digit s.digits)) is in
    (and_parts (test (mark_of (lowered s.word))) (is_gap s.gap && list_all is_ascii_digit s.digits) a.1).0

pub dev_form : (s : Suffix) → is_suffix is_dev_mark s ≡ true → IsSuffix Dev s
dev_form s is = suffix_form is_dev_mark s Dev is (dev_mark (mark_of (lowered s.word)) (marked is_dev_mark s is))

pub post_form : (s : Suffix) → is_suffix is_post_mark s ≡ true → IsSuffix Post s
post_form s is = suffix_form is_post_mark s Post is (post_mark (mark_of (lowered s.word)) (marked is_post_mark s is))

pub pre_form : (s : Suffix) → is_suffix is_pre_mark s ≡ true → (kind : PreKind) × IsSuffix (Pre kind) s
pre_form s is = let m = pre_mark (mark_of (lowered s.word)) (marked is_pre_mark s is) in (m.0, suffix_form is_pre_mark s (Pre m.0) is m.1)

-- '-' and a numeral
pub record IsDash (s : Suffix) : Type 0 where
  pub text_is : suffix_text s ≡ hyphen ∷ s.digits
  pub digits : is_numeral s.digits ≡ true

pub dash_form : (s : Suffix) → is_implicit s ≡ true → IsDash s
dash_form s is =
    let a = and_parts (bytes_eq s.lead (codes "-")) (bytes_eq s.word [] && (bytes_eq s.gap [] && is_numeral s.digits)) is in
    let b = and_parts (bytes_eq s.word []) (bytes_eq s.gap [] && is_numeral s.digits) a.1 in
    let d = and_parts (bytes_eq s.gap []) (is_numeral s.digits) b.1 in
    record {
      text_is = rw ((bytes_eq-Decides s.lead (codes "-")).0 a.0, (bytes_eq-Decides s.word []).0 b.0, (bytes_eq-Decides s.gap []).0 d.0) refl;
      digits = d.1;
    }

-- ---- the end of a text

pub record IsEnd (text : List ℕ) : Type 0 where
  pub no_suffix : suffix_at text ≡ None
  pub apart : StandsApart text
  pub no_letter : begins goes_on text ≡ false
  pub no_gap : after_gap text ≡ text

plus_end : (text : List ℕ) → IsEnd (plus ∷ text)
unfolding suffix_at after_word
plus_end text = record { no_suffix = refl; apart = record { no_digit = refl; no_bang = refl; no_digit_behind = refl; no_gap_behind = refl }; no_letter = refl; no_gap = refl }

pub end_of : (locals : List LocalPart) → are_locals locals ≡ true → IsEnd (flat_map local_text locals)
unfolding suffix_at after_word
end_of [] is = record { no_suffix = refl; apart = record { no_digit = refl; no_bang = refl; no_digit_behind = refl; no_gap_behind = refl }; no_letter = refl; no_gap = refl }
end_of (part ∷ parts) is =
    let a = and_parts (part.sign == plus && is_local_text part.text) (list_all is_later_local parts) is in
    let b = and_parts (part.sign == plus) (is_local_text part.text) a.0 in
    rw (eqb-true part.sign plus b.0) (plus_end (part.text ++ flat_map local_text parts))

-- ---- the dev-release

-- the digits of a suffix
abbrev pub suffix_digits : Option Suffix → Option (List ℕ)
suffix_digits None = None
suffix_digits (Some s) = Some s.digits

-- the text is a dev-release that may be left out, and this end
pub record ReadsDev (dev : Option Suffix) (end text : List ℕ) : Type 0 where
  pub step : dev_step text ≡ record { digits = suffix_digits dev; rest = end }
  pub no_post : (other : List ℕ) → post_taken other (suffix_at text) ≡ record { digits = None; rest = other }
  pub no_pre : (other : List ℕ) → pre_taken other (suffix_at text) ≡ record { pre = None; rest = other }

reads_none : (end : List ℕ) → IsEnd end → ReadsDev None end end
reads_none end is = record { step = rw is.no_suffix refl; no_post = λ other. rw is.no_suffix refl; no_pre = λ other. rw is.no_suffix refl }

reads_some : (s : Suffix) (end text : List ℕ) → suffix_at text ≡ Some (record { mark = Dev; digits = s.digits; rest = end }) → ReadsDev (Some s) end text
reads_some s end text is = record { step = rw is refl; no_post = λ other. rw is refl; no_pre = λ other. rw is refl }

left_end : (s : Suffix) (end : List ℕ) → after_gap end ≡ end → left_behind s end ≡ end
left_end s end none = elim (cases_Bool (is_closed (Some s))) [
  | inl is ↦ rw is refl
  | inr other ↦ rw other none
]

dev_suffix : (s : Suffix) (end : List ℕ) → is_dev (Some s) ≡ true → IsEnd end → suffix_at (suffix_text s ++ end) ≡ Some (record { mark = Dev; digits = s.digits; rest = end })
dev_suffix s end is last =
    suffix_again Dev s end (dev_form s is) last.apart.no_digit last.no_letter (λ _. last.apart.no_digit_behind)
    ∙ ap (λ (t : List ℕ). Some (record { mark = Dev; digits = s.digits; rest = t })) (left_end s end last.no_gap)

pub dev_reads : (dev : Option Suffix) (end : List ℕ) → is_dev dev ≡ true → IsEnd end → ReadsDev dev end (option_text dev ++ end)
dev_reads None end is last = reads_none end last
dev_reads (Some s) end is last = reads_some s end (suffix_text s ++ end) (dev_suffix s end is last)

pub dev_reads_behind : (dev : Option Suffix) (end : List ℕ) → is_dev dev ≡ true → IsEnd end → ReadsDev dev end (after_gap (option_text dev ++ end))
dev_reads_behind None end is last = rw last.no_gap (reads_none end last)
dev_reads_behind (Some s) end is last =
    let text = suffix_text s ++ end in
    reads_some s end (after_gap text) (suffix_behind text (suffix_apart Dev s end (dev_form s is)).no_gap_behind ∙ dev_suffix s end is last)

pub dev_apart : (dev : Option Suffix) (end : List ℕ) → is_dev dev ≡ true → IsEnd end → StandsApart (option_text dev ++ end)
dev_apart None end is last = last.apart
dev_apart (Some s) end is last = suffix_apart Dev s end (dev_form s is)

pub dev_no_letter : (dev : Option Suffix) (end : List ℕ) → is_dev dev ≡ true → IsEnd end → begins goes_on (option_text dev ++ end) ≡ false
dev_no_letter None end is last = last.no_letter
dev_no_letter (Some s) end is last = suffix_no_letter Dev s end (dev_form s is) refl

-- ---- the post-release

-- the text is a post- and a dev-release that may be left out, and this end
pub record ReadsPost (post dev : Option Suffix) (end text : List ℕ) : Type 0 where
  pub digits : (post_step text).digits ≡ suffix_digits post
  pub later : dev_step (post_step text).rest ≡ record { digits = suffix_digits dev; rest = end }
  pub no_pre : (other : List ℕ) → pre_taken other (suffix_at text) ≡ record { pre = None; rest = other }

post_none : (dev : Option Suffix) (end text : List ℕ) → is_dashed text ≡ false → ReadsDev dev end text → ReadsPost None dev end text
post_none dev end text none is = record {
  digits = rw none (ap (λ (step : Step). step.digits) (is.no_post text));
  later = rw none (ap (λ (step : Step). dev_step step.rest) (is.no_post text) ∙ is.step);
  no_pre = is.no_pre;
}

post_some : (s : Suffix) (dev : Option Suffix) (end left text : List ℕ) → is_dashed text ≡ false → suffix_at text ≡ Some (record { mark = Post; digits = s.digits; rest = left }) → ReadsDev dev end left
    → ReadsPost (Some s) dev end text
post_some s dev end left text none is later = record { digits = rw (none, is) refl; later = rw (none, is) later.step; no_pre = λ other. rw is refl }

left_reads : (s : Suffix) (dev : Option Suffix) (end : List ℕ) → is_dev dev ≡ true → IsEnd end → ReadsDev dev end (left_behind s (option_text dev ++ end))
left_reads s dev end is last = elim (cases_Bool (is_closed (Some s))) [
  | inl closed ↦ rw closed (dev_reads dev end is last)
  | inr other ↦ rw other (dev_reads_behind dev end is last)
]

post_suffix : (s : Suffix) (dev : Option Suffix) (end : List ℕ) → is_suffix is_post_mark s ≡ true → is_dev dev ≡ true → IsEnd end
    → suffix_at (suffix_text s ++ (option_text dev ++ end)) ≡ Some (record { mark = Post; digits = s.digits; rest = left_behind s (option_text dev ++ end) })
post_suffix s dev end is later last =
    let apart = dev_apart dev end later last in
    suffix_again Post s (option_text dev ++ end) (post_form s is) apart.no_digit (dev_no_letter dev end later last) (λ _. apart.no_digit_behind)

-- a digit begins no word
other_letter : (w d : ℕ) → is_ascii_lowercase w ≡ true → is_ascii_digit d ≡ true → (to_ascii_lowercase d == w) ≡ false
other_letter w d small digit = grind (arith, nat_tests)

no_such_word : (word : List ℕ) (d : ℕ) (text : List ℕ) → begins is_ascii_lowercase word ≡ true → is_ascii_digit d ≡ true → after_word word (d ∷ text) ≡ None
unfolding after_word
no_such_word [] d text small digit = cc small
no_such_word (w ∷ word) d text small digit = rw (other_letter w d small digit) refl

digit_no_word : (table : List MarkWord) (d : ℕ) (text : List ℕ) → list_all (λ (entry : MarkWord). begins is_ascii_lowercase entry.word) table ≡ true → is_ascii_digit d ≡ true → first_word table (d ∷ text) ≡ None
digit_no_word [] d text all digit = refl
digit_no_word (entry ∷ table) d text all digit =
    let a = and_parts (begins is_ascii_lowercase entry.word) (list_all (λ (e : MarkWord). begins is_ascii_lowercase e.word) table) all in
    rw (no_such_word entry.word d text a.0 digit) (digit_no_word table d text a.1 digit)

numeral_digits : (digits : List ℕ) → is_numeral digits ≡ true → list_all is_ascii_digit digits ≡ true
numeral_digits digits is = (and_parts _ _ is).1

pub numeral_begins : (digits rest : List ℕ) → is_numeral digits ≡ true → begins is_ascii_digit (digits ++ rest) ≡ true
numeral_begins [] rest is = cc is
numeral_begins (d ∷ digits) rest is = (and_parts (is_ascii_digit d) (list_all is_ascii_digit digits) (numeral_digits (d ∷ digits) is)).0

dash_no_suffix : (digits rest : List ℕ) → is_numeral digits ≡ true → suffix_at (hyphen ∷ (digits ++ rest)) ≡ None
unfolding suffix_at
dash_no_suffix [] rest is = cc is
dash_no_suffix (d ∷ digits) rest is = rw (digit_no_word mark_words d (digits ++ rest) refl (numeral_begins (d ∷ digits) rest is)) refl

-- an implicit post-release
dash_reads : (s : Suffix) (dev : Option Suffix) (end : List ℕ) → IsDash s → is_dev dev ≡ true → IsEnd end → ReadsPost (Some s) dev end (suffix_text s ++ (option_text dev ++ end))
dash_reads s dev end is later last =
    let behind = option_text dev ++ end in
    let number = one_run is_ascii_digit s.digits behind (numeral_digits s.digits is.digits) (dev_apart dev end later last).no_digit in
    rw is.text_is (record {
      digits = rw (numeral_begins s.digits behind is.digits, number.0) refl;
      later = rw (numeral_begins s.digits behind is.digits, number.1) (dev_reads dev end later last).step;
      no_pre = λ other. rw (dash_no_suffix s.digits behind is.digits) refl;
    })

pub post_reads : (post dev : Option Suffix) (end : List ℕ) → is_post post ≡ true → is_dev dev ≡ true → IsEnd end → ReadsPost post dev end (option_text post ++ (option_text dev ++ end))
post_reads None dev end is later last =
    let behind = option_text dev ++ end in
    post_none dev end behind (no_dash behind (dev_apart dev end later last).no_digit_behind) (dev_reads dev end later last)
post_reads (Some s) dev end is later last = elim (cases_Bool (is_implicit s)) [
  | inl dash ↦ dash_reads s dev end (dash_form s dash) later last
  | inr other ↦
      let word : is_suffix is_post_mark s ≡ true = rw other at is in
      let behind = option_text dev ++ end in
      let apart = suffix_apart Post s behind (post_form s word) in
      post_some s dev end (left_behind s behind) (suffix_text s ++ behind) (no_dash (suffix_text s ++ behind) apart.no_digit_behind) (post_suffix s dev end word later last) (left_reads s dev end later last)
]

-- the post-release is not implicit
abbrev pub has_no_dash : Option Suffix → Bool
has_no_dash None = true
has_no_dash (Some s) = not (is_implicit s)

pub post_apart : (post dev : Option Suffix) (end : List ℕ) → is_post post ≡ true → has_no_dash post ≡ true → is_dev dev ≡ true → IsEnd end → StandsApart (option_text post ++ (option_text dev ++ end))
post_apart None dev end is word later last = dev_apart dev end later last
post_apart (Some s) dev end is word later last = suffix_apart Post s (option_text dev ++ end) (post_form s (rw (not-true (is_implicit s) word) at is))

pub post_reads_behind : (post dev : Option Suffix) (end : List ℕ) → is_post post ≡ true → has_no_dash post ≡ true → is_dev dev ≡ true → IsEnd end
    → ReadsPost post dev end (after_gap (option_text post ++ (option_text dev ++ end)))
post_reads_behind None dev end is word later last =
    let behind = option_text dev ++ end in
    post_none dev end (after_gap behind) (no_dash_behind behind (dev_apart dev end later last).no_gap_behind) (dev_reads_behind dev end later last)
post_reads_behind (Some s) dev end is word later last =
    let form : is_suffix is_post_mark s ≡ true = rw (not-true (is_implicit s) word) at is in
    let behind = option_text dev ++ end in
    let text = suffix_text s ++ behind in
    let apart = suffix_apart Post s behind (post_form s form) in
    post_some s dev end (left_behind s behind) (after_gap text) (no_dash_behind text apart.no_gap_behind) (suffix_behind text apart.no_gap_behind ∙ post_suffix s dev end form later last) (left_reads s dev end later last)

post_no_digit : (post dev : Option Suffix) (end : List ℕ) → is_post post ≡ true → is_dev dev ≡ true → IsEnd end → begins is_ascii_digit (option_text post ++ (option_text dev ++ end)) ≡ false
post_no_digit None dev end is later last = (dev_apart dev end later last).no_digit
post_no_digit (Some s) dev end is later last = elim (cases_Bool (is_implicit s)) [
  | inl dash ↦ rw (dash_form s dash).text_is refl
  | inr other ↦ (suffix_apart Post s (option_text dev ++ end) (post_form s (rw other at is))).no_digit
]

post_no_letter : (post dev : Option Suffix) (end : List ℕ) → is_post post ≡ true → is_dev dev ≡ true → IsEnd end → begins goes_on (option_text post ++ (option_text dev ++ end)) ≡ false
post_no_letter None dev end is later last = dev_no_letter dev end later last
post_no_letter (Some s) dev end is later last = elim (cases_Bool (is_implicit s)) [
  | inl dash ↦ rw (dash_form s dash).text_is refl
  | inr other ↦ suffix_no_letter Post s (option_text dev ++ end) (post_form s (rw other at is)) refl
]

-- ---- the pre-release

-- the text is a pre-, a post- and a dev-release that may be left out, and this end
pub record ReadsPre (pre post dev : Option Suffix) (end text : List ℕ) : Type 0 where
  pub value : pre_part_of (pre_step text).pre ≡ pre_value pre
  pub later : ReadsPost post dev end (pre_step text).rest

-- a pre-release that an implicit post-release may not follow is followed by none
no_dash_after : (s : Suffix) (post : Option Suffix) → may_follow (Some s) post ≡ true → is_closed (Some s) ≡ false → has_no_dash post ≡ true
no_dash_after s None follows open' = refl
no_dash_after s (Some p) follows open' = elim (cases_Bool (is_implicit p)) [
  | inl dash ↦ absurd (cc (rw (dash, open') at follows))
  | inr other ↦ rw other refl
]

left_post : (s : Suffix) (post dev : Option Suffix) (end : List ℕ) → is_post post ≡ true → is_dev dev ≡ true → may_follow (Some s) post ≡ true → IsEnd end
    → ReadsPost post dev end (left_behind s (option_text post ++ (option_text dev ++ end)))
left_post s post dev end next later follows last = elim (cases_Bool (is_closed (Some s))) [
  | inl closed ↦ rw closed (post_reads post dev end next later last)
  | inr other ↦ rw other (post_reads_behind post dev end next (no_dash_after s post follows other) later last)
]

pub pre_reads : (pre post dev : Option Suffix) (end : List ℕ) → is_pre pre ≡ true → is_post post ≡ true → is_dev dev ≡ true → may_follow pre post ≡ true → IsEnd end
    → ReadsPre pre post dev end (option_text pre ++ (option_text post ++ (option_text dev ++ end)))
pre_reads None post dev end is next later follows last =
    let reads = post_reads post dev end next later last in
    let text = option_text post ++ (option_text dev ++ end) in
    record {
      value = ap (λ (step : PreStep). pre_part_of step.pre) (reads.no_pre text);
      later = subst (λ (step : PreStep). ReadsPost post dev end step.rest) (sym (reads.no_pre text)) reads;
    }
pre_reads (Some s) post dev end is next later follows last =
    let form = pre_form s is in
    let behind = option_text post ++ (option_text dev ++ end) in
    let taken = suffix_again (Pre form.0) s behind form.1 (post_no_digit post dev end next later last) (post_no_letter post dev end next later last)
    (λ open'. (post_apart post dev end next (no_dash_after s post follows open') later last).no_digit_behind) in
    record {
      value = rw (taken, form.1.word) refl;
      later = rw taken (left_post s post dev end next later follows last);
    }
