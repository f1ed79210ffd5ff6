-- What texts spell, and which: exactly the versions.
use Rattle.std.proofs.Common.{◌≡◌, ◌≢◌, ◌++◌, ◌&&◌, ◌==◌, codes, if◌then◌else◌, nat_lt, length, map, ℕ, Bool, true, false, not, List, [], ◌∷◌, Option, Some, None, refl, sym, ap, ◌∙◌, append_assoc, append-nil, inl, inr, arith}
use Rattle.std.specs.Char.{is_ascii_alphanumeric, is_ascii_digit, to_ascii_lowercase}
use Rattle.std.specs.Cmp.{tied_itself}
use Rattle.std.specs.List.{flat_map, join_with_byte, list_all}
use Rattle.std.proofs.lemmas.Bool.{and_from, and_parts, cases_Bool, eqb-true, not-true, not_from_false}
use Rattle.std.proofs.lemmas.Bool.Decides.{nat_tests}
use Rattle.std.proofs.lemmas.List.{length-map}
use Rattle.vx_spec.specs.Marks.{in_front}
use Rattle.vx_spec.specs.Runs.{begins}
use Rattle.vx_spec.specs.Numerals.{is_numeral, numeral_text, value}
use Rattle.vx_spec.proofs.NumeralLaws.{numeral_text_is, value-numeral_text}
use Rattle.vx_text.specs.Folding.{lowered}
use Rattle.vx_scheme.specs.declared.ident.Ident.{Ident}
use Rattle.vx_scheme.specs.declared.ident.Ident.TheVariants.{Number, Word}
use Rattle.vx_scheme.specs.Scheme.{NormalSpells, TextLaws}
use Rattle.pep440_scheme.specs.declared.version.PreKind.{PreKind}
use Rattle.pep440_scheme.specs.declared.version.PreKind.TheVariants.{A, B, Rc}
use Rattle.pep440_scheme.specs.declared.version.PrePart.{PrePart}
use Rattle.pep440_scheme.specs.Version.{Fields, IsVersion, IsWithin, is_local, is_word, is_word_byte}
use Rattle.pep440_scheme.specs.Order.{order_of, order_total}
use Rattle.vx_spec.specs.Signs.{bang, dot, plus}
use Rattle.vx_text.specs.EpochParts.{epoch_value, is_epoch}
use Rattle.pep440_scheme.specs.Spelling.{AreVersionParts, LocalPart, Parts, Spells, Suffix, are_locals, core, is_dev, is_later_local, is_local_text, is_post, is_pre, local_of, local_text, may_follow, option_text, pre_value, suffix_value, suffixes, version_of, whole}
use Rattle.pep440_scheme.specs.Writing.{epoch_text, ident_text, kind_text, locals_text, normal, pre_text, release_text, word_text}
use Rattle.pep440_scheme.specs.Laws.Reading.{core_digit, one_reading}

-- ---- the parts of a text stand for a version

lower_byte : (b : ℕ) → is_ascii_alphanumeric b ≡ true → is_word_byte (to_ascii_lowercase b) ≡ true
lower_byte b is = grind (arith, nat_tests)

lower_bytes : (text : List ℕ) → list_all is_ascii_alphanumeric text ≡ true → list_all is_word_byte (lowered text) ≡ true
lower_bytes [] all = refl
lower_bytes (b ∷ text) all = let a = and_parts (is_ascii_alphanumeric b) (list_all is_ascii_alphanumeric text) all in and_from _ _ (lower_byte b a.0) (lower_bytes text a.1)

-- a digit in small letters is the digit
digit_stays : (b : ℕ) → is_ascii_alphanumeric b ≡ true → is_ascii_digit (to_ascii_lowercase b) ≡ is_ascii_digit b
digit_stays b is = elim (cases_Bool (is_ascii_digit b)) [
  | inl digit ↦ rw digit (grind (arith, nat_tests))
  | inr other ↦ rw other (grind (arith, nat_tests))
]

digits_stay : (text : List ℕ) → list_all is_ascii_alphanumeric text ≡ true → list_all is_ascii_digit (lowered text) ≡ list_all is_ascii_digit text
digits_stay [] all = refl
digits_stay (b ∷ text) all = let a = and_parts (is_ascii_alphanumeric b) (list_all is_ascii_alphanumeric text) all in rw (digit_stays b a.0, digits_stay text a.1) refl

lower_word : (text : List ℕ) → is_local_text text ≡ true → is_numeral text ≡ false → is_word (lowered text) ≡ true
lower_word text is word =
    let a = and_parts (nat_lt 0 (length text)) (list_all is_ascii_alphanumeric text) is in
    let size : length (lowered text) ≡ length text = length-map text to_ascii_lowercase in
    let other : is_numeral (lowered text) ≡ false = rw (size, digits_stay text a.1) word in
    and_from _ _ (and_from _ _ (rw size a.0) (lower_bytes text a.1)) (not_from_false _ other)

pub formed_local : (text : List ℕ) → is_local_text text ≡ true → is_local (local_of text) ≡ true
formed_local text is = elim (cases_Bool (is_numeral text)) [
  | inl number ↦ rw number refl
  | inr word ↦ rw word (lower_word text is word)
]

formed_later : (parts : List LocalPart) → list_all is_later_local parts ≡ true → list_all is_local (map (λ part. local_of part.text) parts) ≡ true
formed_later [] all = refl
formed_later (part ∷ parts) all =
    let a = and_parts (is_later_local part) (list_all is_later_local parts) all in
    and_from _ _ (formed_local part.text (and_parts _ (is_local_text part.text) a.0).1) (formed_later parts a.1)

formed_locals : (parts : List LocalPart) → are_locals parts ≡ true → list_all is_local (map (λ part. local_of part.text) parts) ≡ true
formed_locals [] all = refl
formed_locals (part ∷ parts) all =
    let a = and_parts (part.sign == plus && is_local_text part.text) (list_all is_later_local parts) all in
    and_from _ _ (formed_local part.text (and_parts (part.sign == plus) (is_local_text part.text) a.0).1) (formed_later parts a.1)

pub formed : (p : Parts) → AreVersionParts p → IsVersion (version_of p)
formed p form = record { release = rw (length-map p.release value) form.release; local = formed_locals p.locals form.locals }

pub spelled_version : (text : List ℕ) (v : Fields) → Spells text v → IsVersion v
spelled_version text v s = rw s.values (formed s.parts s.form)

-- ---- the normal text spells the version

-- a suffix as it is written
abbrev written_suffix : List ℕ → List ℕ → ℕ → Suffix
written_suffix lead word n = record { lead = lead; word = word; gap = []; digits = numeral_text n }

abbrev written_epoch : ℕ → Option (List ℕ)
written_epoch epoch = if epoch == 0 then None else Some (numeral_text epoch)

abbrev written_pre : Option PrePart → Option Suffix
written_pre None = None
written_pre (Some pre) = Some (written_suffix [] (kind_text pre.kind) pre.number)

abbrev written_word : List ℕ → Option ℕ → Option Suffix
written_word word None = None
written_word word (Some n) = Some (written_suffix (codes ".") word n)

abbrev dotted : List Ident → List LocalPart
dotted [] = []
dotted (ident ∷ idents) = record { sign = dot; text = ident_text ident } ∷ dotted idents

abbrev written_locals : List Ident → List LocalPart
written_locals [] = []
written_locals (ident ∷ idents) = record { sign = plus; text = ident_text ident } ∷ dotted idents

-- the parts of the normal text
abbrev pub written_parts : Fields → Parts
written_parts v = record {
  before = [];
  v = [];
  epoch = written_epoch v.epoch;
  release = map numeral_text v.release;
  pre = written_pre v.pre;
  post = written_word (codes "post") v.post;
  dev = written_word (codes "dev") v.dev;
  locals = written_locals v.local;
  behind = [];
}

-- ---- they are the normal text

join_dotted : (x : List ℕ) (idents : List Ident) → join_with_byte dot (x ∷ map ident_text idents) ≡ x ++ flat_map local_text (dotted idents)
join_dotted x [] = sym (append-nil x)
join_dotted x (ident ∷ idents) = ap (λ (t : List ℕ). x ++ dot ∷ t) (join_dotted (ident_text ident) idents)

locals_are : (idents : List Ident) → locals_text idents ≡ flat_map local_text (written_locals idents)
locals_are [] = refl
locals_are (ident ∷ idents) = ap (λ (t : List ℕ). plus ∷ t) (join_dotted (ident_text ident) idents)

pre_is : (pre : Option PrePart) → pre_text pre ≡ option_text (written_pre pre)
pre_is None = refl
pre_is (Some pre) = refl

post_is : (post : Option ℕ) → word_text (codes ".post") post ≡ option_text (written_word (codes "post") post)
post_is None = refl
post_is (Some n) = refl

dev_is : (dev : Option ℕ) → word_text (codes ".dev") dev ≡ option_text (written_word (codes "dev") dev)
dev_is None = refl
dev_is (Some n) = refl

epoch_is : (epoch : ℕ) (rest : List ℕ) → epoch_text epoch ++ rest ≡ in_front bang (written_epoch epoch) rest
epoch_is epoch rest = elim (cases_Bool (epoch == 0)) [
  | inl none ↦ rw none refl
  | inr some ↦ rw some (append_assoc (numeral_text epoch) (bang ∷ []) rest)
]

normal_core : (v : Fields) → normal v ≡ core (written_parts v)
normal_core v =
    rw (pre_is v.pre, post_is v.post, dev_is v.dev, locals_are v.local) (epoch_is v.epoch (release_text v.release ++ suffixes (written_parts v)))

normal_whole : (v : Fields) → normal v ≡ whole (written_parts v)
normal_whole v = normal_core v ∙ sym (append-nil (core (written_parts v)))

-- ---- they have their form

numeral_digits : (n : ℕ) → list_all is_ascii_digit (numeral_text n) ≡ true
numeral_digits n = (and_parts (nat_lt 0 (length (numeral_text n))) (list_all is_ascii_digit (numeral_text n)) (numeral_text_is n)).1

epoch_form : (epoch : ℕ) → is_epoch (written_epoch epoch) ≡ true
epoch_form epoch = elim (cases_Bool (epoch == 0)) [
  | inl none ↦ rw none refl
  | inr some ↦ rw some (numeral_text_is epoch)
]

release_form : (release : List ℕ) → list_all is_numeral (map numeral_text release) ≡ true
release_form [] = refl
release_form (n ∷ release) = and_from _ _ (numeral_text_is n) (release_form release)

kind_form : (kind : PreKind) (n : ℕ) → is_pre (Some (written_suffix [] (kind_text kind) n)) ≡ true
kind_form A n = rw (numeral_digits n) refl
kind_form B n = rw (numeral_digits n) refl
kind_form Rc n = rw (numeral_digits n) refl

pre_form : (pre : Option PrePart) → is_pre (written_pre pre) ≡ true
pre_form None = refl
pre_form (Some pre) = kind_form pre.kind pre.number

post_form : (post : Option ℕ) → is_post (written_word (codes "post") post) ≡ true
post_form None = refl
post_form (Some n) = rw (numeral_digits n) refl

dev_form : (dev : Option ℕ) → is_dev (written_word (codes "dev") dev) ≡ true
dev_form None = refl
dev_form (Some n) = rw (numeral_digits n) refl

follow_form : (pre : Option Suffix) (post : Option ℕ) → may_follow pre (written_word (codes "post") post) ≡ true
follow_form pre None = refl
follow_form pre (Some n) = refl

digit_local : (b : ℕ) → is_ascii_digit b ≡ true → is_ascii_alphanumeric b ≡ true
digit_local b is = grind (arith, nat_tests)

word_local : (b : ℕ) → is_word_byte b ≡ true → is_ascii_alphanumeric b ≡ true
word_local b is = grind (arith, nat_tests)

all_local : (test : ℕ → Bool) → ((b : ℕ) → test b ≡ true → is_ascii_alphanumeric b ≡ true) → (text : List ℕ) → list_all test text ≡ true → list_all is_ascii_alphanumeric text ≡ true
all_local test passes [] all = refl
all_local test passes (b ∷ text) all = let a = and_parts (test b) (list_all test text) all in and_from _ _ (passes b a.0) (all_local test passes text a.1)

ident_form : (ident : Ident) → is_local ident ≡ true → is_local_text (ident_text ident) ≡ true
ident_form (Number n) is = and_from _ _ (and_parts (nat_lt 0 (length (numeral_text n))) (list_all is_ascii_digit (numeral_text n)) (numeral_text_is n)).0 (all_local is_ascii_digit digit_local (numeral_text n) (numeral_digits n))
ident_form (Word w) is =
    let a = and_parts (nat_lt 0 (length w) && list_all is_word_byte w) (not (is_numeral w)) is in
    let b = and_parts (nat_lt 0 (length w)) (list_all is_word_byte w) a.0 in
    and_from _ _ b.0 (all_local is_word_byte word_local w b.1)

dotted_form : (idents : List Ident) → list_all is_local idents ≡ true → list_all is_later_local (dotted idents) ≡ true
dotted_form [] all = refl
dotted_form (ident ∷ idents) all = let a = and_parts (is_local ident) (list_all is_local idents) all in and_from _ _ (ident_form ident a.0) (dotted_form idents a.1)

locals_form : (idents : List Ident) → list_all is_local idents ≡ true → are_locals (written_locals idents) ≡ true
locals_form [] all = refl
locals_form (ident ∷ idents) all = let a = and_parts (is_local ident) (list_all is_local idents) all in and_from _ _ (ident_form ident a.0) (dotted_form idents a.1)

written_form : (v : Fields) → IsVersion v → AreVersionParts (written_parts v)
written_form v is = record {
  before = refl;
  behind = refl;
  v = refl;
  epoch = epoch_form v.epoch;
  release = rw (length-map v.release numeral_text) is.release;
  numerals = release_form v.release;
  pre = pre_form v.pre;
  post = post_form v.post;
  dev = dev_form v.dev;
  follows = follow_form (written_pre v.pre) v.post;
  locals = locals_form v.local is.local;
}

-- ---- they stand for the version

epoch_again : (epoch : ℕ) → epoch_value (written_epoch epoch) ≡ epoch
epoch_again epoch = elim (cases_Bool (epoch == 0)) [
  | inl none ↦ rw none (sym (eqb-true epoch 0 none))
  | inr some ↦ rw some (value-numeral_text epoch)
]

release_again : (release : List ℕ) → map value (map numeral_text release) ≡ release
release_again [] = refl
release_again (n ∷ release) = rw (value-numeral_text n, release_again release) refl

kind_again : (kind : PreKind) (n : ℕ) → pre_value (Some (written_suffix [] (kind_text kind) n)) ≡ Some (record { kind = kind; number = n })
kind_again A n = rw (value-numeral_text n) refl
kind_again B n = rw (value-numeral_text n) refl
kind_again Rc n = rw (value-numeral_text n) refl

pre_again : (pre : Option PrePart) → pre_value (written_pre pre) ≡ pre
pre_again None = refl
pre_again (Some pre) = kind_again pre.kind pre.number

word_again : (word : List ℕ) (number : Option ℕ) → suffix_value (written_word word number) ≡ number
word_again word None = refl
word_again word (Some n) = rw (value-numeral_text n) refl

byte_stays : (b : ℕ) → is_word_byte b ≡ true → to_ascii_lowercase b ≡ b
byte_stays b is = grind (arith, nat_tests)

word_stays : (w : List ℕ) → list_all is_word_byte w ≡ true → lowered w ≡ w
word_stays [] all = refl
word_stays (b ∷ w) all = let a = and_parts (is_word_byte b) (list_all is_word_byte w) all in rw (byte_stays b a.0, word_stays w a.1) refl

ident_again : (ident : Ident) → is_local ident ≡ true → local_of (ident_text ident) ≡ ident
ident_again (Number n) is = rw (numeral_text_is n, value-numeral_text n) refl
ident_again (Word w) is =
    let a = and_parts (nat_lt 0 (length w) && list_all is_word_byte w) (not (is_numeral w)) is in
    let b = and_parts (nat_lt 0 (length w)) (list_all is_word_byte w) a.0 in
    rw (not-true (is_numeral w) a.1, word_stays w b.1) refl

dotted_again : (idents : List Ident) → list_all is_local idents ≡ true → map (λ part. local_of part.text) (dotted idents) ≡ idents
dotted_again [] all = refl
dotted_again (ident ∷ idents) all = let a = and_parts (is_local ident) (list_all is_local idents) all in rw (ident_again ident a.0, dotted_again idents a.1) refl

locals_again : (idents : List Ident) → list_all is_local idents ≡ true → map (λ part. local_of part.text) (written_locals idents) ≡ idents
locals_again [] all = refl
locals_again (ident ∷ idents) all = let a = and_parts (is_local ident) (list_all is_local idents) all in rw (ident_again ident a.0, dotted_again idents a.1) refl

pub normal_is : (v : Fields) → IsVersion v → Spells (normal v) v
normal_is v is = record {
  parts = written_parts v;
  joined = normal_whole v;
  form = written_form v is;
  values = rw (epoch_again v.epoch, release_again v.release, pre_again v.pre, word_again (codes "post") v.post, word_again (codes "dev") v.dev, locals_again v.local is.local) refl;
}

some_text : (text : List ℕ) → begins is_ascii_digit text ≡ true → text ≢ []
some_text [] is e = cc is
some_text (b ∷ text) is e = cc e

pub normal_spells : (v : Fields) → IsVersion v → NormalSpells order_of IsWithin Spells normal v
normal_spells v is = record {
  not_empty = some_text (normal v) (ap (begins is_ascii_digit) (normal_core v) ∙ core_digit (written_parts v) (written_form v is));
  version = v;
  spelled = normal_is v is;
  order_equal = tied_itself order_total v;
  same_text = refl;
  within = λ w. w;
}

pub pypi_texts : TextLaws order_of IsVersion IsWithin Spells normal
pypi_texts = record {
  version_spelled = λ v is. record { text = normal v; spelled = normal_is v is };
  spelled_version = spelled_version;
  spells_one = one_reading;
  normal_spells = normal_spells;
}
