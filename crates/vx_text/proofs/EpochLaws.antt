-- A text is made of parts that have their forms in one way: those that it is cut into.
use Rattle.std.proofs.Common.{◌≡◌, ◌≢◌, ◌<◌, ◌^◌, ℕ, Bool, List, [], ◌∷◌, ◌++◌, true, false, Option, Some, None, refl, sym, ap, ◌∙◌, subst, arith}
use Rattle.std.specs.Char.{is_ascii_digit}
use Rattle.std.specs.List.{AllByRecursion}
use Rattle.vx_spec.specs.Marks.{Lacks, first_part, in_front, last_part, marked}
use Rattle.vx_spec.specs.Numerals.{is_numeral}
use Rattle.vx_spec.specs.Runs.{begins}
use Rattle.vx_spec.proofs.EndLaws.{lacks_by, lacks_append, one_first_cut, one_last_cut}
use Rattle.vx_spec.proofs.TextLaws.{each_append, each_by_test}
use Rattle.vx_text.specs.Past.{NonePast}
use Rattle.vx_spec.specs.Signs.{colon, hyphen}
use Rattle.vx_text.specs.EpochParts.{Parts, HaveForms, IsApart, IsMadeOf, whole, epoch_value, is_epoch, is_optional}
use Rattle.vx_text.proofs.PastLaws.{no_digit, none_behind, none_digits, none_front, none_join, numeral_bytes, numeral_within}

-- ---- an epoch

-- an epoch lacks what is no digit
pub epoch_lacks : (mark : ℕ) → is_ascii_digit mark ≡ false → (part : List ℕ) → is_numeral part ≡ true → Lacks mark part
epoch_lacks mark fails part is = lacks_by is_ascii_digit mark fails part (numeral_bytes part is)

first_lacks : (epoch : Option (List ℕ)) (rest : List ℕ) → is_epoch epoch ≡ true → Lacks colon rest → Lacks colon (first_part epoch rest)
first_lacks None rest is lacks = lacks
first_lacks (Some part) rest is lacks = epoch_lacks colon refl part is

-- what holds of each byte of a text with an epoch
pub epoch_each : (P : ℕ → Type 0) → ((b : ℕ) → is_ascii_digit b ≡ true → P b) → P colon → (epoch : Option (List ℕ)) (rest : List ℕ)
    → is_epoch epoch ≡ true → AllByRecursion P rest → AllByRecursion P (in_front colon epoch rest)
epoch_each P digit mark None rest is all = all
epoch_each P digit mark (Some part) rest is all = each_append P part (colon ∷ rest) (each_by_test P is_ascii_digit part digit (numeral_bytes part is)) (mark, all)

-- a text with an epoch has a numeral past the limit in its epoch or behind it
pub epoch_within : (epoch : Option (List ℕ)) (rest : List ℕ) → is_epoch epoch ≡ true → NonePast (in_front colon epoch rest) → (epoch_value epoch < 2 ^ 128) × NonePast rest
epoch_within None rest is none = (omega arith, none)
epoch_within (Some part) rest is none =
    (numeral_within part is (none_front part (colon ∷ rest) refl none), (none_behind part (colon ∷ rest) none).1)

pub none_epoch : (epoch : Option (List ℕ)) (rest : List ℕ) → is_epoch epoch ≡ true → epoch_value epoch < 2 ^ 128 → NonePast rest → NonePast (in_front colon epoch rest)
none_epoch None rest is small none = none
none_epoch (Some part) rest is small none =
    none_join part (colon ∷ rest) refl (none_digits part (numeral_bytes part is) small) (no_digit colon rest refl, none)

-- ---- a last part

-- the last part and its mark begin with no digit
pub last_begins : (last : Option (List ℕ)) → begins is_ascii_digit (marked hyphen last) ≡ false
last_begins None = refl
last_begins (Some part) = refl

-- the parts of a text with no numeral past the limit
pub whole_within : (p : Parts) → is_epoch p.epoch ≡ true → NonePast (whole p) → (epoch_value p.epoch < 2 ^ 128) × NonePast p.main × NonePast (marked hyphen p.last)
whole_within p is none =
    let rest = epoch_within p.epoch (p.main ++ marked hyphen p.last) is none in
    (rest.0, none_front p.main (marked hyphen p.last) (last_begins p.last) rest.1, none_behind p.main (marked hyphen p.last) rest.1)

pub none_whole : (p : Parts) → is_epoch p.epoch ≡ true → epoch_value p.epoch < 2 ^ 128 → NonePast p.main → NonePast (marked hyphen p.last) → NonePast (whole p)
none_whole p is small main last =
    none_epoch p.epoch (p.main ++ marked hyphen p.last) is small (none_join p.main (marked hyphen p.last) (last_begins p.last) main last)

-- what holds of each byte of the parts and of their marks
pub whole_each : (P : ℕ → Type 0) → ((b : ℕ) → is_ascii_digit b ≡ true → P b) → P colon → (p : Parts) → is_epoch p.epoch ≡ true
    → AllByRecursion P p.main → AllByRecursion P (marked hyphen p.last) → AllByRecursion P (whole p)
whole_each P digit mark p is main last = epoch_each P digit mark p.epoch (p.main ++ marked hyphen p.last) is (each_append P p.main (marked hyphen p.last) main last)

-- what holds of each byte of a last part and of its mark
pub last_each : (P : ℕ → Type 0) (last_form : List ℕ → Bool) → ((part : List ℕ) → last_form part ≡ true → AllByRecursion P part) → P hyphen
    → (last : Option (List ℕ)) → is_optional last_form last ≡ true → AllByRecursion P (marked hyphen last)
last_each P last_form each mark None is = tt
last_each P last_form each mark (Some part) is = (mark, each part is)

-- a text whose main part is not empty is not
pub whole_some : (p : Parts) → p.main ≢ [] → whole p ≢ []
whole_some p some e = not_blank p.epoch p.main (marked hyphen p.last) some e
  where
    not_blank : (epoch : Option (List ℕ)) (main rest : List ℕ) → main ≢ [] → in_front colon epoch (main ++ rest) ≢ []
    not_blank None [] rest some e = some refl
    not_blank None (b ∷ main) rest some e = cc e
    not_blank (Some []) main rest some e = cc e
    not_blank (Some (b ∷ part)) main rest some e = cc e

-- ---- cut apart

-- the parts that a text is cut into make it up
pub apart_joined : {text : List ℕ} {p : Parts} → IsApart text p → text ≡ whole p
apart_joined {text} {p} a = a.first.joined ∙ ap (in_front colon p.epoch) a.last.joined

-- a text is cut apart in one way
pub one_apart : {text : List ℕ} {p q : Parts} → IsApart text p → IsApart text q → p ≡ q
one_apart {text} {p} {q} a b =
    let front = one_first_cut colon p.epoch q.epoch a.rest b.rest a.first.first b.first.first (sym a.first.joined ∙ b.first.joined) in
    let back = one_last_cut hyphen p.main q.main p.last q.last a.last.last b.last.last (sym a.last.joined ∙ front.1 ∙ b.last.joined) in
    λ i. record { epoch = front.0 i; main = back.0 i; last = back.1 i }

-- without a mark the front holds none
last_none : (mark : ℕ) (front : List ℕ) (behind : Option (List ℕ)) → Lacks mark (last_part front behind) → behind ≡ None → Lacks mark front
last_none mark front None lacks e = lacks
last_none mark front (Some part) lacks e = cc e

marks_differ : ◌≢◌ {A = ℕ} hyphen colon
marks_differ e = omega (arith, e)

module _ (main_form last_form : List ℕ → Bool) (main_lacks : (part : List ℕ) → main_form part ≡ true → Lacks colon part) (last_lacks : (part : List ℕ) → last_form part ≡ true → Lacks colon part × Lacks hyphen part) where
  marked_lacks : (last : Option (List ℕ)) → is_optional last_form last ≡ true → Lacks colon (marked hyphen last)
  marked_lacks None is = tt
  marked_lacks (Some part) is = (marks_differ, (last_lacks part is).0)

  behind_lacks : (main : List ℕ) (last : Option (List ℕ)) → is_optional last_form last ≡ true → (last ≡ None → Lacks hyphen main) → Lacks hyphen (last_part main last)
  behind_lacks main None is alone = alone refl
  behind_lacks main (Some part) is alone = (last_lacks part is).1

  -- parts that have their forms are those that their text is cut into
  formed_apart : (p : Parts) → HaveForms main_form last_form p → IsApart (whole p) p
  formed_apart p forms = record {
    rest = p.main ++ marked hyphen p.last;
    first = record { joined = refl; first = first_lacks p.epoch _ forms.epoch (lacks_append colon p.main (marked hyphen p.last) (main_lacks p.main forms.main) (marked_lacks p.last forms.last)) };
    last = record { joined = refl; last = behind_lacks p.main p.last forms.last forms.alone };
  }

  made_apart : {text : List ℕ} {p : Parts} → IsMadeOf main_form last_form text p → IsApart text p
  made_apart {text} {p} made = subst (λ t. IsApart t p) (sym made.joined) (formed_apart p made.forms)

  -- a text is made of parts in one way
  pub one_made : {text : List ℕ} {p q : Parts} → IsMadeOf main_form last_form text p → IsMadeOf main_form last_form text q → p ≡ q
  one_made {text} {p} {q} made other = one_apart (made_apart made) (made_apart other)

  -- the parts that a text is cut into have their forms where their bytes do
  pub cut_made : {text : List ℕ} {p : Parts} → IsApart text p → (is_epoch p.epoch ≡ true) × (main_form p.main ≡ true) × (is_optional last_form p.last ≡ true) → IsMadeOf main_form last_form text p
  cut_made {text} {p} a tests = record {
    joined = apart_joined a;
    forms = record { epoch = tests.0; main = tests.1; last = tests.2; alone = last_none hyphen p.main p.last a.last.last };
  }

  -- and no other parts of the text have them
  pub made_tests : {text : List ℕ} {p q : Parts} → IsApart text p → IsMadeOf main_form last_form text q → (is_epoch p.epoch ≡ true) × (main_form p.main ≡ true) × (is_optional last_form p.last ≡ true)
  made_tests {text} {p} {q} a made =
      let forms = subst (HaveForms main_form last_form) (one_apart (made_apart made) a) made.forms in
      (forms.epoch, forms.main, forms.last)
