-- No text has two readings: where a text is cut is known from the bytes that its parts lack.
use Rattle.std.proofs.Common.{◌≡◌, ◌≢◌, ◌&&◌, not, ℕ, List, [], ◌∷◌, ◌++◌, true, false, refl, sym, ◌∙◌, Some}
use Rattle.std.specs.List.{list_all}
use Rattle.std.specs.Char.{is_ascii_digit}
use Rattle.std.proofs.lemmas.Bool.{and_from, and_parts}
use Rattle.vx_spec.specs.Marks.{Lacks}
use Rattle.vx_spec.specs.Numerals.{is_numeral}
use Rattle.vx_spec.proofs.MarkLaws.{one_cut}
use Rattle.vx_spec.proofs.EndLaws.{lacks_append}
use Rattle.vx_spec.specs.Signs.{dot, hyphen, plus}
use Rattle.vx_order.specs.Identifiers.{is_identifier}
use Rattle.vx_order.specs.Laws.Dotted.{dot_not_hyphen, dot_not_plus, made_lacks, one_apart}
use Rattle.npm_scheme.specs.Version.{Fields}
use Rattle.npm_scheme.specs.Spelling.{Parts, AreVersionParts, Spells, version_of, core, whole, has_leading_zero, is_plain_numeral, is_pre_identifier}

pub numeral_lacks : (c : ℕ) (text : List ℕ) → is_ascii_digit c ≡ false → is_plain_numeral text ≡ true → Lacks c text
numeral_lacks c text fails is = made_lacks is_ascii_digit c fails text (and_parts _ _ is).0

-- pre-release identifiers are identifiers
pub pre_identifiers : (xs : List (List ℕ)) → list_all is_pre_identifier xs ≡ true → list_all is_identifier xs ≡ true
pre_identifiers [] all = refl
pre_identifiers (x ∷ xs) all =
    let a = and_parts (is_pre_identifier x) (list_all is_pre_identifier xs) all in
    and_from (is_identifier x) (list_all is_identifier xs) (and_parts (is_identifier x) (not (is_numeral x && has_leading_zero x)) a.0).0 (pre_identifiers xs a.1)

core_lacks : (c : ℕ) (p : Parts) → is_ascii_digit c ≡ false → dot ≢ c → AreVersionParts p → Lacks c (core p.major p.minor p.patch)
core_lacks c p fails other form =
    lacks_append c p.major _ (numeral_lacks c p.major fails form.major)
    (other, lacks_append c p.minor _ (numeral_lacks c p.minor fails form.minor) (other, numeral_lacks c p.patch fails form.patch))

pub core_lacks_hyphen : (p : Parts) → AreVersionParts p → Lacks hyphen (core p.major p.minor p.patch)
core_lacks_hyphen p form = core_lacks hyphen p refl dot_not_hyphen form

pub core_lacks_plus : (p : Parts) → AreVersionParts p → Lacks plus (core p.major p.minor p.patch)
core_lacks_plus p form = core_lacks plus p refl dot_not_plus form

one_core : (a b c x y z : List ℕ) → is_plain_numeral a ≡ true → is_plain_numeral b ≡ true → is_plain_numeral x ≡ true → is_plain_numeral y ≡ true
    → core a b c ≡ core x y z → (a ≡ x) × (b ≡ y) × (c ≡ z)
one_core a b c x y z a_is b_is x_is y_is e =
    let first = one_cut dot a x (Some (b ++ dot ∷ c)) (Some (y ++ dot ∷ z)) (numeral_lacks dot a refl a_is) (numeral_lacks dot x refl x_is) e in
    let second = one_cut dot b y (Some c) (Some z) (numeral_lacks dot b refl b_is) (numeral_lacks dot y refl y_is) (cc (first.1)) in
    (first.0, second.0, cc (second.1))

-- one text has one list of parts
pub one_parts : (p q : Parts) → AreVersionParts p → AreVersionParts q → whole p ≡ whole q
    → (p.major ≡ q.major) × (p.minor ≡ q.minor) × (p.patch ≡ q.patch) × (p.pre ≡ q.pre) × (p.build ≡ q.build)
one_parts p q form form' e =
    let apart = one_apart (core p.major p.minor p.patch) (core q.major q.minor q.patch) p.pre q.pre p.build q.build e
    (core_lacks_plus p form) (core_lacks_hyphen p form) (pre_identifiers p.pre form.pre) form.build
    (core_lacks_plus q form') (core_lacks_hyphen q form') (pre_identifiers q.pre form'.pre) form'.build in
    let numbers = one_core p.major p.minor p.patch q.major q.minor q.patch form.major form.minor form'.major form'.minor apart.0 in
    (numbers.0, numbers.1, numbers.2, apart.1, apart.2)

-- and so one version
pub one_version : (p q : Parts) → AreVersionParts p → AreVersionParts q → whole p ≡ whole q → version_of p ≡ version_of q
one_version p q form form' e = let n = one_parts p q form form' e in cc (n.0, n.1, n.2, n.3, n.4)

pub one_reading : (text : List ℕ) (v w : Fields) → Spells text v → Spells text w → v ≡ w
one_reading text v w a b = a.values ∙ one_version a.parts b.parts a.form b.form (sym a.joined ∙ b.joined) ∙ sym b.values
