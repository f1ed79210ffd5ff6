-- No text has two readings: where a text is cut is known from the bytes that its parts lack.
use Rattle.std.proofs.Common.{◌≡◌, ◌≢◌, ℕ, List, [], ◌∷◌, true, false, nat_lt, length, refl, sym, ap, ◌∙◌}
use Rattle.std.specs.List.{AllByRecursion, join_with_byte, list_all}
use Rattle.std.specs.Char.{is_ascii_digit}
use Rattle.vx_spec.specs.Marks.{Lacks}
use Rattle.vx_spec.specs.Numerals.{is_numeral}
use Rattle.vx_text.proofs.Joins.{join_lacks, split_join}
use Rattle.vx_spec.specs.Signs.{dot, hyphen, plus}
use Rattle.vx_order.specs.Dotted.{dotted}
use Rattle.vx_order.specs.Laws.Dotted.{all_made_lack, dot_not_hyphen, dot_not_plus, one_apart}
use Rattle.nuget_scheme.specs.Version.{Fields}
use Rattle.nuget_scheme.specs.Spelling.{Parts, AreVersionParts, Spells, version_of, whole}

-- numerals lack what is no digit
pub numerals_lack : (c : ℕ) → is_ascii_digit c ≡ false → (xs : List (List ℕ)) → list_all is_numeral xs ≡ true → AllByRecursion (Lacks c) xs
numerals_lack = all_made_lack is_ascii_digit

-- cutting the numbers undoes joining them
pub dotted_joined : (xs : List (List ℕ)) → nat_lt 0 (length xs) ≡ true → AllByRecursion (Lacks dot) xs → dotted (join_with_byte dot xs) ≡ xs
dotted_joined [] some h = absurd (cc some)
dotted_joined (x ∷ xs) some h = split_join dot x xs h

-- the numbers joined
abbrev pub core : Parts → List ℕ
core p = join_with_byte dot p.numbers

core_lacks : (c : ℕ) (p : Parts) → is_ascii_digit c ≡ false → dot ≢ c → AreVersionParts p → Lacks c (core p)
core_lacks c p fails other form = join_lacks dot c p.numbers other (numerals_lack c fails p.numbers form.numerals)

pub core_lacks_hyphen : (p : Parts) → AreVersionParts p → Lacks hyphen (core p)
core_lacks_hyphen p form = core_lacks hyphen p refl dot_not_hyphen form

pub core_lacks_plus : (p : Parts) → AreVersionParts p → Lacks plus (core p)
core_lacks_plus p form = core_lacks plus p refl dot_not_plus form

-- one text has one list of parts
pub one_parts : (p q : Parts) → AreVersionParts p → AreVersionParts q → whole p ≡ whole q → (p.numbers ≡ q.numbers) × (p.labels ≡ q.labels) × (p.build ≡ q.build)
one_parts p q form form' e =
    let apart = one_apart (core p) (core q) p.labels q.labels p.build q.build e
    (core_lacks_plus p form) (core_lacks_hyphen p form) form.labels form.build
    (core_lacks_plus q form') (core_lacks_hyphen q form') form'.labels form'.build in
    let numbers : p.numbers ≡ q.numbers =
    sym (dotted_joined p.numbers form.some (numerals_lack dot refl p.numbers form.numerals)) ∙ ap dotted apart.0
    ∙ dotted_joined q.numbers form'.some (numerals_lack dot refl q.numbers form'.numerals) in
    (numbers, apart.1, apart.2)

-- and so one version
pub one_version : (p q : Parts) → AreVersionParts p → AreVersionParts q → whole p ≡ whole q → version_of p ≡ version_of q
one_version p q form form' e = let n = one_parts p q form form' e in rw (n.0, n.1) refl

pub one_reading : (text : List ℕ) (v w : Fields) → Spells text v → Spells text w → v ≡ w
one_reading text v w a b = a.values ∙ one_version a.parts b.parts a.form b.form (sym a.joined ∙ b.joined) ∙ sym b.values
