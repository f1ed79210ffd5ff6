-- What texts spell, and which: exactly the versions.
use Rattle.std.proofs.Common.{◌≡◌, ◌≢◌, ℕ, zero, suc, List, [], ◌∷◌, ◌++◌, length, map, true, nat_lt, refl, sym, arith, append-nil}
use Rattle.std.specs.List.{list_all}
use Rattle.std.specs.Cmp.{tied_itself}
use Rattle.std.proofs.lemmas.Bool.{and_from, lt-ltb, ne_eqb}
use Rattle.vx_spec.specs.Numerals.{is_numeral, numeral_text}
use Rattle.vx_spec.proofs.NumeralLaws.{numeral_text_is, value-numeral_text}
use Rattle.vx_scheme.specs.Scheme.{IsSpelled, NormalSpells, TextLaws}
use Rattle.vx_order.specs.Identifiers.{identifier_text}
use Rattle.vx_order.specs.Laws.Identifiers.{all_again, formed_idents}
use Rattle.nuget_scheme.specs.Version.{Fields, IsVersion, IsWithin}
use Rattle.nuget_scheme.specs.Spelling.{Parts, AreVersionParts, Spells, number_at, version_of}
use Rattle.nuget_scheme.specs.Writing.{fourth_part, normal, numbers}
use Rattle.nuget_scheme.specs.Order.{order_of, order_total}
use Rattle.nuget_scheme.specs.Laws.Unique.{one_reading}

-- parts that have the form give a version
pub formed : (p : Parts) → AreVersionParts p → IsVersion (version_of p)
formed p form = record { labels = formed_idents p.labels form.labels }

-- the parts of the normal text
abbrev normal_parts : Fields → Parts
normal_parts v = record { numbers = map numeral_text (numbers v); labels = map identifier_text v.labels; build = [] }

numeral_texts : (ns : List ℕ) → list_all is_numeral (map numeral_text ns) ≡ true
numeral_texts [] = refl
numeral_texts (n ∷ ns) = and_from _ _ (numeral_text_is n) (numeral_texts ns)

-- there are three numbers or four
normal_few : (major minor patch fourth : ℕ) → nat_lt (length (map numeral_text (major ∷ minor ∷ patch ∷ fourth_part fourth))) 5 ≡ true
normal_few major minor patch zero = refl
normal_few major minor patch (suc n) = rw (ne_eqb (suc n) 0 (omega arith)) refl

normal_form : (v : Fields) → IsVersion v → AreVersionParts (normal_parts v)
normal_form v is = record {
  some = lt-ltb 0 (suc (suc (suc (length (map numeral_text (fourth_part v.fourth)))))) (omega arith);
  few = normal_few v.major v.minor v.patch v.fourth;
  numerals = numeral_texts (numbers v);
  labels = (all_again v.labels is.labels).0;
  build = refl;
}

-- a fourth number that is left out is 0
fourth_again : (major minor patch fourth : ℕ) → number_at 3 (map numeral_text (major ∷ minor ∷ patch ∷ fourth_part fourth)) ≡ fourth
fourth_again major minor patch zero = refl
fourth_again major minor patch (suc n) = rw (ne_eqb (suc n) 0 (omega arith)) (value-numeral_text (suc n))

values_again : (v : Fields) → IsVersion v → v ≡ version_of (normal_parts v)
values_again v is =
    let fourth = fourth_again v.major v.minor v.patch v.fourth in
    let labels = (all_again v.labels is.labels).1 in
    rw (value-numeral_text v.major, value-numeral_text v.minor, value-numeral_text v.patch, fourth, labels) refl

pub normal_is : (v : Fields) → IsVersion v → Spells (normal v) v
normal_is v is = record {
  parts = normal_parts v;
  joined = sym (append-nil (normal v));
  form = normal_form v is;
  values = values_again v is;
}

pub version_spelled : (v : Fields) → IsVersion v → IsSpelled Spells v
version_spelled v is = record { text = normal v; spelled = normal_is v is }

pub spelled_version : (text : List ℕ) (v : Fields) → Spells text v → IsVersion v
spelled_version text v s = rw s.values (formed s.parts s.form)

some_front : (a b : List ℕ) (c : ℕ) (rest : List ℕ) → (a ++ (c ∷ b)) ++ rest ≢ []
some_front [] b c rest e = cc e
some_front (x ∷ a) b c rest e = cc e

pub normal_spells : (v : Fields) → IsVersion v → NormalSpells order_of IsWithin Spells normal v
normal_spells v is = record {
  not_empty = some_front (numeral_text v.major) _ _ _;
  version = v;
  spelled = normal_is v is;
  order_equal = tied_itself order_total v;
  same_text = refl;
  within = λ w. w;
}

pub nuget_texts : TextLaws order_of IsVersion IsWithin Spells normal
nuget_texts = record { version_spelled = version_spelled; spelled_version = spelled_version; spells_one = one_reading; normal_spells = normal_spells }
