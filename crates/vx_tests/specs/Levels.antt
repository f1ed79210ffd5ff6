-- The scheme of the tests: two digits, compared by the first.
use Rattle.std.specs.Prelude.{◌≡◌, ◌+◌, ◌<◌, ℕ, List, [], ◌∷◌, ◌++◌, ⊤, refl}
use Rattle.std.proofs.Common.{sym, ap, ◌∙◌, arith}
use Rattle.std.specs.Cmp.{IsTotalOrder, nat_cmp_total, on_total, tied_itself}
use Rattle.std.specs.Ordering.{nat_cmp}
use Rattle.std.specs.declared.cmp.Ordering.{Ordering}
use Rattle.std.proofs.lemmas.Fmt.{decimal_digit}
use Rattle.vx_spec.specs.Numerals.{numeral_text}
use Rattle.vx_spec.proofs.NumeralLaws.{decimal_is}
use Rattle.vx_scheme.specs.Scheme.{TextLaws, NormalSpells}

-- the two digits
pub record Digits : Type 0 where
  pub level : ℕ
  pub tag : ℕ

-- they are digits
pub record IsVersion (v : Digits) : Type 0 where
  pub level_digit : v.level < 10
  pub tag_digit : v.tag < 10

-- the first digit alone counts
abbrev pub order_of : Digits → Digits → Ordering
order_of a b = nat_cmp a.level b.level

pub order_total : IsTotalOrder order_of
order_total = on_total (λ (v : Digits). v.level) nat_cmp_total

-- the text is the two digits
pub record Spells (text : List ℕ) (v : Digits) : Type 0 where
  pub text_is : text ≡ (48 + v.level) ∷ (48 + v.tag) ∷ []
  pub version : IsVersion v

-- the two numerals, one behind the other
abbrev pub normal_of : Digits → List ℕ
normal_of v = numeral_text v.level ++ numeral_text v.tag

abbrev made : ℕ → ℕ → Digits
made level tag = record { level = level; tag = tag }

made_same : (a b x y : ℕ) → a ≡ x → b ≡ y → made a b ≡ made x y
made_same a b x y p q = ap (λ n. made n b) p ∙ ap (λ n. made x n) q

spells_one : (text : List ℕ) (v w : Digits) → Spells text v → Spells text w → v ≡ w
spells_one text v w p q =
    let level : 48 + v.level ≡ 48 + w.level = cc (p.text_is, q.text_is) in
    let tag : 48 + v.tag ≡ 48 + w.tag = cc (p.text_is, q.text_is) in
    made_same v.level v.tag w.level w.tag (omega arith) (omega arith)

one_digit : (n : ℕ) → n < 10 → numeral_text n ≡ (48 + n) ∷ []
one_digit n small = sym (decimal_is n (omega arith)) ∙ decimal_digit n small

two_digits : (v : Digits) → IsVersion v → normal_of v ≡ (48 + v.level) ∷ (48 + v.tag) ∷ []
two_digits v digits = rw (one_digit v.level digits.level_digit, one_digit v.tag digits.tag_digit) refl

normal_spells : (v : Digits) → IsVersion v → NormalSpells order_of (λ _. ⊤) Spells normal_of v
normal_spells v digits = record {
  not_empty = λ e. let none = sym e ∙ two_digits v digits in cc;
  version = v;
  spelled = record { text_is = two_digits v digits; version = digits };
  order_equal = tied_itself order_total v;
  same_text = refl;
  within = λ w. w;
}

pub texts : TextLaws order_of IsVersion (λ _. ⊤) Spells normal_of
texts = record {
  version_spelled = λ v digits. record { text = (48 + v.level) ∷ (48 + v.tag) ∷ []; spelled = record { text_is = refl; version = digits } };
  spelled_version = λ text v spelled. spelled.version;
  spells_one = spells_one;
  normal_spells = normal_spells;
}
