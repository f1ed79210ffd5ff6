-- What texts spell, and which: exactly the versions. The normal text is the text as it is written.
use Rattle.std.proofs.Common.{◌≡◌, ◌≢◌, ℕ, true, List, [], ◌∷◌, refl, sym, ap, ◌∙◌, subst}
use Rattle.std.specs.Cmp.{tied_itself}
use Rattle.vx_scheme.specs.Scheme.{TextLaws}
use Rattle.maven_scheme.specs.Version.{Fields, IsWithin}
use Rattle.maven_scheme.specs.Spelling.{Spells, IsVersion, is_version_text}
use Rattle.maven_scheme.specs.Writing.{normal}
use Rattle.maven_scheme.specs.Order.{order_of, order_total}

not_blank : (text : List ℕ) → is_version_text text ≡ true → text ≢ []
not_blank [] is e = cc is
not_blank (b ∷ text) is e = cc e

-- a version's text is the text that spells it
pub own_text : (text : List ℕ) (v : Fields) → Spells text v → v.text ≡ text
own_text text v s = ap (λ w. w.text) s.values

pub spelled_version : (text : List ℕ) (v : Fields) → Spells text v → IsVersion v
spelled_version text v s = subst (λ t. Spells t v) (sym (own_text text v s)) s

pub maven_texts : TextLaws order_of IsVersion IsWithin Spells normal
maven_texts = record {
  version_spelled = λ v is. record { text = v.text; spelled = is };
  spelled_version = spelled_version;
  spells_one = λ text v w s t. s.values ∙ sym t.values;
  normal_spells = λ v is. record { not_empty = not_blank v.text is.form; version = v; spelled = is; order_equal = tied_itself order_total v; same_text = refl; within = λ w. w };
}
