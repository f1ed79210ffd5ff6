-- Versions that their texts spell by their parts: what the texts spell, and when a version is within its limits.
use Rattle.std.proofs.Common.{◌≡◌, ◌≢◌, ◌↔◌, ℕ, Bool, true, List, [], None, refl, sym, ap, ◌∙◌, subst}
use Rattle.std.specs.Cmp.{IsTotalOrder, tied_itself}
use Rattle.std.specs.declared.cmp.Ordering.{Ordering}
use Rattle.vx_spec.specs.Marks.{Lacks}
use Rattle.vx_scheme.specs.Scheme.{TextLaws}
use Rattle.vx_text.specs.Past.{NonePast, first_past}
use Rattle.vx_spec.specs.Signs.{colon, hyphen}
use Rattle.vx_text.specs.EpochParts.{HaveForms, IsMadeOf, Parts, SpellsByParts, whole}
use Rattle.vx_text.proofs.EpochLaws.{one_made, whole_some}
use Rattle.vx_text.proofs.PastLaws.{first_none, none_past}

-- ---- a text and its parts

module _ {V : Type 0} (main_form last_form : List ℕ → Bool) (version_of : List ℕ → Parts → V) where
  -- a text that spells a version is made of its parts
  pub spelled_made : {text : List ℕ} {v : V} → (s : SpellsByParts main_form last_form version_of text v) → IsMadeOf main_form last_form text s.parts
  spelled_made s = record { joined = s.joined; forms = s.form }

  -- and a text that is made of parts spells what they stand for
  pub made_spells : {text : List ℕ} {p : Parts} → IsMadeOf main_form last_form text p → SpellsByParts main_form last_form version_of text (version_of text p)
  made_spells {text} {p} made = record { parts = p; joined = made.joined; form = made.forms; values = refl }

-- ---- what texts spell: exactly the versions, none two of them, and the text as it is written is the normal one

module _ {V : Type 0} (main_form last_form : List ℕ → Bool) (version_of : List ℕ → Parts → V) (main_lacks : (part : List ℕ) → main_form part ≡ true → Lacks colon part) (last_lacks : (part : List ℕ) → last_form part ≡ true → Lacks colon part × Lacks hyphen part) where
  -- no text spells two versions
  pub one_reading : (text : List ℕ) (v w : V) → SpellsByParts main_form last_form version_of text v → SpellsByParts main_form last_form version_of text w → v ≡ w
  one_reading text v w s t =
      let one = one_made main_form last_form main_lacks last_lacks (spelled_made main_form last_form version_of s) (spelled_made main_form last_form version_of t) in
      s.values ∙ ap (version_of text) one ∙ sym t.values

module _ {V : Type 0} (main_form last_form : List ℕ → Bool) (version_of : List ℕ → Parts → V) (main_lacks : (part : List ℕ) → main_form part ≡ true → Lacks colon part) (last_lacks : (part : List ℕ) → last_form part ≡ true → Lacks colon part × Lacks hyphen part) (main_some : (part : List ℕ) → main_form part ≡ true → part ≢ []) (text_of : V → List ℕ) (own : (text : List ℕ) (p : Parts) → text_of (version_of text p) ≡ text) where
  abbrev IsVersion : V → Type 0
  IsVersion v = SpellsByParts main_form last_form version_of (text_of v) v

  not_empty : (v : V) → IsVersion v → text_of v ≢ []
  not_empty v is e = whole_some is.parts (main_some is.parts.main is.form.main) (sym is.joined ∙ e)

  -- a version's text is the text that spells it
  own_text : (text : List ℕ) (v : V) → SpellsByParts main_form last_form version_of text v → text_of v ≡ text
  own_text text v s = ap text_of s.values ∙ own text s.parts

  spelled_version : (text : List ℕ) (v : V) → SpellsByParts main_form last_form version_of text v → IsVersion v
  spelled_version text v s =
      let same = own_text text v s in
      record { parts = s.parts; joined = same ∙ s.joined; form = s.form; values = s.values ∙ ap (λ t. version_of t s.parts) (sym same) }

  pub version_texts : (order : V → V → Ordering) (IsWithin : V → Type 0) → IsTotalOrder order → TextLaws order IsVersion IsWithin (SpellsByParts main_form last_form version_of) text_of
  version_texts order IsWithin total = record {
    version_spelled = λ v is. record { text = text_of v; spelled = is };
    spelled_version = spelled_version;
    spells_one = one_reading main_form last_form version_of main_lacks last_lacks;
    normal_spells = λ v is. record { not_empty = not_empty v is; version = v; spelled = is; order_equal = tied_itself total v; same_text = refl; within = λ w. w };
  }

-- ---- limits: where the parts are within them exactly as far as no numeral of theirs is past, so is the version

module _ {V : Type 0} (main_form last_form : List ℕ → Bool) (version_of : List ℕ → Parts → V) (IsWithin : V → Type 0) (parts_within : (text : List ℕ) (p : Parts) → HaveForms main_form last_form p → NonePast (whole p) → IsWithin (version_of text p)) (parts_none : (text : List ℕ) (p : Parts) → HaveForms main_form last_form p → IsWithin (version_of text p) → NonePast (whole p)) where
  version_within : (text : List ℕ) (v : V) → SpellsByParts main_form last_form version_of text v → NonePast text → IsWithin v
  version_within text v s none = subst IsWithin (sym s.values) (parts_within text s.parts s.form (subst NonePast s.joined none))

  version_none : (text : List ℕ) (v : V) → SpellsByParts main_form last_form version_of text v → IsWithin v → NonePast text
  version_none text v s fits = subst NonePast (sym s.joined) (parts_none text s.parts s.form (subst IsWithin s.values fits))

  -- a version is within the limits exactly where none of its text's numerals is past them
  pub limits_agree : (text : List ℕ) (v : V) (at : ℕ) → SpellsByParts main_form last_form version_of text v → IsWithin v ↔ (first_past at text ≡ None)
  limits_agree text v at s = (λ fits. first_none at text (version_none text v s fits), λ none. version_within text v s (none_past at text none))
