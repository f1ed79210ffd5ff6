-- A comparator of a form is the one that the form was made of, and a text has one reading.
use Rattle.std.proofs.Common.{◌≡◌, ◌∙◌, ℕ, List, [], ◌∷◌, map, refl, sym, ap, Option, Some, None, inl, inr}
use Rattle.std.proofs.lemmas.Bool.{cases_Bool}
use Rattle.semver.specs.Grammar.{is_pre_release}
use Rattle.semver.specs.Parse.{Held}
use Rattle.semver.proofs.Numerals.{ok-value}
use Rattle.cargo_range.specs.declared.construct.Construct.{Construct}
use Rattle.cargo_range.specs.declared.construct.Partial.TheVariants.{Full}
use Rattle.cargo_range.specs.Reading.{construct, form_of, with_form, forms_of, Reads}
use Rattle.cargo_range.specs.Holds.{held_of}

some_value : {A : Type 0} (x y : A) → ◌≡◌ {A = Option A} (Some x) (Some y) → x ≡ y
some_value x y e = cc e

no_value : {A : Type 0} (x : A) → ◌≡◌ {A = Option A} None (Some x) → ⊥
no_value x e = cc e

pub form_held : (c : Held) (form : Construct) → form_of c ≡ Some form → c ≡ held_of form
form_held (o, i, Some j, Some k, pre) form e = elim (cases_Bool (is_pre_release pre)) [
  | inl good ↦ ap held_of (some_value (construct o (Full (i, j, k, pre, []))) form (rw good at e))
  | inr bad ↦ absurd (no_value form (rw bad at e))
]
form_held (o, i, Some j, None, []) form e = ap held_of (some_value _ form e)
form_held (o, i, Some j, None, b ∷ pre) form e = absurd (no_value form e)
form_held (o, i, None, Some k, pre) form e = absurd (no_value form e)
form_held (o, i, None, None, []) form e = ap held_of (some_value _ form e)
form_held (o, i, None, None, b ∷ pre) form e = absurd (no_value form e)

forms_step : (c : Held) (held : List Held) (all : List Construct) (one : Option Construct) (more : Option (List Construct))
    → form_of c ≡ one → forms_of held ≡ more
    → ((forms : List Construct) → forms_of held ≡ Some forms → held ≡ map held_of forms) → with_form one more ≡ Some all
    → c ∷ held ≡ map held_of all
forms_step c held all (Some form) (Some forms) p q rest e = cc (form_held c form p, rest forms q, ap (map held_of) (some_value _ all e))
forms_step c held all (Some form) None p q rest e = absurd (no_value all e)
forms_step c held all None more p q rest e = absurd (no_value all e)

-- the comparators are those of their forms
pub forms_held : (held : List Held) (all : List Construct) → forms_of held ≡ Some all → held ≡ map held_of all
forms_held [] all e = ap (map held_of) (some_value [] all e)
forms_held (c ∷ held) all e = forms_step c held all (form_of c) (forms_of held) refl refl (λ forms. forms_held held forms) e

-- a text has one reading
pub one_reading : (text : List ℕ) (a b : List Construct) → Reads text a → Reads text b → a ≡ b
one_reading text a b p q =
    let held : p.held ≡ q.held = ok-value _ _ (sym p.read ∙ q.read) in
    some_value a b (sym p.formed ∙ ap forms_of held ∙ q.formed)
