-- Every comparator that `semver` reads has a form.
use Rattle.std.proofs.Common.{◌≡◌, ◌==◌, ◌<◌, length, arith, ℕ, zero, suc, List, [], ◌∷◌, Ok, Err, Some, None, Bool, true, false, refl, sym, ap, subst, ◌∙◌, inl, inr}
use Rattle.std.specs.Prelude.{Option, Result}
use Rattle.std.specs.List.{list_all}
use Rattle.std.proofs.lemmas.Bool.{cases_Bool, and_parts}
use Rattle.std.proofs.lemmas.Bool.Decides.{nat_tests}
use Rattle.semver.proofs.Grammar.{bind-ok, identifier-ok}
use Rattle.semver.proofs.Segments.{good}
use Rattle.semver.specs.Order.{parts}
use Rattle.semver.proofs.Numerals.{ok-value}
use Rattle.semver.specs.Grammar.{is_pre_identifier, is_pre_release}
use Rattle.semver.specs.Parse.{Held, Minor, Parsed, Patch, build_part, comparator_in, comparator_of, comparator_or, has, identifier_of, minor_of, minor_part, next_text, numeric, op_of, patch_number, patch_of, patch_part, pre_part, req_after, req_from, req_next, req_of, strip_spaces, wild_req, wildcard_of}
use Rattle.semver.specs.declared.Op.{Op}
use Rattle.semver.specs.declared.error.Error.{Error}
use Rattle.semver.specs.declared.error.Position.{Position}
use Rattle.semver.specs.declared.error.Position.TheVariants as place
use Rattle.cargo_range.specs.declared.construct.Partial.TheVariants.{Major as One, Minor as Two, Full}
use Rattle.cargo_range.specs.Reading.{construct}
use Rattle.cargo_range.specs.Steps.Forms.{HasForm, HaveForms}

-- ---- a third number stands behind a second

number_wild : (o : Op) (text : List ℕ) (w : Option (ℕ × List ℕ)) (default : Bool) (p : Patch) → patch_number o true text w default ≡ Ok p → p.1 ≡ None
number_wild o text (Some w) default p h = ap (λ (q : Patch). q.1) (sym (ok-value _ _ h))
number_wild o text None default p h = cc h

patch_wild : (default : Bool) (o : Op) (pos : Position) (text : List ℕ) (p : Patch) → patch_of default o true pos text ≡ Ok p → p.1 ≡ None
patch_wild default o pos [] p h = ap (λ (q : Patch). q.1) (sym (ok-value _ _ h))
patch_wild default o pos (b ∷ rest) p h = elim (cases_Bool (b == 46)) [
  | inl dot ↦ number_wild o rest (wildcard_of rest) default p (rw dot at h)
  | inr other ↦ ap (λ (q : Patch). q.1) (sym (ok-value _ _ (rw other at h)))
]

some_none : (x : ℕ) → ◌≡◌ {A = Option ℕ} (Some x) None → ⊥
some_none x h = cc h

after_wild : (default : Bool) (o : Op) (rest : List ℕ) (w : Option (ℕ × List ℕ)) (m : Minor) (p : Patch)
    → minor_of default o rest w ≡ Ok m → m.1 ≡ None → patch_part default m ≡ Ok p → p.1 ≡ None
after_wild default o rest (Some w) m p hm none hp =
    let is = ok-value _ _ hm in
    patch_wild default m.0 m.3 m.4 p (rw (ap (λ (q : Minor). q.2) (sym is)) at hp)
after_wild default o rest None m p hm none hp =
    let x = bind-ok (numeric place.Minor rest) _ m hm in
    absurd (some_none x.0.0 (ap (λ (q : Minor). q.1) (ok-value _ _ x.2) ∙ none))

patch_none : (default : Bool) (text : List ℕ) (o : Op) (m : Minor) (p : Patch) → minor_part default o text ≡ Ok m → m.1 ≡ None → patch_part default m ≡ Ok p → p.1 ≡ None
patch_none default [] o m p hm none hp =
    let is = ok-value _ _ hm in
    ap (λ (q : Patch). q.1) (sym (ok-value _ _ (rw (sym is) at hp)))
patch_none default (b ∷ rest) o m p hm none hp = elim (cases_Bool (b == 46)) [
  | inl dot ↦ after_wild default o rest (wildcard_of rest) m p (rw dot at hm) none hp
  | inr other ↦
      let is = ok-value _ _ (rw other at hm) in
      let last = rw (sym is, other) at hp in
      ap (λ (q : Patch). q.1) (sym (ok-value _ _ last))
]

-- ---- a pre-release is of the grammar, and stands behind a third number

-- the identifiers that are taken are those of the grammar
is_identifier : (part : List ℕ) → good place.Pre part ≡ is_pre_identifier part
is_identifier [] = refl
is_identifier (b ∷ []) = grind (arith, nat_tests)
is_identifier (b ∷ c ∷ rest) = grind (arith, nat_tests)

all_identifiers : (texts : List (List ℕ)) → list_all (good place.Pre) texts ≡ true → list_all is_pre_identifier texts ≡ true
all_identifiers [] h = refl
all_identifiers (text ∷ texts) h =
    let both = and_parts (good place.Pre text) (list_all (good place.Pre) texts) h in
    rw (sym (is_identifier text) ∙ both.0, all_identifiers texts both.1) refl

taken_good : (pre : List ℕ) → 0 < length pre → list_all (good place.Pre) (parts pre) ≡ true → is_pre_release pre ≡ true
taken_good [] some h = absurd (omega arith)
taken_good (b ∷ pre) some h = all_identifiers (parts (b ∷ pre)) h

-- a pre-release, a place and the rest
abbrev Pre : Type 0
Pre = List ℕ × Position × List ℕ

pre_none : (pos : Position) (text : List ℕ) (e : Pre) → pre_part false pos text ≡ Ok e → e.0 ≡ []
pre_none pos text e h = ap (λ (q : Pre). q.0) (sym (ok-value _ _ h))

pre_good : (pos : Position) (text : List ℕ) (e : Pre) → pre_part true pos text ≡ Ok e → is_pre_release e.0 ≡ true
pre_good pos [] e h = ap (λ (q : Pre). is_pre_release q.0) (sym (ok-value _ _ h))
pre_good pos (b ∷ rest) e h = elim (cases_Bool (b == 45)) [
  | inl minus ↦
      let w = bind-ok (identifier_of place.Pre rest) _ e (rw minus at h) in
      let i = identifier-ok place.Pre rest w.0.0 w.0.1 w.1 in
      ap (λ (q : Pre). is_pre_release q.0) (sym (ok-value _ _ w.2)) ∙ taken_good w.0.0 i.1 i.2
  | inr other ↦ ap (λ (q : Pre). is_pre_release q.0) (sym (ok-value _ _ (rw other at h)))
]

pre_behind : (patch : Option ℕ) (pos : Position) (text : List ℕ) (e : Pre) → pre_part (has patch) pos text ≡ Ok e
    → (patch ≡ None → e.0 ≡ []) × ((k : ℕ) → patch ≡ Some k → is_pre_release e.0 ≡ true)
pre_behind None pos text e h = (λ _. pre_none pos text e h, λ k s. absurd (some_none k (sym s)))
pre_behind (Some k) pos text e h = (λ s. absurd (some_none k s), λ _ _. pre_good pos text e h)

-- ---- a comparator

form_by : (o : Op) (i : ℕ) (minor patch : Option ℕ) (pre : List ℕ) → (patch ≡ None → pre ≡ []) → ((k : ℕ) → patch ≡ Some k → is_pre_release pre ≡ true)
    → (minor ≡ None → patch ≡ None) → HasForm (o, i, minor, patch, pre)
form_by o i (Some j) (Some k) pre none good lost = (construct o (Full (i, j, k, pre, [])), rw (good k refl) refl)
form_by o i (Some j) None [] none good lost = (construct o (Two i j), refl)
form_by o i (Some j) None (b ∷ pre) none good lost = absurd (cc (none refl))
form_by o i None (Some k) pre none good lost = absurd (some_none k (lost refl))
form_by o i None None [] none good lost = (construct o (One i), refl)
form_by o i None None (b ∷ pre) none good lost = absurd (cc (none refl))

comparator_form : (input : List ℕ) (p : Parsed) → comparator_of input ≡ Ok p → HasForm (p.0, p.1, p.2, p.3, p.4)
comparator_form input p h =
    let a = bind-ok (numeric place.Major (strip_spaces (op_of input).1)) _ p h in
    let m = bind-ok (minor_part _ (op_of input).0 a.0.1) _ p a.2 in
    let q = bind-ok (patch_part _ m.0) _ p m.2 in
    let e = bind-ok (pre_part (has q.0.1) q.0.2 q.0.3) _ p q.2 in
    let b = bind-ok (build_part (has q.0.1) e.0.1 e.0.2) _ p e.2 in
    let pre = pre_behind q.0.1 q.0.2 q.0.3 e.0 e.1 in
    let shown : Parsed = (q.0.0, a.0.0, m.0.1, q.0.1, e.0.0, b.0.0, strip_spaces b.0.1) in
    subst (λ (x : Parsed). HasForm (x.0, x.1, x.2, x.3, x.4)) {x = shown} (ok-value shown p b.2)
    (form_by q.0.0 a.0.0 m.0.1 q.0.1 e.0.0 pre.0 pre.1 (λ none. patch_none _ a.0.1 (op_of input).0 m.0 q.0 m.1 none q.1))

-- ---- a requirement

one_more : (c : Held) (held : List Held) → HasForm c → HaveForms held → HaveForms (c ∷ held)
one_more c held one more = (one.0 ∷ more.0, rw (one.1, more.1) refl)

read_alone : (r : Result Parsed Error) (input : List ℕ) (p : Parsed) → comparator_or r input ≡ Ok p → r ≡ Ok p
read_alone (Ok q) input p h = h
read_alone (Err e) input p h = cc h

next_forms : (n : ℕ) (c : Held) (next : Option (List ℕ)) (held : List Held) → req_next (req_from n) c next ≡ Ok held → HasForm c
    → ((text : List ℕ) (rest : List Held) → req_from n text ≡ Ok rest → HaveForms rest) → HaveForms held
next_forms n c None held e one rest = subst HaveForms (ok-value _ _ e) (one_more c [] one ([], refl))
next_forms n c (Some text) held e one rest =
    let w = bind-ok (req_from n text) _ held e in
    subst HaveForms (ok-value _ _ w.2) (one_more c w.0 one (rest text w.0 w.1))

from_forms : (n : ℕ) (text : List ℕ) (held : List Held) → req_from n text ≡ Ok held → HaveForms held
unfolding req_from
from_forms zero text held h = cc h
from_forms (suc n) text held h =
    let p = bind-ok (comparator_in text) _ held h in
    let next = bind-ok (next_text p.0.5 p.0.6) _ held p.2 in
    next_forms n (p.0.0, p.0.1, p.0.2, p.0.3, p.0.4) next.0 held next.2 (comparator_form text p.0 (read_alone (comparator_of text) text p.0 p.1)) (from_forms n)

wild_forms : (sign : ℕ) (text : List ℕ) (held : List Held) → wild_req sign text ≡ Ok held → HaveForms held
wild_forms sign [] held h = subst HaveForms (ok-value _ _ h) ([], refl)
wild_forms sign (b ∷ rest) held h = elim (cases_Bool (b == 44)) [
  | inl comma ↦ cc (rw comma at h)
  | inr other ↦ cc (rw other at h)
]

after_forms : (w : Option (ℕ × List ℕ)) (text : List ℕ) (held : List Held) → req_after w text ≡ Ok held → HaveForms held
after_forms None text held h = from_forms 32 text held h
after_forms (Some w) text held h = wild_forms w.0 (strip_spaces w.1) held h

pub every_form : (text : List ℕ) (held : List Held) → req_of text ≡ Ok held → HaveForms held
every_form text held h = after_forms (wildcard_of (strip_spaces text)) (strip_spaces text) held h
