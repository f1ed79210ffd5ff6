-- Texts without their blanks, and the head of a text.
use Rattle.std.proofs.Common.{lit<, ◌≡◌, ◌<◌, ◌++◌, eqb, not, ℕ, Bool, true, false, List, [], ◌∷◌, refl, sym, ap, subst, ◌∙◌, inl, inr, arith, Some, None, append-nil, append_assoc}
use Rattle.std.specs.Prelude.{bytes_eq, codes, filter}
use Rattle.std.specs.Char.{to_ascii_lowercase}
use Rattle.std.specs.List.{list_all}
use Rattle.std.proofs.lemmas.Bool.{cases_Bool, and_parts, and_from}
use Rattle.std.proofs.lemmas.Bool.Decides.{nat_tests}
use Rattle.std.proofs.lemmas.List.{map-append}
use Rattle.std.proofs.lemmas.List.Elements.{filter-append}
use Rattle.std.proofs.lemmas.Slice.Eq.{bytes_eq-Decides}
use Rattle.vx_spec.specs.Marks.{IsCut, Lacks}
use Rattle.vx_spec.specs.Runs.{is_solid}
use Rattle.vx_spec.proofs.MarkLaws.{one_cut}
use Rattle.vx_spec.proofs.EndLaws.{lacks_by}
use Rattle.vx_scheme.specs.declared.name.SchemeName.{SchemeName}
use Rattle.vx_scheme.specs.Names.{text_of}
use Rattle.vx_scheme.proofs.NameLaws.{by_test, one_name}
use Rattle.vx_text.specs.Folding.{lowered}
use Rattle.vx_vers.specs.Heads.{HasHead, IsNamed, solid}

-- ---- what a filter keeps

pub filter_all : (test : ℕ → Bool) (text : List ℕ) → list_all test text ≡ true → filter test text ≡ text
filter_all test [] all = refl
filter_all test (b ∷ text) all = let a = and_parts (test b) (list_all test text) all in rw (a.0) (ap (λ (t : List ℕ). b ∷ t) (filter_all test text a.1))

pub all_filter : (test : ℕ → Bool) (text : List ℕ) → list_all test (filter test text) ≡ true
all_filter test [] = refl
all_filter test (b ∷ text) = elim (cases_Bool (test b)) [
  | inl is ↦ rw is (and_from (test b) (list_all test (filter test text)) is (all_filter test text))
  | inr other ↦ rw other (all_filter test text)
]

pub all_behind : (test : ℕ → Bool) (front rest : List ℕ) (b : ℕ) → list_all test (front ++ b ∷ rest) ≡ true → list_all test rest ≡ true
all_behind test [] rest b all = (and_parts (test b) (list_all test rest) all).1
all_behind test (x ∷ front) rest b all = all_behind test front rest b (and_parts (test x) (list_all test (front ++ b ∷ rest)) all).1

filter_lacks : (test : ℕ → Bool) (c : ℕ) (text : List ℕ) → Lacks c text → Lacks c (filter test text)
filter_lacks test c [] lacks = tt
filter_lacks test c (b ∷ text) lacks = elim (cases_Bool (test b)) [
  | inl is ↦ rw is (lacks.0, filter_lacks test c text lacks.1)
  | inr other ↦ rw other (filter_lacks test c text lacks.1)
]

-- ---- letters

pub lowers_no_sign : (b c : ℕ) → c < 65 → to_ascii_lowercase b ≡ c → b ≡ c
lowers_no_sign b c small e = grind (arith, nat_tests)

lowered_lacks : (c : ℕ) → c < 65 → (text : List ℕ) → Lacks c text → Lacks c (lowered text)
lowered_lacks c small [] lacks = tt
lowered_lacks c small (b ∷ text) lacks = (λ e. lacks.0 (lowers_no_sign b c small e), lowered_lacks c small text lacks.1)

sign_stays : (c : ℕ) → c < 65 → to_ascii_lowercase c ≡ c
sign_stays c small = grind (arith, nat_tests)

lacks_lowered : (c : ℕ) → c < 65 → (text : List ℕ) → Lacks c (lowered text) → Lacks c text
lacks_lowered c small [] lacks = tt
lacks_lowered c small (b ∷ text) lacks = (λ e. lacks.0 (ap to_ascii_lowercase e ∙ sign_stays c small), lacks_lowered c small text lacks.1)

-- ---- names

abbrev pub is_not : ℕ → ℕ → Bool
is_not c b = not (eqb b c)

is_not_itself : (c : ℕ) → is_not c c ≡ false
is_not_itself c = grind (arith, nat_tests)

pub lacks_by_test : (c : ℕ) (text : List ℕ) → list_all (is_not c) text ≡ true → Lacks c text
lacks_by_test c text all = lacks_by (is_not c) c (is_not_itself c) text all

-- the head has no '/' in it, no blank and no capital
head_lacks : (name : SchemeName) → Lacks 47 (codes "vers:" ++ text_of name)
head_lacks name = lacks_by_test 47 (codes "vers:" ++ text_of name) (by_test (λ n. list_all (is_not 47) (codes "vers:" ++ text_of n)) refl name)

pub head_solid : (name : SchemeName) → list_all is_solid (codes "vers:" ++ text_of name) ≡ true
head_solid = by_test (λ name. list_all is_solid (codes "vers:" ++ text_of name)) refl

pub head_named : (name : SchemeName) → IsNamed (codes "vers:" ++ text_of name) name
head_named name =
    let head = codes "vers:" ++ text_of name in
    (bytes_eq-Decides (lowered head) head).0 (by_test (λ n. bytes_eq (lowered (codes "vers:" ++ text_of n)) (codes "vers:" ++ text_of n)) refl name)

vers_lacks : Lacks 58 (codes "vers")
vers_lacks = lacks_by_test 58 (codes "vers") refl

front_lacks : (front : List ℕ) (name : SchemeName) → IsNamed front name → Lacks 47 front
front_lacks front name is = lacks_lowered 47 (lit< tt) front (subst (Lacks 47) (sym is) (head_lacks name))

head_stays : (name : SchemeName) → IsNamed (solid (codes "vers:" ++ text_of name)) name
head_stays name = ap lowered (filter_all is_solid (codes "vers:" ++ text_of name) (head_solid name)) ∙ head_named name

pub usual_named : (front : List ℕ) (name : SchemeName) → text_of name ≡ front → IsNamed (solid (codes "vers:" ++ front)) name
usual_named front name e = subst (λ t. IsNamed (solid (codes "vers:" ++ t)) name) e (head_stays name)

pub usual_joined : (text named front rest : List ℕ) → text ≡ codes "vers:" ++ named → named ≡ front ++ 47 ∷ rest → text ≡ (codes "vers:" ++ front) ++ 47 ∷ rest
usual_joined text named front rest e f = e ∙ ap (λ (t : List ℕ). codes "vers:" ++ t) f ∙ sym (append_assoc (codes "vers:") front (47 ∷ rest))

behind_vers : (a b : List ℕ) → codes "vers:" ++ a ≡ codes "vers:" ++ b → a ≡ b
behind_vers a b e = cc e

-- a text has one head
pub one_head : {text behind rest : List ℕ} {a b : SchemeName} → HasHead text a behind → HasHead text b rest → (a ≡ b) × (behind ≡ rest)
one_head {text} {behind} {rest} {a} {b} p q =
    let h = one_cut 47 p.front q.front (Some behind) (Some rest) (front_lacks p.front a p.named) (front_lacks q.front b q.named) (sym p.joined ∙ q.joined) in
    (one_name a b (behind_vers (text_of a) (text_of b) (sym p.named ∙ ap lowered h.0 ∙ q.named)), cc (h.1))

-- ---- what the cut at ':' tells of the name

solid_joined : (text front rest : List ℕ) (c : ℕ) → is_solid c ≡ true → text ≡ front ++ c ∷ rest → solid text ≡ solid front ++ c ∷ solid rest
solid_joined text front rest c is e =
    ap solid e ∙ filter-append is_solid front (c ∷ rest) ∙ ap (λ (t : List ℕ). solid front ++ t) (rw is refl)

pub no_colon : (front : List ℕ) → Lacks 58 front → (name : SchemeName) → ¬ (IsNamed (solid front) name)
no_colon front lacks name is =
    let h : Lacks 58 (codes "vers:" ++ text_of name) = subst (Lacks 58) is (lowered_lacks 58 (lit< tt) (solid front) (filter_lacks is_solid 58 front lacks)) in
    h.1.1.1.1.0 refl

-- the two parts of a named front
pub named_parts : (front word rest : List ℕ) (name : SchemeName) → front ≡ word ++ 58 ∷ rest → Lacks 58 word → IsNamed (solid front) name
    → (lowered (solid word) ≡ codes "vers") × (lowered (solid rest) ≡ text_of name)
named_parts front word rest name e lacks is =
    let joined : lowered (solid front) ≡ lowered (solid word) ++ 58 ∷ lowered (solid rest) =
    ap lowered (solid_joined front word rest 58 refl e) ∙ map-append to_ascii_lowercase (solid word) (58 ∷ solid rest) in
    let h = one_cut 58 (lowered (solid word)) (codes "vers") (Some (lowered (solid rest))) (Some (text_of name))
    (lowered_lacks 58 (lit< tt) (solid word) (filter_lacks is_solid 58 word lacks)) vers_lacks (sym joined ∙ is) in
    (h.0, cc (h.1))

pub named_from : (front word rest : List ℕ) (name : SchemeName) → front ≡ word ++ 58 ∷ rest → lowered (solid word) ≡ codes "vers" → lowered (solid rest) ≡ text_of name → IsNamed (solid front) name
named_from front word rest name e first second =
    ap lowered (solid_joined front word rest 58 refl e) ∙ map-append to_ascii_lowercase (solid word) (58 ∷ solid rest)
    ∙ ap (λ (t : List ℕ). t ++ 58 ∷ lowered (solid rest)) first ∙ ap (λ (t : List ℕ). codes "vers" ++ 58 ∷ t) second

-- ---- what the cut at '/' tells of the head

pub no_slash : (text : List ℕ) → Lacks 47 text → (name : SchemeName) (behind : List ℕ) → ¬ (HasHead (solid text) name behind)
no_slash text lacks name behind p =
    let h = one_cut 47 (solid text) p.front None (Some behind) (filter_lacks is_solid 47 text lacks) (front_lacks p.front name p.named) (append-nil (solid text) ∙ p.joined) in
    cc (h.1)

pub head_front : (text front rest behind : List ℕ) (name : SchemeName) → text ≡ front ++ 47 ∷ rest → Lacks 47 front → HasHead (solid text) name behind → IsNamed (solid front) name
head_front text front rest behind name e lacks p =
    let h = one_cut 47 (solid front) p.front (Some (solid rest)) (Some behind) (filter_lacks is_solid 47 front lacks) (front_lacks p.front name p.named)
    (sym (solid_joined text front rest 47 refl e) ∙ p.joined) in
    ap lowered (h.0) ∙ p.named

pub head_from : (text front rest : List ℕ) (name : SchemeName) → text ≡ front ++ 47 ∷ rest → IsNamed (solid front) name → HasHead (solid text) name (solid rest)
head_from text front rest name e is = record { front = solid front; joined = solid_joined text front rest 47 refl e; named = is }

-- where there is no mark to cut at, the text lacks it
pub uncut : {c : ℕ} {text front : List ℕ} → IsCut c text front None → Lacks c text
uncut {c} {text} {front} cut = subst (Lacks c) (sym (cut.joined ∙ append-nil front)) cut.first
