-- The next public version: nothing but the locals of a version lies below it.
use Rattle.std.proofs.Common.{◌≡◌, ◌≢◌, ◌<◌, ◌+◌, ◌&&◌, ◌↔◌, not, ℕ, Bool, true, false, List, [], ◌∷◌, map, Option, Some, None, Ordering, Less, Equal, Greater, refl, sym, ap, ◌∙◌, subst, inl, inr, arith}
use Rattle.std.specs.Cmp.{nat_cmp_is, tied_itself}
use Rattle.std.specs.Ordering.{is_eq, is_lt, nat_cmp, ordering_reverse, ordering_then}
use Rattle.std.proofs.lemmas.Bool.{and_from, and_parts, cases_order}
use Rattle.vx_scheme.specs.declared.ident.Ident.{Ident}
use Rattle.vx_scheme.specs.declared.ident.Ident.TheVariants.{Number, Word}
use Rattle.vx_order.specs.Letters.{letters_cmp}
use Rattle.pep440_scheme.specs.declared.version.PrePart.{PrePart}
use Rattle.pep440_scheme.specs.Version.{Fields, IsPublic, IsVersion, public_of}
use Rattle.pep440_scheme.specs.Order.{dev_letter, end_rank, local_letter, number_letter, order_of, order_total, post_letter, pre_letter}
use Rattle.pep440_scheme.specs.Next.{IsFrom, IsLocalOf, succ_by, succ_of}

-- at least one version and below another, by how it compares with them
abbrev from_to : Ordering → Ordering → Bool
from_to low high = not (is_lt low) && is_lt high

-- where the first lists of the keys decide, they decide alike
under : (first low high public : Ordering) → from_to low high ≡ is_eq public → from_to (ordering_then first low) (ordering_then first high) ≡ is_eq (ordering_then first public)
under Less low high public e = refl
under Equal low high public e = e
under Greater low high public e = refl

-- ---- numbers

below : (m n : ℕ) → m < n → nat_cmp m n ≡ Less
below m n lt = sym (nat_cmp_is m n Less lt)

same : (m n : ℕ) → m ≡ n → nat_cmp m n ≡ Equal
same m n e = sym (nat_cmp_is m n Equal e)

above : (m n : ℕ) → n < m → nat_cmp m n ≡ Greater
above m n gt = sym (nat_cmp_is m n Greater gt)

-- how two letters of one rank compare, each a list of its own
abbrev alone : Ordering → Ordering
alone r = ordering_then (ordering_then r Equal) Equal

-- A number before its successor: what stands behind counts against this number's where it is this one, and is not below what
-- stands behind the next one's where it is that.
number_step : (m n : ℕ) (low high public : Ordering) → from_to low Less ≡ is_eq public → is_lt high ≡ false
    → from_to (ordering_then (alone (nat_cmp m n)) low) (ordering_then (alone (nat_cmp m (n + 1))) high) ≡ is_eq (ordering_then (alone (nat_cmp m n)) public)
number_step m n low high public l h = elim (cases_order m n) [
  | inl e ↦ let less : m < n + 1 = omega (arith, e) in rw (same m n e, below m (n + 1) less) l
  | inr (inl lt) ↦ rw (below m n lt) refl
  | inr (inr gt) ↦ rw (above m n gt) (elim (cases_order m (n + 1)) [
    | inl e ↦ rw (same m (n + 1) e) h
    | inr (inl lt) ↦ absurd (omega (arith, gt, lt))
    | inr (inr more) ↦ rw (above m (n + 1) more) refl
  ])
]

-- ---- the ends of the keys: labels, devs and posts

-- a label is not below none
label_cmp : List Ident → Ordering
label_cmp idents = ordering_then (letters_cmp end_rank (map local_letter idents) []) Equal

label_not_below : (idents : List Ident) → is_lt (label_cmp idents) ≡ false
unfolding label_cmp
label_not_below [] = refl
label_not_below (Number n ∷ idents) = refl
label_not_below (Word w ∷ idents) = refl

label_from : (idents : List Ident) → from_to (label_cmp idents) Less ≡ true
label_from idents = rw (label_not_below idents) refl

dev_cmp : Option ℕ → Option ℕ → Ordering
dev_cmp a b = letters_cmp end_rank (dev_letter a ∷ []) (dev_letter b ∷ [])

post_cmp : Option ℕ → Option ℕ → Ordering
post_cmp a b = letters_cmp end_rank (post_letter a ∷ []) (post_letter b ∷ [])

-- `.devN` and `.devN+1`
dev_step : (dev : Option ℕ) (n : ℕ) (idents : List Ident)
    → from_to (ordering_then (dev_cmp dev (Some n)) (label_cmp idents)) (ordering_then (dev_cmp dev (Some (n + 1))) (label_cmp idents)) ≡ is_eq (ordering_then (dev_cmp dev (Some n)) Equal)
unfolding dev_cmp
dev_step None n idents = refl
dev_step (Some m) n idents = number_step m n (label_cmp idents) (label_cmp idents) Equal (label_from idents) (label_not_below idents)

-- no dev
dev_from : (dev : Option ℕ) (idents : List Ident) → from_to (ordering_then (dev_cmp dev None) (label_cmp idents)) Less ≡ is_eq (ordering_then (dev_cmp dev None) Equal)
unfolding dev_cmp
dev_from None idents = label_from idents
dev_from (Some k) idents = refl

-- nothing is below `.dev0`
dev_not_below : (dev : Option ℕ) (idents : List Ident) → is_lt (ordering_then (dev_cmp dev (Some 0)) (label_cmp idents)) ≡ false
unfolding dev_cmp
dev_not_below None idents = refl
dev_not_below (Some k) idents = elim (cases_order k 0) [
  | inl e ↦ rw (same k 0 e) (label_not_below idents)
  | inr (inl lt) ↦ absurd (omega (arith, lt))
  | inr (inr gt) ↦ rw (above k 0 gt) refl
]

-- `.postN` and `.postN+1.dev0`
post_step : (post dev : Option ℕ) (n : ℕ) (idents : List Ident)
    → from_to (ordering_then (post_cmp post (Some n)) (ordering_then (dev_cmp dev None) (label_cmp idents))) (ordering_then (post_cmp post (Some (n + 1))) (ordering_then (dev_cmp dev (Some 0)) (label_cmp idents)))
    ≡ is_eq (ordering_then (post_cmp post (Some n)) (ordering_then (dev_cmp dev None) Equal))
unfolding post_cmp
post_step None dev n idents = refl
post_step (Some m) dev n idents =
    number_step m n (ordering_then (dev_cmp dev None) (label_cmp idents)) (ordering_then (dev_cmp dev (Some 0)) (label_cmp idents)) (ordering_then (dev_cmp dev None) Equal) (dev_from dev idents) (dev_not_below dev idents)

-- no post, and `.post0.dev0`
post_first : (post dev : Option ℕ) (idents : List Ident)
    → from_to (ordering_then (post_cmp post None) (ordering_then (dev_cmp dev None) (label_cmp idents))) (ordering_then (post_cmp post (Some 0)) (ordering_then (dev_cmp dev (Some 0)) (label_cmp idents)))
    ≡ is_eq (ordering_then (post_cmp post None) (ordering_then (dev_cmp dev None) Equal))
unfolding post_cmp
post_first None dev idents = dev_from dev idents
post_first (Some m) dev idents = elim (cases_order m 0) [
  | inl e ↦ rw (same m 0 e) (dev_not_below dev idents)
  | inr (inl lt) ↦ absurd (omega (arith, lt))
  | inr (inr gt) ↦ rw (above m 0 gt) refl
]

-- ---- versions

abbrev public_version : ℕ → List ℕ → Option PrePart → Option ℕ → Option ℕ → Fields
public_version epoch release pre post dev = record { epoch = epoch; release = release; pre = pre; post = post; dev = dev; local = [] }

-- the fronts of two keys
front_cmp : Fields → ℕ → List ℕ → Option PrePart → Option ℕ → Option ℕ → Ordering → Ordering
front_cmp w epoch release pre post dev rest =
    ordering_then (letters_cmp end_rank (number_letter w.epoch ∷ []) (number_letter epoch ∷ []))
    (ordering_then (letters_cmp end_rank (map number_letter w.release) (map number_letter release))
    (ordering_then (letters_cmp end_rank (pre_letter w.pre w.post w.dev ∷ []) (pre_letter pre post dev ∷ [])) rest))

ends_cmp : Fields → Option ℕ → Option ℕ → Ordering
ends_cmp w post dev = ordering_then (post_cmp w.post post) (ordering_then (dev_cmp w.dev dev) (label_cmp w.local))

public_ends : Fields → Option ℕ → Option ℕ → Ordering
public_ends w post dev = ordering_then (post_cmp w.post post) (ordering_then (dev_cmp w.dev dev) Equal)

order_is : (w : Fields) (epoch : ℕ) (release : List ℕ) (pre : Option PrePart) (post dev : Option ℕ) → order_of w (public_version epoch release pre post dev) ≡ front_cmp w epoch release pre post dev (ends_cmp w post dev)
unfolding front_cmp ends_cmp post_cmp dev_cmp label_cmp
order_is w epoch release pre post dev = refl

public_is : (w : Fields) (epoch : ℕ) (release : List ℕ) (pre : Option PrePart) (post dev : Option ℕ) → order_of (public_of w) (public_version epoch release pre post dev) ≡ front_cmp w epoch release pre post dev (public_ends w post dev)
unfolding front_cmp public_ends post_cmp dev_cmp
public_is w epoch release pre post dev = refl

-- versions whose keys begin alike compare by what is behind
behind_front : (w : Fields) (epoch : ℕ) (release : List ℕ) (pre : Option PrePart) (post dev post' dev' : Option ℕ) (low high public : Ordering) → pre_letter pre post' dev' ≡ pre_letter pre post dev → from_to low high ≡ is_eq public
    → from_to (front_cmp w epoch release pre post dev low) (front_cmp w epoch release pre post' dev' high) ≡ is_eq (front_cmp w epoch release pre post dev public)
unfolding front_cmp
behind_front w epoch release pre post dev post' dev' low high public alike e =
    let first = letters_cmp end_rank (number_letter w.epoch ∷ []) (number_letter epoch ∷ []) in
    let second = letters_cmp end_rank (map number_letter w.release) (map number_letter release) in
    let third = letters_cmp end_rank (pre_letter w.pre w.post w.dev ∷ []) (pre_letter pre post dev ∷ []) in
    rw alike
    (under first (ordering_then second (ordering_then third low)) (ordering_then second (ordering_then third high)) (ordering_then second (ordering_then third public))
    (under second (ordering_then third low) (ordering_then third high) (ordering_then third public) (under third low high public e)))

between_by : (w : Fields) (epoch : ℕ) (release : List ℕ) (pre : Option PrePart) (post dev post' dev' : Option ℕ) → pre_letter pre post' dev' ≡ pre_letter pre post dev
    → from_to (ends_cmp w post dev) (ends_cmp w post' dev') ≡ is_eq (public_ends w post dev)
    → from_to (order_of w (public_version epoch release pre post dev)) (order_of w (public_version epoch release pre post' dev')) ≡ is_eq (order_of (public_of w) (public_version epoch release pre post dev))
between_by w epoch release pre post dev post' dev' alike e =
    rw (order_is w epoch release pre post dev, order_is w epoch release pre post' dev', public_is w epoch release pre post dev)
    (behind_front w epoch release pre post dev post' dev' (ends_cmp w post dev) (ends_cmp w post' dev') (public_ends w post dev) alike e)

-- the pre-release ranks alike
same_pre-dev : (pre : Option PrePart) (post : Option ℕ) (n : ℕ) → pre_letter pre post (Some (n + 1)) ≡ pre_letter pre post (Some n)
same_pre-dev (Some pre) post n = refl
same_pre-dev None None n = refl
same_pre-dev None (Some m) n = refl

same_pre-post : (pre : Option PrePart) (n : ℕ) → pre_letter pre (Some (n + 1)) (Some 0) ≡ pre_letter pre (Some n) None
same_pre-post (Some pre) n = refl
same_pre-post None n = refl

same_pre-first : (pre : Option PrePart) → pre_letter pre (Some 0) (Some 0) ≡ pre_letter pre None None
same_pre-first (Some pre) = refl
same_pre-first None = refl

between : (w : Fields) (epoch : ℕ) (release : List ℕ) (pre : Option PrePart) (post dev : Option ℕ)
    → from_to (order_of w (public_version epoch release pre post dev)) (order_of w (succ_of (public_version epoch release pre post dev))) ≡ is_eq (order_of (public_of w) (public_version epoch release pre post dev))
unfolding ends_cmp public_ends
between w epoch release pre post (Some n) =
    between_by w epoch release pre post (Some n) post (Some (n + 1)) (same_pre-dev pre post n)
    (under (post_cmp w.post post) (ordering_then (dev_cmp w.dev (Some n)) (label_cmp w.local)) (ordering_then (dev_cmp w.dev (Some (n + 1))) (label_cmp w.local)) (ordering_then (dev_cmp w.dev (Some n)) Equal) (dev_step w.dev n w.local))
between w epoch release pre (Some n) None = between_by w epoch release pre (Some n) None (Some (n + 1)) (Some 0) (same_pre-post pre n) (post_step w.post w.dev n w.local)
between w epoch release pre None None = between_by w epoch release pre None None (Some 0) (Some 0) (same_pre-first pre) (post_first w.post w.dev w.local)

public_again : (v : Fields) → IsPublic v → public_version v.epoch v.release v.pre v.post v.dev ≡ v
public_again v is = rw is refl

-- a version is at least a public one and below the next one exactly where its public part is order-equal to it
pub from_succ : (v w : Fields) → IsPublic v → (not (is_lt (order_of w v)) && is_lt (order_of w (succ_of v))) ≡ is_eq (order_of (public_of w) v)
from_succ v w is =
    subst (λ (u : Fields). (not (is_lt (order_of w u)) && is_lt (order_of w (succ_of u))) ≡ is_eq (order_of (public_of w) u)) (public_again v is)
    (between w v.epoch v.release v.pre v.post v.dev)

-- ---- the laws

not_less : (r : Ordering) → not (is_lt r) ≡ true → r ≢ Less
not_less Less e is = cc e
not_less Equal e is = cc is
not_less Greater e is = cc is

from_not_less : (r : Ordering) → r ≢ Less → not (is_lt r) ≡ true
from_not_less Less h = absurd (h refl)
from_not_less Equal h = refl
from_not_less Greater h = refl

less : (r : Ordering) → is_lt r ≡ true → r ≡ Less
less Less e = refl
less Equal e = cc e
less Greater e = cc e

equal : (r : Ordering) → is_eq r ≡ true → r ≡ Equal
equal Less e = cc e
equal Equal e = refl
equal Greater e = cc e

pub locals_between : (v w : Fields) → IsPublic v → IsFrom v (succ_of v) w ↔ IsLocalOf v w
locals_between v w is = (there, back)
  where
    there : IsFrom v (succ_of v) w → IsLocalOf v w
    there from = equal (order_of (public_of w) v) (sym (from_succ v w is) ∙ and_from _ _ (from_not_less (order_of w v) from.at_least) (ap is_lt from.below))

    back : IsLocalOf v w → IsFrom v (succ_of v) w
    back local =
        let both = and_parts (not (is_lt (order_of w v))) (is_lt (order_of w (succ_of v))) (from_succ v w is ∙ ap is_eq local) in
        record { at_least = not_less (order_of w v) both.0; below = less (order_of w (succ_of v)) both.1 }

public_itself : (v : Fields) → IsPublic v → public_of v ≡ v
public_itself v is = rw is refl

pub succ_above : (v : Fields) → IsPublic v → order_of v (succ_of v) ≡ Less
succ_above v is = ((locals_between v v is).1 (ap (λ (u : Fields). order_of u v) (public_itself v is) ∙ tied_itself order_total v)).below

pub succ_lowest : (v w : Fields) → IsPublic v → IsPublic w → order_of v w ≡ Less → order_of w (succ_of v) ≢ Less
succ_lowest v w is also less' under' =
    let more : order_of w v ≡ Greater = order_total.antisymm w v ∙ ap ordering_reverse less' in
    let from : IsFrom v (succ_of v) w = record { at_least = λ e. cc (e, more); below = under' } in
    let tied : order_of w v ≡ Equal = ap (λ (u : Fields). order_of u v) (sym (public_itself w also)) ∙ (locals_between v w is).0 from in
    cc (tied, more)

pub succ_version : (v : Fields) → IsVersion v → IsVersion (succ_of v)
succ_version v is = by v.post v.dev
  where
    by : (post dev : Option ℕ) → IsVersion (succ_by v post dev)
    by post (Some n) = record { release = is.release; local = refl }
    by (Some n) None = record { release = is.release; local = refl }
    by None None = record { release = is.release; local = refl }

pub succ_public : (v : Fields) → IsPublic (succ_of v)
succ_public v = by v.post v.dev
  where
    by : (post dev : Option ℕ) → IsPublic (succ_by v post dev)
    by post (Some n) = refl
    by (Some n) None = refl
    by None None = refl
