-- How a version compares with a public one: by the epochs and the releases, then by the letters behind them.
use Rattle.std.proofs.Common.{◌≡◌, ◌<◌, ◌&&◌, not, ℕ, Bool, true, false, List, [], ◌∷◌, map, Option, Ordering, Less, Equal, Greater, refl, sym, ap, ◌∙◌, inl, inr, arith}
use Rattle.std.specs.Cmp.{nat_cmp_is}
use Rattle.std.specs.Ordering.{is_eq, is_ge, is_gt, is_le, is_lt, nat_cmp, ordering_then}
use Rattle.std.proofs.lemmas.Bool.{cases_order}
use Rattle.vx_spec.specs.Rows.{rows_cmp}
use Rattle.vx_scheme.specs.declared.ident.Ident.{Ident}
use Rattle.vx_scheme.specs.declared.ident.Ident.TheVariants.{Number, Word}
use Rattle.vx_order.specs.declared.letter.Letter.{Letter}
use Rattle.vx_order.specs.Letters.{letters_cmp}
use Rattle.pep440_scheme.specs.declared.version.PrePart.{PrePart}
use Rattle.pep440_scheme.specs.Version.{Fields, IsPublic, public_of}
use Rattle.pep440_scheme.specs.Order.{dev_letter, end_rank, local_letter, number_letter, order_of, order_total, post_letter, pre_letter}
use Rattle.pep440_scheme.specs.Next.{succ_of}
use Rattle.pep440_scheme.proofs.OrderLaws.{release_rows}
use Rattle.pep440_scheme.proofs.NextLaws.{from_succ, succ_above}

-- ---- one answer, then another

pub then_apart : (a b c : Ordering) → ordering_then a (ordering_then b c) ≡ ordering_then (ordering_then a b) c
then_apart Less b c = refl
then_apart Equal b c = refl
then_apart Greater b c = refl

pub then_not_below : (a b : Ordering) → is_lt a ≡ false → is_lt b ≡ false → is_lt (ordering_then a b) ≡ false
then_not_below Less b first rest = first
then_not_below Equal b first rest = rest
then_not_below Greater b first rest = refl

-- what is not below counts for nothing
pub lt_front : (a b : Ordering) → is_lt b ≡ false → is_lt (ordering_then a b) ≡ is_lt a
lt_front Less b rest = refl
lt_front Equal b rest = rest
lt_front Greater b rest = refl

pub lt_alike : (a b c : Ordering) → is_lt b ≡ is_lt c → is_lt (ordering_then a b) ≡ is_lt (ordering_then a c)
lt_alike Less b c e = refl
lt_alike Equal b c e = e
lt_alike Greater b c e = refl

pub lt_more : (a b c : Ordering) → (is_lt b ≡ true → is_lt c ≡ true) → is_lt (ordering_then a b) ≡ true → is_lt (ordering_then a c) ≡ true
lt_more Less b c more lt = refl
lt_more Equal b c more lt = more lt
lt_more Greater b c more lt = lt

pub lt_first : (a b : Ordering) → is_lt a ≡ true → is_lt (ordering_then a b) ≡ true
lt_first Less b lt = refl
lt_first Equal b lt = cc lt
lt_first Greater b lt = cc lt

pub not_below : (o : Ordering) → is_ge o ≡ not (is_lt o)
not_below Less = refl
not_below Equal = refl
not_below Greater = refl

pub not_up_to : (o : Ordering) → not (is_le o) ≡ is_gt o
not_up_to Less = refl
not_up_to Equal = refl
not_up_to Greater = refl

-- ---- numbers

pub below : (m n : ℕ) → m < n → nat_cmp m n ≡ Less
below m n lt = sym (nat_cmp_is m n Less lt)

pub same : (m n : ℕ) → m ≡ n → nat_cmp m n ≡ Equal
same m n e = sym (nat_cmp_is m n Equal e)

pub above : (m n : ℕ) → n < m → nat_cmp m n ≡ Greater
above m n gt = sym (nat_cmp_is m n Greater gt)

pub from_zero : (m : ℕ) → is_lt (nat_cmp m 0) ≡ false
from_zero m = elim (cases_order m 0) [
  | inl e ↦ rw (same m 0 e) refl
  | inr (inl lt) ↦ absurd (omega (arith, lt))
  | inr (inr gt) ↦ rw (above m 0 gt) refl
]

-- ---- the parts of a key

-- how letters compare, each a list of its own
abbrev pub alone : Letter → Letter → Ordering
alone a b = letters_cmp end_rank (a ∷ []) (b ∷ [])

-- letters of one rank compare as their numbers
pub of_number_is : (r : Ordering) → ordering_then (ordering_then r Equal) Equal ≡ r
of_number_is Less = refl
of_number_is Equal = refl
of_number_is Greater = refl

-- a label against none
pub label_cmp : List Ident → Ordering
label_cmp idents = ordering_then (letters_cmp end_rank (map local_letter idents) []) Equal

pub no_label : label_cmp [] ≡ Equal
unfolding label_cmp
no_label = refl

pub label_not_below : (idents : List Ident) → is_lt (label_cmp idents) ≡ false
unfolding label_cmp
label_not_below [] = refl
label_not_below (Number n ∷ idents) = refl
label_not_below (Word w ∷ idents) = refl

-- the epoch, then the release
pub numbers_cmp : ℕ → List ℕ → ℕ → List ℕ → Ordering
numbers_cmp epoch release epoch' release' = ordering_then (nat_cmp epoch epoch') (rows_cmp nat_cmp 0 release release')

pub numbers_are : (epoch : ℕ) (release : List ℕ) (epoch' : ℕ) (release' : List ℕ)
    → numbers_cmp epoch release epoch' release' ≡ ordering_then (nat_cmp epoch epoch') (rows_cmp nat_cmp 0 release release')
unfolding numbers_cmp
numbers_are epoch release epoch' release' = refl

-- the letters behind the release, and the label
abbrev pub behind_cmp : Fields → Option PrePart → Option ℕ → Option ℕ → Ordering
behind_cmp w pre post dev =
    ordering_then (alone (pre_letter w.pre w.post w.dev) (pre_letter pre post dev))
    (ordering_then (alone (post_letter w.post) (post_letter post))
    (ordering_then (alone (dev_letter w.dev) (dev_letter dev)) (label_cmp w.local)))

-- the public version of these fields
abbrev pub public_version : ℕ → List ℕ → Option PrePart → Option ℕ → Option ℕ → Fields
public_version epoch release pre post dev = record { epoch = epoch; release = release; pre = pre; post = post; dev = dev; local = [] }

pub order_apart : (w : Fields) (epoch : ℕ) (release : List ℕ) (pre : Option PrePart) (post dev : Option ℕ)
    → order_of w (public_version epoch release pre post dev)
    ≡ ordering_then (numbers_cmp w.epoch w.release epoch release) (behind_cmp w pre post dev)
unfolding numbers_cmp label_cmp
order_apart w epoch release pre post dev =
    let rest = behind_cmp w pre post dev in
    let letters = letters_cmp end_rank (map number_letter w.release) (map number_letter release) in
    ap (λ (o : Ordering). ordering_then o (ordering_then letters rest)) (of_number_is (nat_cmp w.epoch epoch))
    ∙ ap (λ (o : Ordering). ordering_then (nat_cmp w.epoch epoch) (ordering_then o rest)) (sym (release_rows w.release release))
    ∙ then_apart (nat_cmp w.epoch epoch) (rows_cmp nat_cmp 0 w.release release) rest

-- ---- a version against a public one

pub public_itself : (v : Fields) → IsPublic v → public_of v ≡ v
public_itself v is = rw is refl

-- the label counts for nothing
pub public_lt : (w : Fields) (epoch : ℕ) (release : List ℕ) (pre : Option PrePart) (post dev : Option ℕ)
    → is_lt (order_of w (public_version epoch release pre post dev))
    ≡ is_lt (order_of (public_of w) (public_version epoch release pre post dev))
public_lt w epoch release pre post dev =
    let dev_parts = alone (dev_letter w.dev) (dev_letter dev) in
    let post_parts = alone (post_letter w.post) (post_letter post) in
    let pre_parts = alone (pre_letter w.pre w.post w.dev) (pre_letter pre post dev) in
    let labels : is_lt (label_cmp w.local) ≡ is_lt (label_cmp []) = label_not_below w.local ∙ sym (label_not_below []) in
    let devs = lt_alike dev_parts (label_cmp w.local) (label_cmp []) labels in
    let posts = lt_alike post_parts (ordering_then dev_parts (label_cmp w.local)) (ordering_then dev_parts (label_cmp [])) devs in
    let pres = lt_alike pre_parts (ordering_then post_parts (ordering_then dev_parts (label_cmp w.local)))
    (ordering_then post_parts (ordering_then dev_parts (label_cmp []))) posts in
    ap is_lt (order_apart w epoch release pre post dev)
    ∙ lt_alike (numbers_cmp w.epoch w.release epoch release) (behind_cmp w pre post dev) (behind_cmp (public_of w) pre post dev) pres
    ∙ ap is_lt (sym (order_apart (public_of w) epoch release pre post dev))

pub public_ge : (w : Fields) (epoch : ℕ) (release : List ℕ) (pre : Option PrePart) (post dev : Option ℕ)
    → is_ge (order_of w (public_version epoch release pre post dev))
    ≡ is_ge (order_of (public_of w) (public_version epoch release pre post dev))
public_ge w epoch release pre post dev =
    not_below (order_of w (public_version epoch release pre post dev))
    ∙ ap not (public_lt w epoch release pre post dev)
    ∙ sym (not_below (order_of (public_of w) (public_version epoch release pre post dev)))

-- below the next public version is what is at most this one, or a local of it
up_to_by : (o u : Ordering) (next : Bool) → (not (is_lt o) && next) ≡ is_eq u → is_lt o ≡ is_lt u → (is_lt o ≡ true → next ≡ true)
    → next ≡ is_le u
up_to_by Less Less next between alike below = below refl
up_to_by Less Equal next between alike below = cc alike
up_to_by Less Greater next between alike below = cc alike
up_to_by Equal Less next between alike below = cc alike
up_to_by Equal Equal next between alike below = between
up_to_by Equal Greater next between alike below = between
up_to_by Greater Less next between alike below = cc alike
up_to_by Greater Equal next between alike below = between
up_to_by Greater Greater next between alike below = between

is_less : (o : Ordering) → is_lt o ≡ true → o ≡ Less
is_less Less e = refl
is_less Equal e = cc e
is_less Greater e = cc e

pub below_succ : (w : Fields) (epoch : ℕ) (release : List ℕ) (pre : Option PrePart) (post dev : Option ℕ)
    → is_lt (order_of w (succ_of (public_version epoch release pre post dev)))
    ≡ is_le (order_of (public_of w) (public_version epoch release pre post dev))
below_succ w epoch release pre post dev =
    let bound : Fields = public_version epoch release pre post dev in
    up_to_by (order_of w bound) (order_of (public_of w) bound) (is_lt (order_of w (succ_of bound))) (from_succ bound w refl)
    (public_lt w epoch release pre post dev)
    (λ lt. ap is_lt (order_total.trans w bound (succ_of bound) (is_less (order_of w bound) lt) (succ_above bound refl)))
