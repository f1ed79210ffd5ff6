-- What the bodies of the way back rest on.
use Rattle.std.proofs.Common.{◌≡◌, ◌≢◌, ◌<◌, ◌≤◌, ◌+◌, ◌-◌, ◌^◌, ◌++◌, ◌&&◌, ◌||◌, not, ℕ, Bool, true, false, List, [], ◌∷◌, get_or, append-nil, length, map, zero, suc, take, Option, Some, None, refl, sym, ap, ◌∙◌, subst, append_assoc, arith}
use Rattle.std.specs.List.{AllByRecursion}
use Rattle.std.specs.Cmp.{nat_cmp_is}
use Rattle.std.specs.Ordering.{is_eq, nat_cmp, ordering_then}
use Rattle.std.specs.declared.cmp.Ordering.{Ordering}
use Rattle.std.specs.declared.cmp.Ordering.TheVariants.{Less, Equal, Greater}
use Rattle.std.proofs.Math.Bool.{and-false, or-false, or-true}
use Rattle.std.proofs.lemmas.Bool.{and_from}
use Rattle.vx_spec.proofs.EachLaws.{each_append}
use Rattle.pep440_scheme.proofs.BumpLaws.{each_front, last_push}
use Rattle.vx_scheme.specs.declared.domain.Domain.{Domain}
use Rattle.vx_scheme.specs.declared.domain.Domain.TheVariants.{All, Releases}
use Rattle.vx_scheme.specs.declared.span.Cut.{Cut}
use Rattle.vx_scheme.specs.declared.span.Span.{Span}
use Rattle.vx_order.specs.Letters.{letters_cmp}
use Rattle.vx_range.specs.Spans.{is_point}
use Rattle.pep440_scheme.specs.Version.{Fields, IsSmall, IsSmallOption, IsWithin}
use Rattle.pep440_scheme.specs.Order.{dev_letter, end_rank, local_letter, number_letter, order_of, post_letter, pre_letter}
use Rattle.pep440_scheme.specs.Next.{IsAtLimit, last_number, raised_by, raised_of, succ_by}
use Rattle.pep440_range.specs.declared.construct.Construct.{Construct}
use Rattle.pep440_range.specs.Back.{all_gaps, constructs_of, construct_text, first_fault, gaps_fault, holds_locals, is_local, is_one_version, last_upper, is_series, is_some_number, lowered_last, range_text, series_before, without_zeros}
use Rattle.pep440_range.specs.Holds.{release_of}
use Rattle.pep440_range.specs.Spans.{end_of, lowest_in}
use Rattle.pep440_range.specs.Steps.BackTexts.{comma, is_any, listed, parts_fault, parts_of}

-- of a public version only the second of the two causes can be
pub public_one : (lower upper : Cut Fields) → is_local lower.version ≡ false → is_one_version All lower upper ≡ holds_locals lower upper
public_one lower upper public = ap (λ b. (is_point order_of lower upper && b) || holds_locals lower upper) public ∙ ap (λ b. b || holds_locals lower upper) (and-false (is_point order_of lower upper))

-- ---- a version within the limit is none with a greater numeral

number_apart : (m n : ℕ) → m < n → (rest : Ordering) → is_eq (ordering_then (ordering_then (ordering_then (nat_cmp m n) Equal) Equal) rest) ≡ false
number_apart m n less rest = rw (sym (nat_cmp_is m n Less less)) refl

-- nothing that compares equal behind makes two equal that are apart before
apart_behind : (first second : Ordering) → is_eq second ≡ false → is_eq (ordering_then first second) ≡ false
apart_behind Less second apart = refl
apart_behind Equal second apart = apart
apart_behind Greater second apart = refl

dev_apart : (dev : Option ℕ) (n : ℕ) → IsSmallOption dev → n ≡ 2 ^ 128 - 1 → (rest : Ordering) → is_eq (ordering_then (letters_cmp end_rank (dev_letter dev ∷ []) (dev_letter (Some (n + 1)) ∷ [])) rest) ≡ false
dev_apart None n small at rest = refl
dev_apart (Some m) n small at rest = number_apart m (n + 1) (omega (arith, small, at)) rest

post_apart : (post : Option ℕ) (n : ℕ) → IsSmallOption post → n ≡ 2 ^ 128 - 1 → (rest : Ordering) → is_eq (ordering_then (letters_cmp end_rank (post_letter post ∷ []) (post_letter (Some (n + 1)) ∷ [])) rest) ≡ false
post_apart None n small at rest = refl
post_apart (Some m) n small at rest = number_apart m (n + 1) (omega (arith, small, at)) rest

next_apart : (w v : Fields) (post dev : Option ℕ) → IsWithin w → IsAtLimit (raised_by post dev) → is_eq (order_of w (succ_by v post dev)) ≡ false
next_apart w v post (Some n) within at =
    let first = letters_cmp end_rank (number_letter w.epoch ∷ []) (number_letter v.epoch ∷ []) in
    let second = letters_cmp end_rank (map number_letter w.release) (map number_letter v.release) in
    let third = letters_cmp end_rank (pre_letter w.pre w.post w.dev ∷ []) (pre_letter v.pre post (Some (n + 1)) ∷ []) in
    let fourth = letters_cmp end_rank (post_letter w.post ∷ []) (post_letter post ∷ []) in
    let fifth = letters_cmp end_rank (dev_letter w.dev ∷ []) (dev_letter (Some (n + 1)) ∷ []) in
    let label = ordering_then (letters_cmp end_rank (map local_letter w.local) []) Equal in
    let devs = ordering_then fifth label in
    let posts = ordering_then fourth devs in
    let pres = ordering_then third posts in
    apart_behind first (ordering_then second pres) (apart_behind second pres (apart_behind third posts (apart_behind fourth devs (dev_apart w.dev n within.dev at label))))
next_apart w v (Some n) None within at =
    let first = letters_cmp end_rank (number_letter w.epoch ∷ []) (number_letter v.epoch ∷ []) in
    let second = letters_cmp end_rank (map number_letter w.release) (map number_letter v.release) in
    let third = letters_cmp end_rank (pre_letter w.pre w.post w.dev ∷ []) (pre_letter v.pre (Some (n + 1)) (Some 0) ∷ []) in
    let fourth = letters_cmp end_rank (post_letter w.post ∷ []) (post_letter (Some (n + 1)) ∷ []) in
    let fifth = letters_cmp end_rank (dev_letter w.dev ∷ []) (dev_letter (Some 0) ∷ []) in
    let label = ordering_then (letters_cmp end_rank (map local_letter w.local) []) Equal in
    let devs = ordering_then fifth label in
    let posts = ordering_then fourth devs in
    let pres = ordering_then third posts in
    apart_behind first (ordering_then second pres) (apart_behind second pres (apart_behind third posts (post_apart w.post n within.post at devs)))
next_apart w v None None within at = absurd at

pub too_large : (lower upper : Cut Fields) → IsAtLimit (raised_of lower.version) → IsWithin upper.version → false ≡ holds_locals lower upper
too_large lower upper at within =
    let apart = next_apart upper.version lower.version lower.version.post lower.version.dev within at in
    sym (ap (λ b. (not lower.after && not upper.after) && (not (is_local lower.version) && b)) apart
    ∙ ap (λ b. (not lower.after && not upper.after) && b) (and-false (not (is_local lower.version)))
    ∙ and-false (not lower.after && not upper.after))

-- ---- the last number, lowered

pub lowered_push : (front : List ℕ) (n : ℕ) → lowered_last (front ++ n ∷ []) ≡ front ++ (n - 1) ∷ []
lowered_push [] n = refl
lowered_push (m ∷ []) n = refl
lowered_push (m ∷ k ∷ front) n = ap (λ (numbers : List ℕ). m ∷ numbers) (lowered_push (k ∷ front) n)

pub each_take : {X : Type 0} (P : X → Type 0) (n : ℕ) (xs : List X) → AllByRecursion P xs → AllByRecursion P (take n xs)
each_take P zero xs all = tt
each_take P (suc n) [] all = tt
each_take P (suc n) (x ∷ xs) all = (all.0, each_take P n xs all.1)

-- ---- gaps

-- less than two spans have no gap
pub short_fault : (domain : Domain) (spans : List (Span Fields)) → length spans < 2 → gaps_fault domain spans ≡ None
short_fault domain [] size = refl
short_fault domain (x ∷ []) size = refl
short_fault domain (x ∷ y ∷ spans) size = absurd (omega (arith, size))

pub short_gaps : (domain : Domain) (spans : List (Span Fields)) → length spans < 2 → all_gaps domain spans ≡ []
short_gaps domain [] size = refl
short_gaps domain (x ∷ []) size = refl
short_gaps domain (x ∷ y ∷ spans) size = absurd (omega (arith, size))

-- ---- texts of constructs, one behind the other

pub listed_append : (some : Bool) (xs ys : List Construct) → listed some (xs ++ ys) ≡ listed some xs ++ listed (some || is_any xs) ys
listed_append some [] ys = ap (λ b. listed b ys) (sym (or-false some))
listed_append some (x ∷ xs) ys =
    ap (λ (t : List ℕ). comma some ++ (construct_text x ++ t)) (listed_append true xs ys)
    ∙ ap (λ (t : List ℕ). comma some ++ t) (sym (append_assoc (construct_text x) (listed true xs) (listed true ys)))
    ∙ sym (append_assoc (comma some) (construct_text x ++ listed true xs) (listed true ys))
    ∙ ap (λ b. (comma some ++ (construct_text x ++ listed true xs)) ++ listed b ys) (sym (or-true some))

behind_first : (x : Construct) (xs : List Construct) → range_text (x ∷ xs) ≡ construct_text x ++ listed true xs
behind_first x [] = sym (append-nil (construct_text x))
behind_first x (y ∷ xs) = ap (λ (t : List ℕ). construct_text x ++ 44 ∷ t) (behind_first y xs)

pub range_is : (xs : List Construct) → range_text xs ≡ listed false xs
range_is [] = refl
range_is (x ∷ xs) = behind_first x xs

-- ---- the parts of all spans

last_at : (span last : Span Fields) (spans : List (Span Fields)) → last ≡ get_or (span ∷ spans) (length spans) last → last_upper span spans ≡ last.upper
last_at span last [] is = ap (λ s. s.upper) (sym is)
last_at span last (next ∷ spans) is = last_at next last spans is

one_less : (n : ℕ) → suc (suc n) - 1 ≡ suc n
one_less n = omega arith

pub several_parts : (domain : Domain) (first last : Span Fields) (spans : List (Span Fields)) → first ≡ get_or spans 0 first → last ≡ get_or spans (length spans - 1) last → 2 ≤ length spans
    → constructs_of domain spans ≡ parts_of domain first.lower last.upper spans
several_parts domain first last [] is ends size = absurd (omega (arith, size))
several_parts domain first last (x ∷ []) is ends size = absurd (omega (arith, size))
several_parts domain first last (x ∷ y ∷ spans) is ends size =
    let upper = last_at y last spans (ends ∙ ap (λ i. get_or (x ∷ y ∷ spans) i last) (one_less (length spans))) in
    ap (λ (s : Span Fields). parts_of domain s.lower (last_upper y spans) (x ∷ y ∷ spans)) (sym is)
    ∙ ap (λ u. parts_of domain first.lower u (x ∷ y ∷ spans)) upper

pub several_fault : (domain : Domain) (first last : Span Fields) (spans : List (Span Fields)) → first ≡ get_or spans 0 first → last ≡ get_or spans (length spans - 1) last → 2 ≤ length spans
    → first_fault domain spans ≡ parts_fault domain first.lower last.upper spans
several_fault domain first last [] is ends size = absurd (omega (arith, size))
several_fault domain first last (x ∷ []) is ends size = absurd (omega (arith, size))
several_fault domain first last (x ∷ y ∷ spans) is ends size =
    let upper = last_at y last spans (ends ∙ ap (λ i. get_or (x ∷ y ∷ spans) i last) (one_less (length spans))) in
    ap (λ (s : Span Fields). parts_fault domain s.lower (last_upper y spans) (x ∷ y ∷ spans)) (sym is)
    ∙ ap (λ u. parts_fault domain first.lower u (x ∷ y ∷ spans)) upper

-- ---- the release before a version

push_some : (front : List ℕ) (n : ℕ) → front ++ n ∷ [] ≢ []
push_some [] n e = cc e
push_some (m ∷ front) n e = cc e

each_last : {X : Type 0} (P : X → Type 0) (xs : List X) (x : X) → AllByRecursion P (xs ++ x ∷ []) → P x
each_last P [] x all = all.0
each_last P (y ∷ xs) x all = each_last P xs x all.1

-- the numbers are put together again, the last one lowered
pub lowered_says : (numbers front lowered : List ℕ) (last less : ℕ) → numbers ≡ front ++ last ∷ [] → less ≡ last - 1 → lowered ≡ front ++ less ∷ [] → AllByRecursion IsSmall numbers
    → ((numbers ≢ []) × (lowered ≡ lowered_last numbers)) × (AllByRecursion IsSmall lowered × ¬ (IsAtLimit (last_number lowered)))
lowered_says numbers front lowered last less whole down is small =
    let each = subst (AllByRecursion IsSmall) whole small in
    let top : IsSmall last = each_last IsSmall front last each in
    let below : IsSmall less = omega (arith, top, down) in
    let same : lowered ≡ lowered_last numbers = is ∙ ap (λ (n : ℕ). front ++ n ∷ []) down ∙ sym (ap lowered_last whole ∙ lowered_push front last) in (
      (λ none. push_some front last (sym whole ∙ none), same),
      (
        subst (AllByRecursion IsSmall) (sym is) (each_append IsSmall front (less ∷ []) (each_front IsSmall front (last ∷ []) each) (below, tt)),
        λ limit.
            let end : less ≡ 2 ^ 128 - 1 = subst IsAtLimit (ap last_number is ∙ last_push front less) limit in
            omega (arith, end, down, top),
      ),
    )

pub series_not_start : (domain : Domain) (lower upper : Cut Fields) → is_eq (order_of lower.version (lowest_in domain (series_before upper.version))) ≡ false → is_series domain lower upper ≡ false
series_not_start domain lower upper apart =
    let ends = is_eq (order_of upper.version (end_of domain (series_before upper.version))) in
    let some = is_some_number (without_zeros upper.version.release) in
    ap (λ b. (not lower.after && not upper.after) && (some && (b && ends))) apart
    ∙ ap (λ b. (not lower.after && not upper.after) && b) (and-false some) ∙ and-false (not lower.after && not upper.after)

pub series_not_end : (domain : Domain) (lower upper : Cut Fields) → is_eq (order_of upper.version (end_of domain (series_before upper.version))) ≡ false → is_series domain lower upper ≡ false
series_not_end domain lower upper apart =
    let starts = is_eq (order_of lower.version (lowest_in domain (series_before upper.version))) in
    let some = is_some_number (without_zeros upper.version.release) in
    ap (λ b. (not lower.after && not upper.after) && (some && (starts && b))) apart
    ∙ ap (λ b. (not lower.after && not upper.after) && (some && b)) (and-false starts)
    ∙ ap (λ b. (not lower.after && not upper.after) && b) (and-false some) ∙ and-false (not lower.after && not upper.after)

some_number : (numbers : List ℕ) → numbers ≢ [] → is_some_number numbers ≡ true
some_number [] some = absurd (some refl)
some_number (n ∷ numbers) some = refl

pub series_is : (domain : Domain) (lower upper : Cut Fields) → lower.after ≡ false → upper.after ≡ false → without_zeros upper.version.release ≢ []
    → is_eq (order_of lower.version (lowest_in domain (series_before upper.version))) ≡ true
    → is_eq (order_of upper.version (end_of domain (series_before upper.version))) ≡ true → is_series domain lower upper ≡ true
series_is domain lower upper before also some starts ends =
    and_from (not lower.after && not upper.after) _ (and_from (not lower.after) (not upper.after) (ap not before) (ap not also))
    (and_from (is_some_number (without_zeros upper.version.release)) _ (some_number (without_zeros upper.version.release) some)
    (and_from (is_eq (order_of lower.version (lowest_in domain (series_before upper.version)))) (is_eq (order_of upper.version (end_of domain (series_before upper.version)))) starts ends))

-- the lowest version of the domain without its dev
pub series_again : (domain : Domain) (v : Fields) → release_of (lowest_in domain (series_before v)).epoch (lowest_in domain (series_before v)).release ≡ series_before v
series_again All v = refl
series_again Releases v = refl

take_past : (xs : List ℕ) (n : ℕ) → length xs ≤ n → take n xs ≡ xs
take_past [] zero size = refl
take_past [] (suc n) size = refl
take_past (x ∷ xs) zero size = absurd (omega (arith, size))
take_past (x ∷ xs) (suc n) size = ap (λ (t : List ℕ). x ∷ t) (take_past xs n (omega (arith, size)))

-- all numbers are taken
pub all_taken : (numbers lowered : List ℕ) (n : ℕ) → lowered ≡ take n numbers → length numbers ≤ n → lowered ≡ numbers
all_taken numbers lowered n is size = is ∙ take_past numbers n size
