-- How segments compare with a number larger than all of theirs, and with many words `A`.
use Rattle.std.proofs.Common.{◌≡◌, ◌<◌, ◌≤◌, ◌+◌, ◌-◌, ℕ, zero, suc, cond, true, false, List, [], ◌∷◌, ◌++◌, length, map, take, drop, replicate, codes, Ordering, Less, Equal, Greater, refl, sym, ap, ◌∙◌, subst, arith, nat_lt, append-nil, length-append, length-take, length-drop}
use Rattle.std.specs.Prelude.{⊤}
use Rattle.std.specs.Char.{is_ascii_alphabetic}
use Rattle.std.specs.Cmp.{nat_cmp_is, ranks, tied_itself}
use Rattle.std.specs.Cmp.Lexicographic.{slice_cmp}
use Rattle.std.specs.List.{AllByRecursion, list_all, prefix_len, suffix_len}
use Rattle.std.specs.Ordering.{MatchOrdering, nat_cmp, ordering_then}
use Rattle.std.proofs.Math.Seq.{take-length}
use Rattle.std.proofs.lemmas.Bool.{and_parts}
use Rattle.std.proofs.lemmas.Bool.Decides.{nat_tests}
use Rattle.std.proofs.lemmas.List.{get_or-replicate, length-replicate, reverse-append}
use Rattle.std.proofs.lemmas.List.Sums.{suffix_len_is}
use Rattle.vx_spec.proofs.EachLaws.{each_append}
use Rattle.vx_scheme.specs.declared.ident.Ident.{Ident}
use Rattle.vx_scheme.specs.declared.ident.Ident.TheVariants.{Number, Word}
use Rattle.vx_order.specs.Letters.{end_letter, letter_cmp, letters_cmp}
use Rattle.vx_order.proofs.LetterLaws.{letter_total}
use Rattle.gem_scheme.specs.Version.{but_last, front, is_number, is_segment, last_raised, rest, shortened}
use Rattle.gem_scheme.specs.Order.{canonical, is_zero, number_rank, segment_letter, without_zeros}
use Rattle.relation_ranges.specs.Gem.Apart.{greatest_number}

-- how two lists of segments compare
abbrev pub segments_cmp : List Ident → List Ident → Ordering
segments_cmp xs ys = letters_cmp number_rank (map segment_letter xs) (map segment_letter ys)

-- ---- the first segments

-- how two numbers compare, and behind them the rest
abbrev first_then : Ordering → Ordering → Ordering
first_then first behind = ordering_then (ordering_then first Equal) behind

lower_first : (m n : ℕ) (behind : Ordering) → m < n → first_then (nat_cmp m n) behind ≡ Less
lower_first m n behind less = ap (λ first. first_then first behind) (sym (nat_cmp_is m n Less less))

higher_first : (m n : ℕ) (behind : Ordering) → n < m → first_then (nat_cmp m n) behind ≡ Greater
higher_first m n behind more = ap (λ first. first_then first behind) (sym (nat_cmp_is m n Greater more))

same_first : (x : Ident) (behind answer : Ordering) → behind ≡ answer → ordering_then (letter_cmp (segment_letter x) (segment_letter x)) behind ≡ answer
same_first x behind answer is = ap (λ first. ordering_then first behind) (tied_itself letter_total (segment_letter x)) ∙ is

-- no number is below 0
above_zero : (m : ℕ) (behind : Ordering) → behind ≡ Greater → first_then (nat_cmp m 0) behind ≡ Greater
above_zero m behind is = by (nat_cmp m 0) (ranks m 0)
  where
    by : (first : Ordering) → MatchOrdering first (m < 0) (m ≡ 0) (0 < m) → first_then first behind ≡ Greater
    by Less less = absurd (omega (arith, less))
    by Equal same = is
    by Greater more = refl

-- what is above a number is not below its successor
above_raised : (m q : ℕ) (behind : Ordering) → q < m → behind ≡ Greater → first_then (nat_cmp m (q + 1)) behind ≡ Greater
above_raised m q behind above is = by (nat_cmp m (q + 1)) (ranks m (q + 1))
  where
    by : (first : Ordering) → MatchOrdering first (m < q + 1) (m ≡ q + 1) (q + 1 < m) → first_then first behind ≡ Greater
    by Less less = absurd (omega (arith, less))
    by Equal same = is
    by Greater more = refl

-- a number and its successor, where all is below what stands behind the number and above what stands behind the successor
alike_first : (m q : ℕ) (r s : Ordering) → r ≡ Less → s ≡ Greater → first_then (nat_cmp m q) r ≡ first_then (nat_cmp m (q + 1)) s
alike_first m q r s below above = by (nat_cmp m q) (ranks m q)
  where
    by : (first : Ordering) → MatchOrdering first (m < q) (m ≡ q) (q < m) → first_then first r ≡ first_then (nat_cmp m (q + 1)) s
    by Less less = sym (lower_first m (q + 1) s (omega (arith, less)))
    by Equal same = below ∙ sym (lower_first m (q + 1) s (omega (arith, same)))
    by Greater more = sym (above_raised m q s more above)

-- ---- many words `A`

abbrev pub word_a : Ident
word_a = Word (codes "A")

-- a number is below the limit, and a word has its form
abbrev pub IsSegmentBelow : ℕ → Ident → Type 0
IsSegmentBelow limit (Number n) = n < limit
IsSegmentBelow limit (Word w) = is_segment (Word w) ≡ true

least_letter : (b : ℕ) → is_ascii_alphabetic b ≡ true → 65 ≤ b
least_letter b is = grind (arith, nat_tests)

ended_text : (bytes : List ℕ) (behind : Ordering) → behind ≡ Greater → ordering_then (slice_cmp nat_cmp bytes []) behind ≡ Greater
ended_text [] behind is = is
ended_text (b ∷ bytes) behind is = refl

least_text : (b : ℕ) (bytes : List ℕ) (behind : Ordering) → 65 ≤ b → behind ≡ Greater → ordering_then (ordering_then (nat_cmp b 65) (slice_cmp nat_cmp bytes [])) behind ≡ Greater
least_text b bytes behind least is = by (nat_cmp b 65) (ranks b 65)
  where
    by : (first : Ordering) → MatchOrdering first (b < 65) (b ≡ 65) (65 < b) → ordering_then (ordering_then first (slice_cmp nat_cmp bytes [])) behind ≡ Greater
    by Less less = absurd (omega (arith, less, least))
    by Equal same = ended_text bytes behind is
    by Greater more = refl

-- no word is below `A`
least_word : (w : List ℕ) (behind : Ordering) → is_segment (Word w) ≡ true → behind ≡ Greater → ordering_then (letter_cmp (segment_letter (Word w)) (segment_letter word_a)) behind ≡ Greater
least_word [] behind is above = cc is
least_word (b ∷ bytes) behind is above =
    let letters = (and_parts (nat_lt 0 (length (b ∷ bytes))) (list_all is_ascii_alphabetic (b ∷ bytes)) is).1 in
    least_text b bytes behind (least_letter b (and_parts (is_ascii_alphabetic b) (list_all is_ascii_alphabetic bytes) letters).0) above

-- more words `A` than there are segments are below these
above_words : (limit many : ℕ) (xs : List Ident) → AllByRecursion (IsSegmentBelow limit) xs → length xs < many → segments_cmp xs (replicate many word_a) ≡ Greater
above_words limit zero xs small short = absurd (omega (arith, short))
above_words limit (suc many) [] small short = refl
above_words limit (suc many) (Number n ∷ xs) small short = refl
above_words limit (suc many) (Word w ∷ xs) small short = least_word w (segments_cmp xs (replicate many word_a)) small.0 (above_words limit many xs small.1 (omega (arith, short)))

-- ---- a large number

-- a number past all of theirs is above the segments
below_number : (large : ℕ) (xs : List Ident) → 0 < large → AllByRecursion (IsSegmentBelow large) xs → segments_cmp xs (Number large ∷ []) ≡ Less
below_number large [] some small = lower_first 0 large Equal some
below_number large (Number n ∷ xs) some small = lower_first n large (segments_cmp xs []) small.0
below_number large (Word w ∷ xs) some small = refl

-- Segments compare alike with numbers followed by a larger number than theirs, and with these numbers, the last raised by one,
-- followed by more words `A` than they are.
pub compared_alike : (large many : ℕ) (numbers xs : List Ident) → list_all is_number numbers ≡ true → 0 < length numbers → 0 < large → AllByRecursion (IsSegmentBelow large) xs → length xs < many
    → segments_cmp xs (numbers ++ Number large ∷ []) ≡ segments_cmp xs (last_raised numbers ++ replicate many word_a)
compared_alike large many [] xs all some positive small short = absurd (omega (arith, some))
compared_alike large many (Word w ∷ numbers) xs all some positive small short = cc all
compared_alike large many (Number q ∷ []) [] all some positive small short =
    alike_first 0 q (segments_cmp [] (Number large ∷ [])) (segments_cmp [] (replicate many word_a)) (below_number large [] positive small) (above_words large many [] small short)
compared_alike large many (Number q ∷ []) (Number n ∷ xs) all some positive small short =
    alike_first n q (segments_cmp xs (Number large ∷ [])) (segments_cmp xs (replicate many word_a)) (below_number large xs positive small.1) (above_words large many xs small.1 (omega (arith, short)))
compared_alike large many (Number q ∷ []) (Word w ∷ xs) all some positive small short = refl
compared_alike large many (Number p ∷ next ∷ numbers) [] all some positive small short =
    ap (λ behind. ordering_then (letter_cmp (end_letter number_rank) (segment_letter (Number p))) behind) (compared_alike large many (next ∷ numbers) [] all (omega arith) positive small short)
compared_alike large many (Number p ∷ next ∷ numbers) (x ∷ xs) all some positive small short =
    ap (λ behind. ordering_then (letter_cmp (segment_letter x) (segment_letter (Number p))) behind) (compared_alike large many (next ∷ numbers) xs all (omega arith) positive small.1 (omega (arith, short)))

-- numbers followed by another are below these numbers with the last one raised
pub below_raised : (large : ℕ) (numbers : List Ident) → list_all is_number numbers ≡ true → 0 < length numbers → segments_cmp (numbers ++ Number large ∷ []) (last_raised numbers) ≡ Less
below_raised large [] all some = absurd (omega (arith, some))
below_raised large (Word w ∷ numbers) all some = cc all
below_raised large (Number q ∷ []) all some = lower_first q (q + 1) (segments_cmp (Number large ∷ []) []) (omega arith)
below_raised large (Number p ∷ next ∷ numbers) all some =
    same_first (Number p) (segments_cmp ((next ∷ numbers) ++ Number large ∷ []) (last_raised (next ∷ numbers))) Less (below_raised large (next ∷ numbers) all (omega arith))

-- ---- numbers above those that they shorten

-- nothing, or what begins with a word
abbrev pub IsRest : List Ident → Type 0
IsRest [] = ⊤
IsRest (Number n ∷ segments) = ⊥
IsRest (Word w ∷ segments) = ⊤

above_rest : (large : ℕ) (numbers segments : List Ident) → 0 < large → list_all is_number numbers ≡ true → IsRest segments → segments_cmp (numbers ++ Number large ∷ []) segments ≡ Greater
above_rest large [] [] positive all is = higher_first large 0 Equal positive
above_rest large (Number m ∷ numbers) [] positive all is = above_zero m (segments_cmp (numbers ++ Number large ∷ []) []) (above_rest large numbers [] positive all is)
above_rest large (Word w ∷ numbers) segments positive all is = cc all
above_rest large numbers (Number n ∷ segments) positive all is = absurd is
above_rest large [] (Word v ∷ segments) positive all is = refl
above_rest large (Number m ∷ numbers) (Word v ∷ segments) positive all is = refl

but_last_all : (xs : List Ident) → list_all is_number xs ≡ true → list_all is_number (but_last xs) ≡ true
but_last_all [] all = refl
but_last_all (x ∷ []) all = refl
but_last_all (Number n ∷ y ∷ xs) all = but_last_all (y ∷ xs) all
but_last_all (Word w ∷ y ∷ xs) all = cc all

pub shortened_all : (xs : List Ident) → list_all is_number xs ≡ true → list_all is_number (shortened xs) ≡ true
shortened_all [] all = refl
shortened_all (x ∷ []) all = all
shortened_all (x ∷ y ∷ xs) all = but_last_all (x ∷ y ∷ xs) all

above_taken : (large j : ℕ) (numbers segments : List Ident) → 0 < large → list_all is_number numbers ≡ true → AllByRecursion (IsSegmentBelow large) numbers → IsRest segments
    → segments_cmp (but_last numbers ++ Number large ∷ []) (take j numbers ++ segments) ≡ Greater
above_taken large zero numbers segments positive all small is = above_rest large (but_last numbers) segments positive (but_last_all numbers all) is
above_taken large (suc j) [] segments positive all small is = above_rest large [] segments positive refl is
above_taken large (suc j) (Word w ∷ numbers) segments positive all small is = cc all
above_taken large (suc j) (Number p ∷ []) segments positive all small is = higher_first large p (segments_cmp [] (take j [] ++ segments)) small.0
above_taken large (suc j) (Number p ∷ next ∷ numbers) segments positive all small is =
    same_first (Number p) (segments_cmp (but_last (next ∷ numbers) ++ Number large ∷ []) (take j (next ∷ numbers) ++ segments)) Greater
    (above_taken large j (next ∷ numbers) segments positive all small.1 is)

-- numbers without the last where there are two or more, followed by a number larger than all, are above any of them from the
-- first on, whatever words stand behind
above_shortened : (large j : ℕ) (numbers segments : List Ident) → 0 < large → list_all is_number numbers ≡ true → AllByRecursion (IsSegmentBelow large) numbers → IsRest segments
    → segments_cmp (shortened numbers ++ Number large ∷ []) (take j numbers ++ segments) ≡ Greater
above_shortened large j [] segments positive all small is = above_taken large j [] segments positive all small is
above_shortened large zero (x ∷ []) segments positive all small is = above_rest large (x ∷ []) segments positive all is
above_shortened large (suc j) (x ∷ []) segments positive all small is =
    same_first x (segments_cmp (Number large ∷ []) (take j [] ++ segments)) Greater (above_taken large j [] segments positive refl tt is)
above_shortened large j (x ∷ y ∷ numbers) segments positive all small is = above_taken large j (x ∷ y ∷ numbers) segments positive all small is

-- ---- the front and the rest

front_step : (n : ℕ) (xs : List Ident) → front (Number n ∷ xs) ≡ Number n ∷ front xs
front_step n xs = let step : 1 + prefix_len is_number xs ≡ suc (prefix_len is_number xs) = omega arith in ap (λ k. take k (Number n ∷ xs)) step

rest_step : (n : ℕ) (xs : List Ident) → rest (Number n ∷ xs) ≡ rest xs
rest_step n xs = let step : 1 + prefix_len is_number xs ≡ suc (prefix_len is_number xs) = omega arith in ap (λ k. drop k (Number n ∷ xs)) step

pub front_of : (numbers segments : List Ident) → list_all is_number numbers ≡ true → IsRest segments → front (numbers ++ segments) ≡ numbers
front_of [] [] all is = refl
front_of [] (Number n ∷ segments) all is = absurd is
front_of [] (Word w ∷ segments) all is = refl
front_of (Number n ∷ numbers) segments all is = front_step n (numbers ++ segments) ∙ ap (λ more. Number n ∷ more) (front_of numbers segments all is)
front_of (Word w ∷ numbers) segments all is = cc all

rest_of : (numbers segments : List Ident) → list_all is_number numbers ≡ true → IsRest segments → rest (numbers ++ segments) ≡ segments
rest_of [] [] all is = refl
rest_of [] (Number n ∷ segments) all is = absurd is
rest_of [] (Word w ∷ segments) all is = refl
rest_of (Number n ∷ numbers) segments all is = rest_step n (numbers ++ segments) ∙ rest_of numbers segments all is
rest_of (Word w ∷ numbers) segments all is = cc all

rest_is : (xs : List Ident) → IsRest (rest xs)
rest_is [] = tt
rest_is (Number n ∷ xs) = subst IsRest (sym (rest_step n xs)) (rest_is xs)
rest_is (Word w ∷ xs) = tt

taken_rest : (j : ℕ) (xs : List Ident) → IsRest xs → IsRest (take j xs)
taken_rest zero xs is = tt
taken_rest (suc j) [] is = tt
taken_rest (suc j) (Number n ∷ xs) is = absurd is
taken_rest (suc j) (Word w ∷ xs) is = tt

-- ---- zeros at the end

kept : (xs : List Ident) → suffix_len is_zero xs ≡ 0 → without_zeros xs ≡ xs
kept xs none = let all : length xs - suffix_len is_zero xs ≡ length xs = omega (arith, none) in ap (λ k. take k xs) all ∙ take-length xs

-- no zero at the end, none is dropped
pub last_kept : (xs : List Ident) (x : Ident) → is_zero x ≡ false → without_zeros (xs ++ x ∷ []) ≡ xs ++ x ∷ []
last_kept xs x other = kept (xs ++ x ∷ []) (ap (prefix_len is_zero) (reverse-append xs (x ∷ [])) ∙ ap (λ b. cond b (1 + suffix_len is_zero xs) 0) other)

pub words_kept : (many : ℕ) → without_zeros (replicate many word_a) ≡ replicate many word_a
words_kept many =
    let long = length-replicate many word_a in
    let none = suffix_len_is is_zero (replicate many word_a) many word_a (omega (arith, long)) (λ k past inside. absurd (omega (arith, long, past, inside))) (λ some. ap is_zero (get_or-replicate many (many - 1) word_a word_a (omega (arith, some)))) in
    kept (replicate many word_a) (omega (arith, none, long))

pub words_rest : (many : ℕ) → IsRest (replicate many word_a)
words_rest zero = tt
words_rest (suc many) = tt

pub canonical_of : (numbers segments : List Ident) → list_all is_number numbers ≡ true → IsRest segments → without_zeros numbers ≡ numbers → without_zeros segments ≡ segments → canonical (numbers ++ segments) ≡ numbers ++ segments
canonical_of numbers segments all is p q =
    (λ i. without_zeros (front_of numbers segments all is i) ++ without_zeros (rest_of numbers segments all is i)) ∙ (λ i. p i ++ q i)

pub canonical_numbers : (numbers : List Ident) → list_all is_number numbers ≡ true → without_zeros numbers ≡ numbers → canonical numbers ≡ numbers
canonical_numbers numbers all p = ap canonical (sym (append-nil numbers)) ∙ canonical_of numbers [] all tt p refl ∙ append-nil numbers

-- ---- the size

module _ (P : Ident → Type 0) where
  each_taken : (j : ℕ) (xs : List Ident) → AllByRecursion P xs → AllByRecursion P (take j xs)
  each_taken zero xs each = tt
  each_taken (suc j) [] each = tt
  each_taken (suc j) (x ∷ xs) each = (each.0, each_taken j xs each.1)

  each_dropped : (j : ℕ) (xs : List Ident) → AllByRecursion P xs → AllByRecursion P (drop j xs)
  each_dropped zero xs each = each
  each_dropped (suc j) [] each = tt
  each_dropped (suc j) (x ∷ xs) each = each_dropped j xs each.1

pub each_below : (limit : ℕ) (xs : List Ident) → list_all is_segment xs ≡ true → greatest_number xs < limit → AllByRecursion (IsSegmentBelow limit) xs
each_below limit [] all less = tt
each_below limit (Number n ∷ xs) all less = (omega (arith, less), each_below limit xs all (omega (arith, less)))
each_below limit (Word w ∷ xs) all less = let a = and_parts (is_segment (Word w)) (list_all is_segment xs) all in (a.0, each_below limit xs a.1 less)

pub canonical_below : (limit : ℕ) (xs : List Ident) → AllByRecursion (IsSegmentBelow limit) xs → AllByRecursion (IsSegmentBelow limit) (canonical xs)
canonical_below limit xs each =
    let numbers = prefix_len is_number xs in
    each_append (IsSegmentBelow limit) (without_zeros (front xs)) (without_zeros (rest xs))
    (each_taken (IsSegmentBelow limit) (length (front xs) - suffix_len is_zero (front xs)) (front xs) (each_taken (IsSegmentBelow limit) numbers xs each))
    (each_taken (IsSegmentBelow limit) (length (rest xs) - suffix_len is_zero (rest xs)) (rest xs) (each_dropped (IsSegmentBelow limit) numbers xs each))

pub canonical_length : (xs : List Ident) → length (canonical xs) ≤ length xs
canonical_length xs = omega (arith, length-append (without_zeros (front xs)) (without_zeros (rest xs)), length-take (length (front xs) - suffix_len is_zero (front xs)) (front xs), length-take (length (rest xs) - suffix_len is_zero (rest xs)) (rest xs), length-take (prefix_len is_number xs) xs, length-drop (prefix_len is_number xs) xs)

-- the numbers before the first word, the last left out where there are two or more, and a larger number behind them, are above
-- all the segments
pub above_all : (large : ℕ) (xs : List Ident) → 0 < large → AllByRecursion (IsSegmentBelow large) xs → list_all is_number (front xs) ≡ true
    → segments_cmp (shortened (front xs) ++ Number large ∷ []) (canonical xs) ≡ Greater
above_all large xs positive each all =
    above_shortened large (length (front xs) - suffix_len is_zero (front xs)) (front xs) (without_zeros (rest xs)) positive all (each_taken (IsSegmentBelow large) (prefix_len is_number xs) xs each)
    (taken_rest (length (rest xs) - suffix_len is_zero (rest xs)) (rest xs) (rest_is xs))
