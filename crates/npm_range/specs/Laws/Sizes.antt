-- A construct makes two cuts at most, and a side of a hyphen range one at most; so a text makes at most twice as many cuts as it
-- has constructs.
use Rattle.std.proofs.Common.{◌≡◌, ◌≤◌, ◌+◌, ◌*◌, ℕ, List, [], ◌∷◌, length, ap, sym, ◌∙◌, subst, arith, inl, inr}
use Rattle.std.specs.Prelude.{sum_by}
use Rattle.std.proofs.lemmas.List.Sums.{sum_by-cons, sum_by-append}
use Rattle.vx_spec.specs.Each.{AreEach, joined}
use Rattle.vx_scheme.specs.declared.domain.Domain.{Domain}
use Rattle.vx_scheme.specs.declared.span.Span.{Span}
use Rattle.vx_scheme.specs.Cuts.{cuts_of}
use Rattle.vx_range.specs.Pieces.{Written}
use Rattle.vx_range.specs.Reading.{ReadsGroups}
use Rattle.vx_range.specs.Sizes.{cut_count}
use Rattle.vx_range.specs.Extents.{extent_spans}
use Rattle.vx_range.specs.Laws.Extents.{extent_two}
use Rattle.vx_range.specs.Laws.Sizes.{alternatives_of_most}
use Rattle.npm_scheme.specs.Version.{Fields}
use Rattle.npm_range.specs.declared.cutting.Kind.{Kind}
use Rattle.npm_range.specs.declared.construct.Construct.{Construct}
use Rattle.npm_range.specs.declared.construct.Operator.{Operator}
use Rattle.npm_range.specs.declared.construct.Operator.TheVariants.{Equal, Less, LessEqual, Greater, GreaterEqual, Tilde, Caret}
use Rattle.npm_range.specs.declared.construct.Partial.{Partial}
use Rattle.npm_range.specs.declared.construct.Partial.TheVariants.{Any, Major, Minor, Full}
use Rattle.npm_range.specs.Cutting.{place, behind_piece, ArePieces, sides, IsMadeOf, AreAlternatives}
use Rattle.npm_range.specs.Reading.{ReadsAs}
use Rattle.npm_range.specs.Spans.{equal_extent, greater_extent, greater_equal_extent, less_extent, less_equal_extent, tilde_extent, caret_extent, extent_by, made_spans}
use Rattle.npm_range.specs.Range.{Makes}
use Rattle.npm_range.specs.Sizes.{counted, construct_count, HasConstructs}
use Rattle.npm_range.specs.Laws.Cuts.{npm_cuts}

-- ---- the cuts of a construct

-- the most that an operator makes; those of the sides of a hyphen range make one
abbrev most_of : Operator → ℕ
most_of Equal = 2
most_of Less = 2
most_of LessEqual = 1
most_of Greater = 2
most_of GreaterEqual = 1
most_of Tilde = 2
most_of Caret = 2

abbrev most : Construct → ℕ
most c = most_of c.operator

two_at_most : (operator : Operator) → most_of operator ≤ 2
two_at_most Equal = omega arith
two_at_most Less = omega arith
two_at_most LessEqual = omega arith
two_at_most Greater = omega arith
two_at_most GreaterEqual = omega arith
two_at_most Tilde = omega arith
two_at_most Caret = omega arith

greater_equal_one : (mark : ℕ) (p : Partial) → length (cuts_of (extent_spans mark (greater_equal_extent p))) ≤ 1
greater_equal_one mark (Full version) = omega arith
greater_equal_one mark (Minor major minor) = omega arith
greater_equal_one mark (Major major) = omega arith
greater_equal_one mark Any = omega arith

less_equal_one : (domain : Domain) (mark : ℕ) (p : Partial) → length (cuts_of (extent_spans mark (less_equal_extent domain p))) ≤ 1
less_equal_one domain mark (Full version) = omega arith
less_equal_one domain mark (Minor major minor) = omega arith
less_equal_one domain mark (Major major) = omega arith
less_equal_one domain mark Any = omega arith

by_operator : (operator : Operator) (domain : Domain) (mark : ℕ) (p : Partial)
    → length (cuts_of (extent_spans mark (extent_by operator domain p))) ≤ most_of operator
by_operator Equal domain mark p = extent_two mark (equal_extent domain p)
by_operator Less domain mark p = extent_two mark (less_extent domain p)
by_operator LessEqual domain mark p = less_equal_one domain mark p
by_operator Greater domain mark p = extent_two mark (greater_extent p)
by_operator GreaterEqual domain mark p = greater_equal_one mark p
by_operator Tilde domain mark p = extent_two mark (tilde_extent domain p)
by_operator Caret domain mark p = extent_two mark (caret_extent domain p)

construct_most : (domain : Domain) (mark : ℕ) (c : Construct) → length (cuts_of (made_spans domain mark c)) ≤ most c
construct_most domain mark c = by_operator c.operator domain mark c.partial

-- ---- the constructs of groups

-- how many constructs pieces are
abbrev counts : List (Written Kind) → ℕ
counts pieces = sum_by (λ piece. counted piece.kind) pieces

pieces_most : (at : ℕ) (text : List ℕ) (pieces : List (Written Kind)) (group : List Construct) → ArePieces at text pieces → AreEach ReadsAs pieces group
    → sum_by most group ≤ 2 * counts pieces
pieces_most at text [] [] are each = omega arith
pieces_most at text [] (c ∷ group) are each = absurd each
pieces_most at text (piece ∷ pieces) [] are each = absurd each
pieces_most at text (piece ∷ pieces) (c ∷ group) are each =
    let one : counted piece.kind ≡ 1 = ap (λ (p : Written Kind). counted p.kind) are.1 in
    let here = two_at_most c.operator in
    let more = pieces_most (place at text (behind_piece text)) (behind_piece text) pieces group are.2 each.1 in
    let constructs = sum_by-cons most c group in
    let counted_of = sum_by-cons (λ (p : Written Kind). counted p.kind) piece pieces in
    omega (arith, one, here, more, constructs, counted_of)

-- a hyphen range makes one cut at most of each side
sides_most : (at : ℕ) (text : List ℕ) (group : List Construct) → AreEach ReadsAs (sides at text) group → sum_by most group ≤ 2 * counts (sides at text)
sides_most at text [] each = absurd each
sides_most at text (c ∷ []) each = absurd each.1
sides_most at text (c ∷ d ∷ []) each =
    let low : most c ≡ 1 = ap most_of each.0.operator in
    let high : most d ≡ 1 = ap most_of each.1.0.operator in
    let first = sum_by-cons most c (d ∷ []) in
    let second = sum_by-cons most d [] in
    omega (arith, low, high, first, second)
sides_most at text (c ∷ d ∷ e ∷ group) each = absurd each.1.1

group_most : (at : ℕ) (text : List ℕ) (pieces : List (Written Kind)) (group : List Construct) → IsMadeOf at text pieces → AreEach ReadsAs pieces group
    → sum_by most group ≤ 2 * counts pieces
group_most at text pieces group (inl range) each =
    subst (λ (p : List (Written Kind)). sum_by most group ≤ 2 * counts p) (sym range.1)
    (sides_most at text group (subst (λ (p : List (Written Kind)). AreEach ReadsAs p group) range.1 each))
group_most at text pieces group (inr other) each = pieces_most at text pieces group other.1 each

-- of a group before others
with_more : (pieces : List (Written Kind)) (groups : List (List (Written Kind))) (group : List Construct) (all : List (List Construct))
    → sum_by most group ≤ 2 * counts pieces → sum_by most (joined all) ≤ 2 * construct_count groups
    → sum_by most (joined (group ∷ all)) ≤ 2 * construct_count (pieces ∷ groups)
with_more pieces groups group all here more =
    let constructs = sum_by-append most group (joined all) in
    let counted_of = sum_by-append (λ (piece : Written Kind). counted piece.kind) pieces (joined groups) in
    omega (arith, here, more, constructs, counted_of)

all_most : (at : ℕ) (text : List ℕ) (groups : List (List (Written Kind))) (all : List (List Construct)) → AreAlternatives at text groups → ReadsGroups ReadsAs groups all
    → sum_by most (joined all) ≤ 2 * construct_count groups
all_most at text [] all are each = absurd are
all_most at text (pieces ∷ groups) [] are each = absurd each
all_most at text (pieces ∷ []) (group ∷ []) are each = with_more pieces [] group [] (group_most at text pieces group are.1 each.0) (omega arith)
all_most at text (pieces ∷ []) (group ∷ more ∷ all) are each = absurd each.1
all_most at text (pieces ∷ next ∷ groups) (group ∷ all) are each =
    with_more pieces (next ∷ groups) group all (group_most at are.0 pieces group are.3 each.0)
    (all_most (at + length are.0 + 2) are.1 (next ∷ groups) all are.4 each.1)

-- ---- texts

pub npm_short : (domain : Domain) (text : List ℕ) (bounds : List (List (List (Span Fields)))) → Makes domain text bounds
    → (n : ℕ) × HasConstructs text n × (cut_count bounds ≤ 2 * n)
npm_short domain text bounds m =
    let cuts : cut_count bounds ≤ sum_by most (joined m.all) =
    subst (λ b. cut_count b ≤ sum_by most (joined m.all)) (sym m.are) (alternatives_of_most (made_spans domain) most (construct_most domain) m.all) in
    let constructs = all_most 0 text m.groups m.all m.cut m.each in (
      construct_count m.groups,
      record { groups = m.groups; cut = m.cut; all = m.all; each = m.each; count = λ i. construct_count m.groups },
      omega (arith, cuts, constructs),
    )

-- a text has one number of constructs
pub npm_one : (text : List ℕ) (a b : ℕ) → HasConstructs text a → HasConstructs text b → a ≡ b
npm_one text a b p q = p.count ∙ ap construct_count (npm_cuts.cut_one text p.groups q.groups p.cut q.cut) ∙ sym q.count
