-- The order of lists of identifiers by the rule of a scheme: by the first place at which their keys differ.
use Rattle.std.specs.Prelude.{ℕ, List, [], ◌∷◌, map}
use Rattle.std.specs.Cmp.Lexicographic.{slice_cmp}
use Rattle.std.specs.Ordering.{nat_cmp}
use Rattle.std.specs.declared.cmp.Ordering.{Ordering}
use Rattle.vx_spec.specs.Places.{ComparesAs, endless}
use Rattle.vx_spec.specs.Rows.{rows_cmp}
use Rattle.vx_scheme.specs.declared.ident.Ident.{Ident}
use Rattle.vx_scheme.specs.declared.ident.Ident.TheVariants.{Number, Word}
use Rattle.vx_text.specs.Folding.{lowered}
use Rattle.vx_order.specs.declared.idents.IdentRule.{IdentRule}
use Rattle.vx_order.specs.declared.idents.NumberPlace.{NumberPlace}
use Rattle.vx_order.specs.declared.idents.NumberPlace.TheVariants.{BelowWords, AboveWords}
use Rattle.vx_order.specs.declared.idents.WordOrder.{WordOrder}
use Rattle.vx_order.specs.declared.idents.WordOrder.TheVariants.{Exact, Folded}
use Rattle.vx_order.specs.declared.idents.EmptyPlace.{EmptyPlace}
use Rattle.vx_order.specs.declared.idents.EmptyPlace.TheVariants.{Lowest, Highest}

-- an entry of a key is a list of numbers; entries compare number by number, and the empty one, the end, is lowest
abbrev pub entry_cmp : List ℕ → List ℕ → Ordering
entry_cmp = slice_cmp nat_cmp

-- the rank of numbers; that of words is 2
abbrev pub number_rank : NumberPlace → ℕ
number_rank BelowWords = 1
number_rank AboveWords = 3

-- what words compare by
abbrev pub word_key : WordOrder → List ℕ → List ℕ
word_key Exact word = word
word_key Folded word = lowered word

-- an identifier's rank, and then its value or its bytes
abbrev pub entry : IdentRule → Ident → List ℕ
entry rule (Number n) = number_rank rule.numbers ∷ n ∷ []
entry rule (Word w) = 2 ∷ word_key rule.words w

-- no identifiers: nothing at all, or one entry above every identifier
abbrev pub empty_key : EmptyPlace → List (List ℕ)
empty_key Lowest = []
empty_key Highest = (4 ∷ []) ∷ []

-- the entries of the identifiers, from left to right
abbrev pub idents_key : IdentRule → List Ident → List (List ℕ)
idents_key rule [] = empty_key rule.empty
idents_key rule (ident ∷ idents) = entry rule ident ∷ map (entry rule) idents

-- How two lists compare: a key that ends goes on with the lowest entry, so that a list is below a longer one that it
-- begins, unless it is empty.
abbrev pub idents_cmp : IdentRule → List Ident → List Ident → Ordering
idents_cmp rule a b = rows_cmp entry_cmp [] (idents_key rule a) (idents_key rule b)

-- the answer says how the keys, continued without end by the lowest entry, compare at their first place of difference
abbrev pub IdentsCompareAs : IdentRule → List Ident → List Ident → Ordering → Type 0
IdentsCompareAs rule a b answer = ComparesAs entry_cmp (endless [] (idents_key rule a)) (endless [] (idents_key rule b)) answer
