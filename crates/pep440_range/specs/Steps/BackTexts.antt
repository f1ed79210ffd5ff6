-- The text of constructs, construct by construct.
use Rattle.std.specs.Prelude.{ℕ, Bool, true, false, List, [], ◌∷◌, ◌++◌, codes, Option}
use Rattle.vx_scheme.specs.declared.domain.Domain.{Domain}
use Rattle.vx_scheme.specs.declared.back_fault.BackFault.{BackFault}
use Rattle.vx_scheme.specs.declared.span.Cut.{Cut}
use Rattle.vx_scheme.specs.declared.span.Span.{Span}
use Rattle.pep440_scheme.specs.Version.{Fields}
use Rattle.pep440_range.specs.declared.construct.Construct.{Construct}
use Rattle.pep440_range.specs.Back.{all_gaps, bound_fault, construct_text, gaps_fault, lower_constructs, or_else, upper_constructs}

-- what stands before a construct: a comma where one stands before it
abbrev pub comma : Bool → List ℕ
comma false = []
comma true = codes ","

-- the constructs behind others, or where none stand before them
abbrev pub listed : Bool → List Construct → List ℕ
listed some [] = []
listed some (construct ∷ constructs) = comma some ++ (construct_text construct ++ listed true constructs)

-- some construct stands there
abbrev pub is_any : {X : Type 0} → List X → Bool
is_any [] = false
is_any (x ∷ xs) = true

-- a lower bound, an upper bound, and the gaps of spans
abbrev pub parts_of : Domain → Option (Cut Fields) → Option (Cut Fields) → List (Span Fields) → List Construct
parts_of domain lower upper spans = lower_constructs lower ++ (upper_constructs domain upper ++ all_gaps domain spans)

-- their first refusal
abbrev pub parts_fault : Domain → Option (Cut Fields) → Option (Cut Fields) → List (Span Fields) → Option BackFault
parts_fault domain lower upper spans = or_else (bound_fault domain lower) (or_else (gaps_fault domain spans) (bound_fault domain upper))
