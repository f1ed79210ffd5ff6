-- Identifiers made one behind the other.
use Rattle.std.proofs.Common.{◌≡◌, ◌+◌, ℕ, List, [], ◌∷◌, ◌++◌, length, map, sym, ap, ◌∙◌, subst, Option, Some, None, arith, append_assoc, length-append}
use Rattle.std.specs.List.{AllByRecursion}
use Rattle.vx_spec.specs.Marks.{IsCut}
use Rattle.vx_spec.proofs.EachLaws.{each_behind}
use Rattle.vx_scheme.specs.declared.ident.Ident.{Ident}
use Rattle.vx_spec.specs.Signs.{dot}
use Rattle.vx_order.specs.Dotted.{pieces}
use Rattle.vx_order.specs.Identifiers.{IdentIsWithin, identifier_of}
use Rattle.vx_order.specs.Laws.Dotted.{pieces_cut}

-- how many bytes what is left has, with the dot in front of it
abbrev pub left : Option (List ℕ) → ℕ
left None = 0
left (Some text) = length text + 1

pub fewer_left : (text front : List ℕ) (behind : Option (List ℕ)) → IsCut dot text front behind → length front + 1 + left behind ≡ left (Some text)
fewer_left text front None cut = omega (arith, ap length cut.joined, length-append front [])
fewer_left text front (Some rest) cut = omega (arith, ap length cut.joined, length-append front (dot ∷ rest))

-- one identifier more, and those of the parts behind
pub more_made : (made all : List Ident) (rest : Option (List ℕ)) (text front : List ℕ) (behind : Option (List ℕ)) → rest ≡ Some text → IsCut dot text front behind
    → made ++ map identifier_of (pieces rest) ≡ all
    → (made ++ identifier_of front ∷ []) ++ map identifier_of (pieces behind) ≡ all
more_made made all rest text front behind is cut e =
    append_assoc made (identifier_of front ∷ []) (map identifier_of (pieces behind))
    ∙ ap (λ (parts : List (List ℕ)). made ++ map identifier_of parts) (sym (pieces_cut rest text front behind is cut)) ∙ e

-- it is within the limit where all are
pub next_within : (made all : List Ident) (rest : Option (List ℕ)) (text front : List ℕ) (behind : Option (List ℕ)) → rest ≡ Some text → IsCut dot text front behind
    → made ++ map identifier_of (pieces rest) ≡ all → AllByRecursion IdentIsWithin all → IdentIsWithin (identifier_of front)
next_within made all rest text front behind is cut e within =
    let left = each_behind IdentIsWithin made (map identifier_of (pieces rest)) (subst (AllByRecursion IdentIsWithin) (sym e) within) in
    let here = subst (λ (parts : List (List ℕ)). AllByRecursion IdentIsWithin (map identifier_of parts)) (pieces_cut rest text front behind is cut) left in
    here.0
