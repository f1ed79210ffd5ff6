-- Texts cut at a byte, the mark.
use Rattle.std.specs.Prelude.{◌≡◌, ◌≢◌, ◌==◌, if◌then◌else◌, ℕ, List, [], ◌∷◌, ◌++◌, Option, Some, None}
use Rattle.std.specs.List.{AllByRecursion}

-- the byte stands nowhere in the text
abbrev pub Lacks : ℕ → List ℕ → Type 0
Lacks byte text = AllByRecursion (λ b. b ≢ byte) text

-- a part behind its mark, where there is one
abbrev pub marked : ℕ → Option (List ℕ) → List ℕ
marked mark None = []
marked mark (Some part) = mark ∷ part

-- the text is the front, which lacks the mark, and what stands behind the mark
pub record IsCut (mark : ℕ) (text front : List ℕ) (behind : Option (List ℕ)) : Type 0 where
  pub joined : text ≡ front ++ marked mark behind
  pub first : Lacks mark front

-- what stands before the first mark: all, where there is none
abbrev pub before_mark : ℕ → List ℕ → List ℕ
before_mark mark [] = []
before_mark mark (b ∷ text) = if b == mark then [] else b ∷ before_mark mark text

-- what stands behind the first mark, where there is one
abbrev pub behind_mark : ℕ → List ℕ → Option (List ℕ)
behind_mark mark [] = None
behind_mark mark (b ∷ text) = if b == mark then Some text else behind_mark mark text

-- a part that may be left out and its mark, in front of the rest
abbrev pub in_front : ℕ → Option (List ℕ) → List ℕ → List ℕ
in_front mark None rest = rest
in_front mark (Some part) rest = part ++ (mark ∷ rest)

-- the part before the mark, or all where there is no mark
abbrev pub first_part : Option (List ℕ) → List ℕ → List ℕ
first_part None rest = rest
first_part (Some part) rest = part

-- the text is what stands before its first mark, where it has one, and the rest
pub record IsFirstCut (mark : ℕ) (text : List ℕ) (front : Option (List ℕ)) (rest : List ℕ) : Type 0 where
  pub joined : text ≡ in_front mark front rest
  pub first : Lacks mark (first_part front rest)

-- the part behind the mark, or all where there is no mark
abbrev pub last_part : List ℕ → Option (List ℕ) → List ℕ
last_part front None = front
last_part front (Some part) = part

-- the text is the front and what stands behind its last mark, where it has one
pub record IsLastCut (mark : ℕ) (text front : List ℕ) (behind : Option (List ℕ)) : Type 0 where
  pub joined : text ≡ front ++ marked mark behind
  pub last : Lacks mark (last_part front behind)
