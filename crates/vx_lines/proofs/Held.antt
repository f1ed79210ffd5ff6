-- What is held of a read buffer, and what a line keeps of its front.
use Rattle.std.proofs.Common.{◌≡◌, ℕ, ◌+◌, ◌-◌, ◌≤◌, ◌<◌, min, List, [], ◌∷◌, ◌++◌, zero, suc, length, take, drop, refl, ap, sym, ◌∙◌, arith, nat_lt, true, false, length-take}
use Rattle.std.proofs.lemmas.List.{take_min, take_all, drop-take, drop-drop, length-drop}
use Rattle.std.proofs.Math.Nat.{min_comm}

pub take_append : (n : ℕ) (xs ys : List ℕ) → take n (xs ++ ys) ≡ take n xs ++ take (n - length xs) ys
take_append zero xs ys = let none : 0 - length xs ≡ 0 = omega arith in rw none refl
take_append (suc n) [] ys = let all : suc n - 0 ≡ suc n = omega arith in rw all refl
take_append (suc n) (x ∷ xs) ys =
    let less : suc n - suc (length xs) ≡ n - length xs = omega arith in
    rw less (ap (λ l. x ∷ l) (take_append n xs ys))

-- a piece more, where the rest of the line takes the front of it
pub kept_more : (most : ℕ) (kept front piece : List ℕ) (count : ℕ) → kept ≡ take most front → count ≡ min (length piece) (most - length kept) → kept ++ take count piece ≡ take most (front ++ piece)
kept_more most kept front piece count e f =
    let len : length kept ≡ min most (length front) = ap length e ∙ length-take most front in
    let room : most - length kept ≡ most - length front = omega arith in
    let same : take count piece ≡ take (most - length front) piece = rw (f, room, min_comm (length piece) (most - length front)) (take_min (most - length front) piece) in
    rw (take_append most front piece, ← e, same) refl

pub long_then : (most f p : ℕ) → most - min most f < p → nat_lt most (f + p) ≡ true
long_then most f p h = grind arith

pub long_else : (most f p : ℕ) → p ≤ most - min most f → nat_lt most f ≡ nat_lt most (f + p)
long_else most f p h = grind arith

-- a front that is not longer is kept whole
pub short_front : (most : ℕ) (kept front : List ℕ) → kept ≡ take most front → nat_lt most (length front) ≡ false → (length front ≤ most) × (kept ≡ front)
short_front most kept front e g =
    let le : length front ≤ most = grind arith in
    (le, e ∙ take_all most front le)

pub long_front : (most : ℕ) (front : List ℕ) → nat_lt most (length front) ≡ true → most < length front
long_front most front g = grind arith

-- a place of what is held leaves room behind it
pub room_behind : (chunk : List ℕ) (from to n : ℕ) → from ≤ to → to ≤ length chunk → n < length (take (to - from) (drop from chunk)) → from + (n + 1) ≤ to
room_behind chunk from to n h k below = omega (arith, below, length-take (to - from) (drop from chunk), length-drop from chunk)

-- what is held behind such a place
pub behind_held : (chunk : List ℕ) (from to n : ℕ) → from + (n + 1) ≤ to → take (to - (from + (n + 1))) (drop (from + (n + 1)) chunk) ≡ drop (n + 1) (take (to - from) (drop from chunk))
behind_held chunk from to n h =
    let size = to - (from + (n + 1)) in
    let whole : (n + 1) + size ≡ to - from = omega (arith, h) in
    ap (take size) (sym (drop-drop (n + 1) from chunk))
    ∙ sym (drop-take (n + 1) size (drop from chunk))
    ∙ ap (λ m. drop (n + 1) (take m (drop from chunk))) whole

pub none_held : (chunk : List ℕ) (to : ℕ) → take (to - to) (drop to chunk) ≡ []
none_held chunk to = let none : to - to ≡ 0 = omega arith in rw none refl
