-- The rounded-up logarithm is the least exponent, and falls by one at each halving.
use Rattle.std.proofs.Common.{arith, ℕ, ◌+◌, ◌^◌, ◌<◌, ◌≤◌, ◌≡◌, Bool, true, false, leb, refl, inl, inr}
use Rattle.std.specs.Prelude.{zero, suc, cond}
use Rattle.std.proofs.lemmas.Bool.{leb-true, leb-false, cases_lt}
use Rattle.std.proofs.lemmas.Nat.{pow_pos}
use Rattle.std.proofs.Math.Nat.{pow-suc}
use Rattle.std.proofs.Math.Pow.{pow_mono}
use Rattle.vx_line.specs.Logarithm.{log2_up}

doubled : (k : ℕ) → 2 ^ suc k ≡ 2 ^ k + 2 ^ k
doubled k = omega (arith, pow-suc 2 k)

reaches_by : (n k : ℕ) (b : Bool) → leb (suc n) (2 ^ k) ≡ b → n ≤ 2 ^ k → suc n ≤ 2 ^ cond b k (suc k)
reaches_by n k true e l = leb-true (suc n) (2 ^ k) e
reaches_by n k false e l = omega (arith, doubled k, pow_pos k)

pub log_reaches : (n : ℕ) → n ≤ 2 ^ log2_up n
log_reaches zero = omega arith
log_reaches (suc n) = reaches_by n (log2_up n) (leb (suc n) (2 ^ log2_up n)) refl (log_reaches n)

under : (j k n : ℕ) → 2 ^ j < suc n → suc n ≤ 2 ^ k → j < k
under j k n l m = elim (cases_lt j k) [
  | inl less ↦ less
  | inr more ↦ let most = pow_mono more in absurd (omega arith)
]

least_by : (n k j : ℕ) (b : Bool) → leb (suc n) (2 ^ j) ≡ b → j ≤ k → suc n ≤ 2 ^ k → cond b j (suc j) ≤ k
least_by n k j true e l m = l
least_by n k j false e l m = under j k n (leb-false (suc n) (2 ^ j) e) m

pub log_least : (n k : ℕ) → n ≤ 2 ^ k → log2_up n ≤ k
log_least zero k l = omega arith
log_least (suc n) k l = least_by n k (log2_up n) (leb (suc n) (2 ^ log2_up n)) refl (log_least n k (omega arith)) l

pub log_more : (m n : ℕ) → m ≤ n → log2_up m ≤ log2_up n
log_more m n l = let reached = log_reaches n in log_least m (log2_up n) (omega arith)

half_by : (h n k : ℕ) → n ≤ 2 ^ k → 2 ≤ n → h + h ≤ n + 1 → log2_up h + 1 ≤ k
half_by h n zero reached l m = absurd (omega arith)
half_by h n (suc k) reached l m = let half : log2_up h ≤ k = log_least h k (omega (arith, doubled k)) in omega arith

pub log_half : (h n : ℕ) → 2 ≤ n → h + h ≤ n + 1 → log2_up h + 1 ≤ log2_up n
log_half h n l m = half_by h n (log2_up n) (log_reaches n) l m
