-- The logarithm to the base 2, rounded up.
use Rattle.std.specs.Prelude.{ℕ, zero, suc, ◌^◌, nat_le, if◌then◌else◌}

-- the least k with n ≤ 2^k
abbrev pub log2_up : ℕ → ℕ
log2_up zero = 0
log2_up (suc n) = if nat_le (suc n) (2 ^ log2_up n) then log2_up n else suc (log2_up n)
