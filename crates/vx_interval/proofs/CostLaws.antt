-- What halving costs.
use Rattle.std.proofs.Common.{arith, ℕ, ◌+◌, ◌*◌, ◌≤◌, ◌≡◌}
use Rattle.std.proofs.lemmas.Nat.{mul-le}
use Rattle.std.proofs.Math.Nat.{add-mul, mul-add}
use Rattle.vx_line.specs.Logarithm.{log2_up}
use Rattle.vx_line.proofs.LogarithmLaws.{log_more}
use Rattle.vx_interval.specs.Steps.Lines.{line_cost}

-- a joining of so many cuts is paid by one halving
paid : (a w r1 r : ℕ) → r1 + 1 ≤ r → a * (w + r1 + 1) + a ≤ a * (w + r + 1)
paid a w r1 r l =
    let more = mul-le a (w + r1 + 1 + 1) a (w + r + 1) (omega arith) (omega arith) in
    let split = mul-add a (w + r1 + 1) 1 in
    let one = mul-add a 0 1 in
    omega (arith, more, split)

pub halved : (a b pa pb n w r1 r2 r s0 s1 s2 s3 : ℕ) → s1 ≤ s0 + b * (w + r1 + 1) → s2 ≤ s1 + a * (w + r2 + 1) → s3 ≤ s2 + (pa + pb) → pa ≤ a → pb ≤ b → r1 + 1 ≤ r → r2 + 1 ≤ r → n ≡ a + b → s3 ≤ s0 + n * (w + r + 1)
halved a b pa pb n w r1 r2 r s0 s1 s2 s3 c1 c2 c3 la lb l1 l2 n_is =
    let first = paid a w r2 r l2 in
    let second = paid b w r1 r l1 in
    let whole = add-mul a b (w + r + 1) in
    rw n_is (omega arith)

-- where the first half is refused
pub refused_first : (n w r1 r s0 s1 : ℕ) → s1 ≤ s0 + n * (w + r1 + 1) → r1 + 1 ≤ r → s1 ≤ s0 + n * (w + r + 1)
refused_first n w r1 r s0 s1 c l = let more = paid n w r1 r l in omega arith

-- and where the second is
pub refused_second : (a b n w r1 r2 r s0 s1 s2 : ℕ) → s1 ≤ s0 + b * (w + r1 + 1) → s2 ≤ s1 + a * (w + r2 + 1) → r1 + 1 ≤ r → r2 + 1 ≤ r → n ≡ a + b → s2 ≤ s0 + n * (w + r + 1)
refused_second a b n w r1 r2 r s0 s1 s2 c1 c2 l1 l2 n_is = halved a b 0 0 n w r1 r2 r s0 s1 s2 s2 c1 c2 (omega arith) (omega arith) (omega arith) l1 l2 n_is

-- the parts' own depth, under a bound on all of their cuts
pub one_line_cost : (n most depth r s0 s1 : ℕ) → s1 ≤ s0 + line_cost depth n → n ≤ most → s1 ≤ s0 + n * (depth * log2_up most + r + 1)
one_line_cost n most depth r s0 s1 c l =
    let logs = mul-le depth (log2_up n) depth (log2_up most) (omega arith) (log_more n most l) in
    let more = mul-le n (depth * log2_up n + 1) n (depth * log2_up most + r + 1) (omega arith) (omega arith) in
    omega arith

-- the whole list: as many parts have a cut as it has cuts, at most
pub list_cost : (n taken count depth s0 s1 : ℕ) → s1 ≤ s0 + taken * (depth * log2_up n + log2_up count + 1) → taken ≤ n → count ≤ n → s1 ≤ s0 + line_cost (depth + 1) n
list_cost n taken count depth s0 s1 c l m =
    let logs = log_more count n m in
    let split = add-mul depth 1 (log2_up n) in
    let one = add-mul 0 1 (log2_up n) in
    let more = mul-le taken (depth * log2_up n + log2_up count + 1) n ((depth + 1) * log2_up n + 1) l (omega arith) in
    omega arith

-- a cost that is paid by the cuts that were taken off
pub passed : (k k' s s0 s1 : ℕ) → s ≤ s0 → s1 ≤ s + k → k ≡ k' → s1 ≤ s0 + k'
passed k k' s s0 s1 l m e = omega arith

-- what has no cut costs nothing
pub no_cost : (n depth s s0 s1 : ℕ) → s ≤ s0 → s1 ≤ s + line_cost depth n → n ≡ 0 → s1 ≤ s0
no_cost n depth s s0 s1 l m e =
    let none : n * (depth * log2_up n + 1) ≤ 0 = rw e (omega arith) in
    omega (arith, none)
