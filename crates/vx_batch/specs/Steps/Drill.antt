-- The sums of a drill with one answer more.
use Rattle.std.specs.Prelude.{◌+◌, ◌*◌, ◌^◌, ◌≤◌, ℕ, List, Bool, if◌then◌else◌, length}
use Rattle.vx_batch.specs.declared.drilling.Sums.{Sums}

abbrev pub with_answer : Sums → Bool → List ℕ → Sums
with_answer sums ok text = record {
  lines = sums.lines + 1;
  ok = if ok then sums.ok + 1 else sums.ok;
  no = if ok then sums.no else sums.no + 1;
  bytes = sums.bytes + (length text + 1);
}

-- no sum is larger than so many lines and so many bytes a line
pub record AreSmall (sums : Sums) : Type 0 where
  pub ok : sums.ok ≤ sums.lines
  pub no : sums.no ≤ sums.lines
  pub bytes : sums.bytes ≤ sums.lines * 2 ^ 64
