use Rattle.std.proofs.Common.{◌≡◌, ◌≤◌, ◌+◌, drop}
use Rattle.vx_interval.specs.Steps.Lines.{with_cuts}
use Rattle.vx_interval.proofs.part.count_with_cuts.Given as goal

-- those so far, and those of what is left
abbrev pub invariant-loop-part : goal.invariant-loop-part
invariant-loop-part g l = record {
  counted : l.count + with_cuts g.X.Part.cuts (drop l.part-index l.part-items) ≡ with_cuts g.X.Part.cuts l.parts;
  within : l.count ≤ l.part-index;
}
