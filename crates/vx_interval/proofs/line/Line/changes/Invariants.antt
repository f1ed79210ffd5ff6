use Rattle.std.proofs.Common.{◌≡◌, ◌++◌}
use Rattle.vx_line.specs.Pieces.{changes_of}
use Rattle.vx_interval.proofs.line.Line.changes.Given as goal

-- the cuts so far, and those at which what is left changes
abbrev pub invariant-loop-cut : goal.invariant-loop-cut
invariant-loop-cut g l = l.cuts ++ changes_of l.inside l.cut-iterator.rest.items ≡ changes_of l.fn.self.starts l.fn.self.pieces
