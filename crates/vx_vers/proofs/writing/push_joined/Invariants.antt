use Rattle.std.proofs.Common.{◌≡◌, ◌++◌, take, map}
use Rattle.std.specs.List.{join_with_byte}
use Rattle.vx_vers.specs.Again.{EachWritable}
use Rattle.vx_vers.specs.Texts.{constraint_text}
use Rattle.vx_vers.proofs.writing.push_joined.Given as goal

-- the constraints so far are appended, and their versions are those of the scheme
abbrev pub invariant-loop-i : goal.invariant-loop-i
invariant-loop-i g l = record {
  text : l.out ≡ l.fn.out ++ join_with_byte 124 (map (constraint_text g.S.Scheme.normal) (take l.i l.list));
  versions : EachWritable g.S.Scheme.IsVersion g.S.Scheme.IsWithin g.S.Scheme.normal (take l.i l.list);
}
