use Rattle.std.proofs.Common.{◌≡◌, ◌++◌, map, take}
use Rattle.std.specs.List.{join_with_byte}
use Rattle.vx_spec.specs.Signs.{dot}
use Rattle.vx_order.specs.Identifiers.{identifier_text}
use Rattle.vx_order.proofs.writing.push_dotted.Given as goal

abbrev pub invariant-loop-i : goal.invariant-loop-i
invariant-loop-i l = l.out ≡ l.fn.out ++ join_with_byte dot (map identifier_text (take l.i l.idents))
