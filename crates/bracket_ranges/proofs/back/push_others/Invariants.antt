-- What is written, with what the rest writes, is what all write.
use Rattle.std.proofs.Common.{◌≡◌, ◌++◌, drop}
use Rattle.bracket_ranges.specs.Back.{others_text}
use Rattle.bracket_ranges.proofs.back.push_others.Given as goal

abbrev pub invariant-loop-span : goal.invariant-loop-span
invariant-loop-span g l =
    l.out ++ others_text g.S.Scheme.order g.S.Scheme.normal l.before.upper (drop l.span-index l.spans) ≡ l.fn.out ++ others_text g.S.Scheme.order g.S.Scheme.normal l.fn.first.upper l.fn.spans
