use Rattle.std.proofs.Common.{◌≡◌, ◌++◌, codes, take}
use Rattle.std.specs.List.{flat_map}
use Rattle.npm_range.specs.Back.{span_text}
use Rattle.npm_range.proofs.back.push_others.Given as goal

-- the spans so far are appended
abbrev pub invariant-loop-span : goal.invariant-loop-span
invariant-loop-span l = l.out ≡ l.fn.out ++ flat_map (λ span. codes " || " ++ span_text span) (take l.span-index l.spans)
