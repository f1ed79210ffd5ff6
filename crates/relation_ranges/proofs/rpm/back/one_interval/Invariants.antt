-- What is left so far, with the rest, is what is left of all.
use Rattle.std.proofs.Common.{◌≡◌, drop, map}
use Rattle.relation_ranges.specs.Rpm.Back.{joined_spans, kept, moved_span}
use Rattle.relation_ranges.specs.Steps.RpmBack.{joined_with}
use Rattle.relation_ranges.proofs.rpm.back.one_interval.Given as goal

abbrev pub invariant-loop-span : goal.invariant-loop-span
invariant-loop-span l = joined_with l.domain l.so_far (kept (map (moved_span l.domain) (drop l.span-index l.spans))) ≡ joined_spans (kept (map (moved_span l.domain) l.spans))
