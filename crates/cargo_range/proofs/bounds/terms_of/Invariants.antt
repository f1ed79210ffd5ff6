use Rattle.std.proofs.Common.{◌≡◌, ◌+◌, ◌++◌, length}
use Rattle.std.specs.List.{list_all, prefix_len}
use Rattle.vx_range.specs.Making.{made_each}
use Rattle.cargo_range.specs.Spans.{made_spans}
use Rattle.cargo_range.specs.Refusals.{can_raise}
use Rattle.cargo_range.proofs.bounds.terms_of.Given as goal

-- the terms so far, with those of what is left, are those of all
abbrev pub invariant-loop-construct : goal.invariant-loop-construct
invariant-loop-construct l = record {
  terms : l.terms ++ made_each made_spans l.marks l.construct-iterator.rest.items ≡ made_each made_spans 0 l.fn.all.items;
  raised : list_all can_raise l.construct-iterator.rest.items ≡ list_all can_raise l.fn.all.items;
  place : length l.terms + prefix_len can_raise l.construct-iterator.rest.items ≡ prefix_len can_raise l.fn.all.items;
}
