use Rattle.std.proofs.Common.{[], ◌∷◌, arith, rules}
use Rattle.std.proofs.lemmas.Grind.{common_steps}
use Rattle.vx_spec.proofs.TextLaws.{utf8_by_each}
use Rattle.purl_core.proofs.Written.{grown_by, grown_then, next_signed}
use Rattle.purl_core.proofs.writing.push_segments.Goals as goal

pub loop-segment-preserved : goal.loop-segment-preserved
loop-segment-preserved c = record {
  written = first_of (search (rules, next_signed), grind (arith, common_steps, next_signed));
  grown = grown_then c.loop-segment.invariant.grown (grown_by _ c.in_ok-push_signed.ensures.ok);
  text = utf8_by_each (47 ∷ []) (omega arith, tt);
}
