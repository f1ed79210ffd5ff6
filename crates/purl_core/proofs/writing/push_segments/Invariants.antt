use Rattle.std.proofs.Common.{◌≡◌, ◌++◌, drop}
use denote.Shadow.{shadow}
use denote.Text.{Utf8}
use Rattle.purl_core.specs.Steps.Written.{IsGrown, signed_segments}
use Rattle.purl_core.proofs.writing.push_segments.Given as goal

abbrev pub invariant-loop-segment : goal.invariant-loop-segment
invariant-loop-segment l = record {
  written : l.out ++ signed_segments l.sign (drop l.segment-index l.segments) ≡ l.initial.out ++ signed_segments l.fn.first l.segments;
  grown : IsGrown l.initial.out l.out;
  text : shadow (Utf8 l.sign);
}
