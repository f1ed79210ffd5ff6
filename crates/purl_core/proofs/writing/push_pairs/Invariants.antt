use Rattle.std.proofs.Common.{◌≡◌, ◌++◌, map, drop}
use Rattle.std.specs.Prelude.{codes}
use denote.Shadow.{shadow}
use denote.Text.{Utf8}
use Rattle.purl_core.specs.Value.{pair_view}
use Rattle.purl_core.specs.Steps.Written.{IsGrown, signed_pairs}
use Rattle.purl_core.proofs.writing.push_pairs.Given as goal

abbrev pub invariant-loop-pair : goal.invariant-loop-pair
invariant-loop-pair l = record {
  written : l.out ++ signed_pairs l.sign (map pair_view (drop l.pair-index l.pairs)) ≡ l.initial.out ++ signed_pairs (codes "?") (map pair_view l.pairs);
  grown : IsGrown l.initial.out l.out;
  text : shadow (Utf8 l.sign);
}
