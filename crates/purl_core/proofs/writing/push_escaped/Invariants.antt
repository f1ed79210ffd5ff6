use Rattle.std.proofs.Common.{◌≡◌, ◌++◌}
use Rattle.percent_encoding.specs.Iter.{encoded_text}
use Rattle.vx_text.specs.Escapes.{escaped}
use Rattle.purl_core.specs.Steps.Written.{IsGrown}
use Rattle.purl_core.proofs.writing.push_escaped.Given as goal

abbrev pub invariant-loop-piece : goal.invariant-loop-piece
invariant-loop-piece l = record {
  written : l.out ++ encoded_text l.piece-iterator ≡ l.initial.out ++ escaped l.fn.text;
  grown : IsGrown l.initial.out l.out;
}
