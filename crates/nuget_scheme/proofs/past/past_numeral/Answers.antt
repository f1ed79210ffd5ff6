use Rattle.std.proofs.Common.{◌∙◌, ap, sym}
use Rattle.vx_spec.proofs.MarkLaws.{cut_apart}
use Rattle.vx_spec.specs.Signs.{plus}
use Rattle.nuget_scheme.specs.Past.{first_past_front}
use Rattle.nuget_scheme.proofs.past.past_numeral.Goals as goal

pub returns : goal.returns
returns c = c.past_front.ensures ∙ ap (first_past_front c.args.at) (sym (cut_apart plus _ _ _ c.cut_bytes.ensures).0)
