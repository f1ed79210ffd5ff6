use Rattle.std.proofs.Common.{sym, ◌∙◌}
use Rattle.rpm_scheme.proofs.ReleaseLaws.{cut_front, cut_taken}
use Rattle.rpm_scheme.proofs.version.front_of.Goals as goal

pub returns : goal.returns
returns c =
    let cut = rw c.as_str.ensures at c.cut.ensures in
    c.cut-2.ensures ∙ cut_taken c.args.text c.cut.result.0.now _ cut ∙ sym (cut_front c.args.text c.cut.result.0.now _ cut)
