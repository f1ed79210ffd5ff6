use Rattle.std.proofs.Common.{◌∙◌, sym, append-nil}
use Rattle.purl_core.proofs.Plain.{lacks_if}
use Rattle.purl_core.proofs.cutting.cut_last.Goals as goal

pub returns-else-contains : goal.returns-else-contains
returns-else-contains c = record {
  joined = sym (append-nil c.args.text.now);
  last = lacks_if c.args.mark c.args.text.now (sym c.contains.ensures.value ∙ c.if-contains.false);
}
