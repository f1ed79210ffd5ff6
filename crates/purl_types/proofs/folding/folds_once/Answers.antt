use Rattle.purl_types.proofs.FoldLaws.{folded_once, valid_folded}
use Rattle.purl_types.proofs.folding.folds_once.Goals as goal

pub returns : goal.returns
returns c = record { valid = valid_folded; done = folded_once }
