use Rattle.std.proofs.Common.{codes}
use Rattle.std.proofs.lemmas.Bool.Decides.{Decides-eqb}
use Rattle.std.proofs.lemmas.Slice.Eq.{strip_suffix_is}
use Rattle.pep440_range.proofs.StarLaws.{stripped}
use Rattle.pep440_range.proofs.reading.before_star.Goals as goal

pub returns-clause-is : goal.returns-clause-is
returns-clause-is c =
    stripped c.args.text.now c.strip_suffix.result (strip_suffix_is Decides-eqb c.args.text.now (codes ".*") c.strip_suffix.result c.strip_suffix.ensures.cases)
