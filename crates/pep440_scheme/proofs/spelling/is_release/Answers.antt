use Rattle.std.proofs.Common.{rules, tests}
use Rattle.std.proofs.lemmas.Iterator.Search.{all_from_yields_List}
use Rattle.std.proofs.lemmas.Iterator.Splits.{YieldsList-from_slice_split}
use Rattle.vx_spec.specs.Numerals.{is_numeral}
use Rattle.pep440_scheme.specs.Steps.Apart.{is_dot}
use Rattle.pep440_scheme.proofs.spelling.is_release.Goals as goal

pub returns : goal.returns
returns c =
    all_from_yields_List is_numeral _ _ _ c.all.ensures.ran
    (YieldsList-from_slice_split _ is_dot c.args.text.now c.split.ensures.rest c.split.ensures.done c.split.ensures.closure (λ x b q called. (search rules, search rules)))
    (λ x b q k. search (rules, tests))
