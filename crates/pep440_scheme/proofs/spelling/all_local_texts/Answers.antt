use Rattle.std.proofs.Common.{rules, tests}
use Rattle.std.proofs.lemmas.Iterator.Search.{all_from_yields_List}
use Rattle.std.proofs.lemmas.Iterator.Splits.{YieldsList-from_slice_split}
use Rattle.pep440_scheme.specs.Spelling.{is_local_text, is_separator}
use Rattle.pep440_scheme.proofs.spelling.all_local_texts.Goals as goal

pub returns : goal.returns
returns c =
    all_from_yields_List is_local_text _ _ _ c.all.ensures.ran
    (YieldsList-from_slice_split _ is_separator c.args.label.now c.split.ensures.rest c.split.ensures.done c.split.ensures.closure (λ x b q called. (search rules, search rules)))
    (λ x b q k. search (rules, tests))
