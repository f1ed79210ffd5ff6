use Rattle.std.proofs.Common.{◌<◌, arith}
use Rattle.std.proofs.lemmas.List.Elements.{All-from_get_or, recursion_from_All}
use Rattle.purl_core.proofs.Valid.{valid}
use Rattle.purl_core.proofs.reading.assemble.Goals as goal

pub invariant_of-result : goal.invariant_of-result
invariant_of-result c =
    let bytes = recursion_from_All (λ b. b < 256) c.args.text.now (All-from_get_or (λ b. b < 256) c.args.text.now 0 (λ i within. omega (arith, c.type_inv.text i))) in
    valid c.args.text.now _ bytes c.requires
