use Rattle.std.proofs.Common.{◌≡◌}
use Rattle.purl_core.specs.Value.{pair_view}
use Rattle.purl_core.specs.declared.value.Pair.{Pair}
use Rattle.purl_types.proofs.Letters.{list_if, list_only}
use Rattle.purl_types.proofs.SameLaws.{told_by}
use Rattle.purl_types.proofs.comparing.equal_pairs.Goals as goal

pub returns : goal.returns
returns c =
    let a = c.args.a.now in
    let b = c.args.b.now in
    told_by c.each_equal.result c.each_equal.ensures (
      list_only (λ (x y : Pair). pair_view x ≡ pair_view y) pair_view (λ x y e. e) a b,
      list_if (λ (x y : Pair). pair_view x ≡ pair_view y) pair_view (λ x y e. e) a b,
    )
