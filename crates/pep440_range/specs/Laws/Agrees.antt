-- The spans of a construct hold exactly the versions of the domain of which the construct holds.
use Rattle.std.proofs.Common.{◌≡◌, ℕ, refl}
use Rattle.vx_scheme.specs.declared.domain.Domain.{Domain}
use Rattle.vx_scheme.specs.Cuts.{in_spans}
use Rattle.vx_range.specs.declared.making.Outcome.TheVariants as made
use Rattle.pep440_scheme.specs.Version.{Fields, IsVersion, public_of}
use Rattle.pep440_scheme.specs.Order.{order_of}
use Rattle.pep440_range.specs.declared.construct.Comparison.{Comparison}
use Rattle.pep440_range.specs.declared.construct.Comparison.TheVariants.{Compatible, LessOrEqual, GreaterOrEqual, Less, Greater}
use Rattle.pep440_range.specs.declared.construct.Construct.{Construct}
use Rattle.pep440_range.specs.declared.construct.Construct.TheVariants.{Compares, Equal, NotEqual, Within, NotWithin, Identical}
use Rattle.pep440_range.specs.Holds.{compares, holds}
use Rattle.pep440_range.specs.Refusals.{compared_outcome, outcome}
use Rattle.pep440_range.specs.Spans.{compared_spans, made_spans}
use Rattle.pep440_range.specs.Laws.AgreeWithin.{IsOf, compatible_says, not_within_says, within_says}
use Rattle.pep440_range.specs.Laws.AgreeEqual.{equal_says, not_equal_says}
use Rattle.pep440_range.specs.Laws.AgreeLess.{greater_or_equal_says, less_or_equal_says, less_says}
use Rattle.pep440_range.specs.Laws.AgreeGreater.{greater_says}

compared_says : (how : Comparison) (domain : Domain) (mark : ℕ) (bound v : Fields) → IsOf domain v
    → compared_outcome how domain (public_of bound) ≡ made.Spans
    → in_spans order_of (compared_spans how domain mark (public_of bound)) v ≡ compares how (public_of bound) v
compared_says Compatible domain mark bound v is makes =
    compatible_says domain mark bound.epoch bound.release bound.pre bound.post bound.dev v is makes
compared_says LessOrEqual domain mark bound v is makes =
    less_or_equal_says domain mark bound.epoch bound.release bound.pre bound.post bound.dev v is
compared_says GreaterOrEqual domain mark bound v is makes =
    greater_or_equal_says mark bound.epoch bound.release bound.pre bound.post bound.dev v
compared_says Less domain mark bound v is makes = less_says domain mark bound.epoch bound.release bound.pre bound.post bound.dev v is
compared_says Greater domain mark bound v is makes =
    greater_says domain mark bound.epoch bound.release bound.pre bound.post bound.dev v is makes

-- What a construct makes in a domain holds the versions of the domain that the construct holds of.
pub pypi_agrees : (domain : Domain) (mark : ℕ) (construct : Construct) (v : Fields) → IsVersion v → IsOf domain v
    → outcome domain construct ≡ made.Spans
    → in_spans order_of (made_spans domain mark construct) v ≡ holds construct v
pypi_agrees domain mark (Compares how bound) v version is makes = compared_says how domain mark bound v is makes
pypi_agrees domain mark (Equal bound) v version is makes = equal_says domain mark bound bound.local v refl is
pypi_agrees domain mark (NotEqual bound) v version is makes = not_equal_says domain mark bound bound.local v refl is
pypi_agrees domain mark (Within r) v version is makes = within_says domain mark r.epoch r.release v is makes
pypi_agrees domain mark (NotWithin r) v version is makes = not_within_says domain mark r.epoch r.release v is makes
pypi_agrees domain mark (Identical text) v version is makes = cc makes
