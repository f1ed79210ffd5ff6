use Rattle.std.proofs.Common.{◌∙◌, ap, sym, codes, map}
use Rattle.std.proofs.lemmas.Slice.Eq.{bytes_eq-Decides}
use Rattle.purl_core.specs.Value.{Package, pair_view}
use Rattle.purl_types.proofs.Values.{epoch_found}
use Rattle.purl_types.proofs.candidates.epoch_of.Goals as goal

pub returns-then-eq : goal.returns-then-eq
returns-then-eq c =
    epoch_found c.args.purl.now c.value_of.result c.as_slice.result.now
    (sym (c.as_str.ensures ∙ ap (λ (p : Package). p.kind) c.purl.view_is) ∙ (bytes_eq-Decides c.as_str.result.now (codes "rpm")).0 (sym c.if-eq.ensures))
    (ap (map pair_view) c.as_slice.ensures.items ∙ ap (λ (p : Package). p.qualifiers) c.purl.view_is) c.value_of.ensures.some c.value_of.ensures.none
