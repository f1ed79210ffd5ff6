use Rattle.std.proofs.Common.{◌≡◌, ◌++◌, ◌∷◌, [], ◌∙◌, ap, map, List, ℕ}
use Rattle.std.proofs.lemmas.Result.{on_err_weaker, on_ok_weaker}
use Rattle.purl_core.specs.Value.{Package, pair_view}
use Rattle.purl_core.specs.Steps.Written.{signed_pairs, signed_segments}
use Rattle.purl_core.proofs.Written.{grown_by, grown_five, grown_then, whole_text}
use Rattle.purl_core.proofs.writing.push_purl.Goals as goal

pub returns-clause-err : goal.returns-clause-err
returns-clause-err c =
    on_err_weaker c.push_segments.result
    (λ h. grown_then (grown_five _ _ _ _ _ _ _ c.in_ok-push_body.ensures.ok) (grown_then (grown_by _ c.in_ok-push_pairs.ensures.ok) h))
    c.push_segments.ensures.err

pub returns-clause-ok : goal.returns-clause-ok
returns-clause-ok c =
    let purl = c.args.purl.now in
    let pairs : map pair_view c.as_slice.result.now ≡ purl.qualifiers = ap (map pair_view) c.as_slice.ensures.items ∙ ap (λ (p : Package). p.qualifiers) c.purl.view_is in
    let subpath : c.as_slice-2.result.now ≡ purl.subpath = c.as_slice-2.ensures ∙ ap (λ (p : Package). p.subpath) c.purl.view_is in
    let second = c.in_ok-push_pairs.ensures.ok ∙ ap (λ (l : List (List ℕ × List ℕ)). c.push_body.new.out ++ signed_pairs (63 ∷ []) l) pairs in
    on_ok_weaker c.push_segments.result
    (λ h. whole_text c.args.out.now c.push_body.new.out c.push_pairs.new.out c.push_segments.new.out purl c.in_ok-push_body.ensures.ok second
    (h ∙ ap (λ (l : List (List ℕ)). c.push_pairs.new.out ++ signed_segments (35 ∷ []) l) subpath))
    c.push_segments.ensures.ok
