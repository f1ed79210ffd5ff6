-- How many bytes a written text has.
use Rattle.std.proofs.Common.{◌≡◌, ◌++◌, ℕ, List, ◌∷◌, length, refl, ap, ◌∙◌, arith, length-append, Option, Some, None}
use Rattle.vx_spec.specs.Marks.{marked}
use Rattle.purl_core.specs.Grammar.{Parts, IsPurlWritten}
use Rattle.purl_core.specs.Places.{with_sign}
use Rattle.purl_core.specs.Steps.Placing.{size}

marked_size : (mark : ℕ) (x : Option (List ℕ)) → length (marked mark x) ≡ with_sign x
marked_size mark None = refl
marked_size mark (Some text) = omega arith

-- the bytes of a text that is written of parts are those of the parts
pub written_size : (text : List ℕ) (p : Parts) → IsPurlWritten text p → length text ≡ size p
written_size text p w =
    let a = ap length w.ended.subpath_cut.joined ∙ length-append w.ended.front (marked 35 p.subpath) in
    let b = ap length w.ended.qualifiers_cut.joined ∙ length-append w.body (marked 63 p.qualifiers) in
    let c = ap length w.scheme_is.joined ∙ length-append p.scheme (58 ∷ w.rest) in
    let d = ap length w.type_is.joined ∙ length-append p.slashes (p.kind ++ 47 ∷ w.behind) in
    let e = length-append p.kind (47 ∷ w.behind) in
    let f = ap length w.version_cut.joined ∙ length-append p.path (marked 64 p.version) in
    omega (arith, a, b, c, d, e, f, marked_size 35 p.subpath, marked_size 63 p.qualifiers, marked_size 64 p.version)
