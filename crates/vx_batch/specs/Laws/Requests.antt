-- The fields of a line make one request, or none.
use Rattle.std.proofs.Common.{◌≡◌, ℕ, List, [], ◌∷◌, Option, Some, None, refl, sym, ap, ◌∙◌, if◌then◌else◌, codes}
use Rattle.std.specs.Prelude.{bytes_eq}
use Rattle.vx_batch.specs.declared.request.Request.{Request}
use Rattle.vx_batch.specs.declared.request.Request.TheVariants.{ToVers, FromVers, Canon, Has, Purl, Same, Check}
use Rattle.vx_batch.specs.Requests.{fields_of, IsAsked}

-- the request that fields make, looked up
abbrev asked_by : List (List ℕ) → Option (Request (List ℕ))
asked_by (name ∷ a ∷ []) = if bytes_eq name (codes "canon") then Some (Canon a) else if bytes_eq name (codes "purl") then Some (Purl a) else None
asked_by (name ∷ a ∷ b ∷ []) =
    if bytes_eq name (codes "from-vers") then Some (FromVers a b)
    else if bytes_eq name (codes "has") then Some (Has a b)
    else if bytes_eq name (codes "same") then Some (Same a b)
    else if bytes_eq name (codes "check") then Some (Check a b)
    else None
asked_by (name ∷ a ∷ b ∷ c ∷ []) = if bytes_eq name (codes "to-vers") then Some (ToVers a b c) else None
asked_by _ = None

asked_of : (request : Request (List ℕ)) → asked_by (fields_of request) ≡ Some request
asked_of (ToVers scheme domain range) = refl
asked_of (FromVers domain vers) = refl
asked_of (Canon vers) = refl
asked_of (Has vers version) = refl
asked_of (Purl purl) = refl
asked_of (Same first second) = refl
asked_of (Check purl vers) = refl

pub one_asked : (fields : List (List ℕ)) (a b : Option (Request (List ℕ))) → IsAsked fields a → IsAsked fields b → a ≡ b
one_asked fields None None p q = refl
one_asked fields None (Some r) p q = absurd (p r q)
one_asked fields (Some r) None p q = absurd (q r p)
one_asked fields (Some r) (Some s) p q = sym (asked_of r) ∙ ap asked_by (p ∙ sym q) ∙ asked_of s
