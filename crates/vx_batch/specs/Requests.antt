-- What a line asks, by its fields: a command and the fields that it takes.
use Rattle.std.specs.Prelude.{◌≡◌, ◌≢◌, ℕ, List, [], ◌∷◌, Option, Some, None, codes}
use Rattle.vx_batch.specs.declared.request.Request.{Request}
use Rattle.vx_batch.specs.declared.request.Request.TheVariants.{ToVers, FromVers, Canon, Has, Purl, Same, Check}

-- The table of commands: the fields of each request, the command's name first.
abbrev pub fields_of : Request (List ℕ) → List (List ℕ)
fields_of (ToVers scheme domain range) = codes "to-vers" ∷ scheme ∷ domain ∷ range ∷ []
fields_of (FromVers domain vers) = codes "from-vers" ∷ domain ∷ vers ∷ []
fields_of (Canon vers) = codes "canon" ∷ vers ∷ []
fields_of (Has vers version) = codes "has" ∷ vers ∷ version ∷ []
fields_of (Purl purl) = codes "purl" ∷ purl ∷ []
fields_of (Same first second) = codes "same" ∷ first ∷ second ∷ []
fields_of (Check purl vers) = codes "check" ∷ purl ∷ vers ∷ []

-- the fields make this request, or none
abbrev pub IsAsked : List (List ℕ) → Option (Request (List ℕ)) → Type 0
IsAsked fields None = (request : Request (List ℕ)) → fields_of request ≢ fields
IsAsked fields (Some request) = fields_of request ≡ fields

-- the request whose fields are the texts of these
abbrev pub with_texts : {F : Type 0} → (F → List ℕ) → Request F → Request (List ℕ)
with_texts text (ToVers scheme domain range) = ToVers (text scheme) (text domain) (text range)
with_texts text (FromVers domain vers) = FromVers (text domain) (text vers)
with_texts text (Canon vers) = Canon (text vers)
with_texts text (Has vers version) = Has (text vers) (text version)
with_texts text (Purl purl) = Purl (text purl)
with_texts text (Same first second) = Same (text first) (text second)
with_texts text (Check purl vers) = Check (text purl) (text vers)

abbrev pub request_texts : {F : Type 0} → (F → List ℕ) → Option (Request F) → Option (Request (List ℕ))
request_texts text None = None
request_texts text (Some request) = Some (with_texts text request)
