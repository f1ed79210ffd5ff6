-- Rows that make no request, and the fields of lines that are cut at their tabs.
use Rattle.std.proofs.Common.{◌≡◌, ◌≢◌, ◌++◌, ℕ, List, [], ◌∷◌, Option, Some, None, sym, ap, ◌∙◌, codes, length, arith, append_assoc, ◌==◌}
use Rattle.std.proofs.lemmas.List.Splits.{length-slice_split}
use Rattle.vx_spec.specs.Marks.{IsCut}
use Rattle.vx_text.proofs.Joins.{parts_behind, split_cut}
use Rattle.vx_batch.specs.declared.request.Request.{Request}
use Rattle.vx_batch.specs.declared.request.Request.TheVariants.{ToVers, FromVers, Canon, Has, Purl, Same, Check}
use Rattle.vx_batch.specs.Fields.{fields_of_line, tab}
use Rattle.vx_batch.specs.Requests.{fields_of}

-- one field is no request
pub one_field : (a : List ℕ) (request : Request (List ℕ)) → fields_of request ≢ a ∷ []
one_field a (ToVers scheme domain range) e = cc e
one_field a (FromVers domain vers) e = cc e
one_field a (Canon vers) e = cc e
one_field a (Has vers version) e = cc e
one_field a (Purl purl) e = cc e
one_field a (Same first second) e = cc e
one_field a (Check purl vers) e = cc e

-- what is not two to four fields is no request
pub other_fields : (fields : List (List ℕ)) → ((a b c d : List ℕ) → (fields ≢ a ∷ []) × (fields ≢ a ∷ b ∷ []) × (fields ≢ a ∷ b ∷ c ∷ []) × (fields ≢ a ∷ b ∷ c ∷ d ∷ []))
    → (request : Request (List ℕ)) → fields_of request ≢ fields
other_fields fields none (ToVers scheme domain range) e = (none (codes "to-vers") scheme domain range).3 (sym e)
other_fields fields none (FromVers domain vers) e = (none (codes "from-vers") domain vers []).2 (sym e)
other_fields fields none (Canon vers) e = (none (codes "canon") vers [] []).1 (sym e)
other_fields fields none (Has vers version) e = (none (codes "has") vers version []).2 (sym e)
other_fields fields none (Purl purl) e = (none (codes "purl") purl [] []).1 (sym e)
other_fields fields none (Same first second) e = (none (codes "same") first second []).2 (sym e)
other_fields fields none (Check purl vers) e = (none (codes "check") purl vers []).2 (sym e)

-- a line that is cut has its front for first field, and those behind for the others
pub field_last : (line front : List ℕ) → IsCut tab line front None → fields_of_line line ≡ front ∷ []
field_last line front cut = split_cut tab line front None cut

pub field_more : (line front rest : List ℕ) → IsCut tab line front (Some rest) → fields_of_line line ≡ front ∷ fields_of_line rest
field_more line front rest cut = split_cut tab line front (Some rest) cut

-- five fields or more are no row
pub five_fields : (fields rest : List (List ℕ)) (p q r s : List ℕ) → fields ≡ p ∷ q ∷ r ∷ s ∷ rest → rest ≢ [] → (a b c d : List ℕ)
    → (fields ≢ a ∷ []) × (fields ≢ a ∷ b ∷ []) × (fields ≢ a ∷ b ∷ c ∷ []) × (fields ≢ a ∷ b ∷ c ∷ d ∷ [])
five_fields fields rest p q r s e some a b c d = (λ f. cc (e, f), λ f. cc (e, f), λ f. cc (e, f), λ f. some (cc (e, f)))

-- a line has a field at least
pub some_field : (line : List ℕ) → fields_of_line line ≢ []
some_field line none = omega (arith, ap length none, length-slice_split (λ b. b == tab) line)

-- one field more, and those behind
pub more_fields : (text front : List ℕ) (behind : Option (List ℕ)) (found all : List (List ℕ)) → IsCut tab text front behind → found ++ parts_behind tab (Some text) ≡ all
    → (found ++ front ∷ []) ++ parts_behind tab behind ≡ all
more_fields text front behind found all cut e =
    append_assoc found (front ∷ []) (parts_behind tab behind) ∙ ap (λ (parts : List (List ℕ)). found ++ parts) (sym (split_cut tab text front behind cut)) ∙ e
