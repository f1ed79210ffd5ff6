-- The fields of a line, one for each tab more.
use Rattle.std.proofs.Common.{◌≡◌, ◌∙◌, ◌∷◌, [], ap, List, ℕ, Option, Some, None, subst}
use Rattle.std.specs.Option.{option_copied}
use Rattle.vx_spec.specs.Marks.{IsCut}
use Rattle.vx_batch.specs.Fields.{fields_of_line, tab}
use Rattle.vx_batch.proofs.RowLaws.{field_last, field_more, five_fields, some_field}
use Rattle.vx_batch.proofs.row.Row.of_line.Goals as goal

-- a part that ends the line, and one behind which more stands
last : (line front : List ℕ) (behind : Option (List ℕ)) → behind ≡ None → IsCut tab line front behind → fields_of_line line ≡ front ∷ []
last line front behind e cut = field_last line front (subst (IsCut tab line front) e cut)

more : (line front rest : List ℕ) (behind : Option (List ℕ)) → behind ≡ Some rest → IsCut tab line front behind → fields_of_line line ≡ front ∷ fields_of_line rest
more line front rest behind e cut = field_more line front rest (subst (IsCut tab line front) e cut)

pub returns-in_default : goal.returns-in_default
returns-in_default c = last _ _ _ (ap option_copied c.in_default.is) c.cut.ensures

pub returns-in_default-behind : goal.returns-in_default-behind
returns-in_default-behind c =
    more _ _ _ _ (ap option_copied c.in-Some.is) c.cut.ensures ∙ ap (λ (fields : List (List ℕ)). c.cut.result.0.now ∷ fields) (last _ _ _ (ap option_copied c.in_default-behind.is) c.cut-2.ensures)

pub returns-in_default-behind-2 : goal.returns-in_default-behind-2
returns-in_default-behind-2 c =
    more _ _ _ _ (ap option_copied c.in-Some.is) c.cut.ensures
    ∙ ap (λ (fields : List (List ℕ)). c.cut.result.0.now ∷ fields) (more _ _ _ _ (ap option_copied c.in-Some-behind.is) c.cut-2.ensures
    ∙ ap (λ (fields : List (List ℕ)). c.cut-2.result.0.now ∷ fields) (last _ _ _ (ap option_copied c.in_default-behind-2.is) c.cut-3.ensures))

pub returns-in_default-None : goal.returns-in_default-None
returns-in_default-None c =
    more _ _ _ _ (ap option_copied c.in-Some.is) c.cut.ensures
    ∙ ap (λ (fields : List (List ℕ)). c.cut.result.0.now ∷ fields) (more _ _ _ _ (ap option_copied c.in-Some-behind.is) c.cut-2.ensures
    ∙ ap (λ (fields : List (List ℕ)). c.cut-2.result.0.now ∷ fields) (more _ _ _ _ (ap option_copied c.in-Some-behind-2.is) c.cut-3.ensures
    ∙ ap (λ (fields : List (List ℕ)). c.cut-3.result.0.now ∷ fields) (last _ _ _ (ap option_copied c.in_default-None.is-1) c.cut-4.ensures)))

pub returns-in_default-Some : goal.returns-in_default-Some
returns-in_default-Some c =
    five_fields _ (fields_of_line c.in_default-Some.field-0-1.now) _ _ _ _ (
    more _ _ _ _ (ap option_copied c.in-Some.is) c.cut.ensures
    ∙ ap (λ (fields : List (List ℕ)). c.cut.result.0.now ∷ fields) (more _ _ _ _ (ap option_copied c.in-Some-behind.is) c.cut-2.ensures
    ∙ ap (λ (fields : List (List ℕ)). c.cut-2.result.0.now ∷ fields) (more _ _ _ _ (ap option_copied c.in-Some-behind-2.is) c.cut-3.ensures
    ∙ ap (λ (fields : List (List ℕ)). c.cut-3.result.0.now ∷ fields) (more _ _ _ _ (ap option_copied c.in_default-Some.is-1) c.cut-4.ensures))))
    (some_field c.in_default-Some.field-0-1.now)
