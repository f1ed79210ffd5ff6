-- One field more, and the fields of what is left.
use Rattle.std.proofs.Common.{◌≡◌, ◌<◌, ◌++◌, ◌∙◌, ap, sym, subst, List, ℕ, [], ◌∷◌, Option, Some, None, arith, length, length-append, append-nil}
use Rattle.std.specs.Option.{option_copied}
use Rattle.vx_spec.specs.Marks.{IsCut}
use Rattle.vx_text.proofs.Joins.{parts_behind}
use Rattle.vx_batch.specs.Fields.{fields_of_line, tab}
use Rattle.vx_batch.proofs.RowLaws.{more_fields}
use Rattle.vx_batch.proofs.fields.split.Invariants.{left}
use Rattle.vx_batch.proofs.fields.split.Goals as goal

-- behind the tab stand fewer bytes
fewer_left : (text front : List ℕ) (behind : Option (List ℕ)) → IsCut tab text front behind → left behind < left (Some text)
fewer_left text front None cut = omega arith
fewer_left text front (Some rest) cut = omega (arith, ap length cut.joined, length-append front (tab ∷ rest))

pub fields-preserved : goal.fields-preserved
fields-preserved c =
    let is : option_copied c.fields.rest ≡ Some c.in-Some.more.now = ap option_copied c.in-Some.is in
    let behind = option_copied c.cut.result.1 in
    let pushed : c.push.new.self ≡ c.fields.fields ++ c.cut.result.0.now ∷ [] = c.in_ok-push.ensures.ok ∙ ap (λ (t : List ℕ). c.fields.fields ++ t ∷ []) c.in_ok-copy_of.ensures in
    ap (λ (found : List (List ℕ)). found ++ parts_behind tab behind) pushed
    ∙ more_fields c.in-Some.more.now c.cut.result.0.now behind c.fields.fields (fields_of_line c.args.line.now) c.cut.ensures
    (subst (λ (rest : Option (List ℕ)). c.fields.fields ++ parts_behind tab rest ≡ fields_of_line c.args.line.now) is c.fields.invariant)

pub fields-smaller : goal.fields-smaller
fields-smaller c =
    subst (λ (rest : Option (List ℕ)). left (option_copied c.cut.result.1) < left rest) (sym (ap option_copied c.in-Some.is))
    (fewer_left c.in-Some.more.now c.cut.result.0.now (option_copied c.cut.result.1) c.cut.ensures)

pub returns : goal.returns
returns c =
    sym (append-nil c.fields.fields)
    ∙ subst (λ (rest : Option (List ℕ)). c.fields.fields ++ parts_behind tab rest ≡ fields_of_line c.args.line.now) (ap option_copied c.in_default.is) c.fields.invariant
