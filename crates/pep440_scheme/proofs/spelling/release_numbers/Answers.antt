use Rattle.std.proofs.Common.{sym, ap, ◌∷◌, [], map, subst}
use Rattle.std.specs.List.{AllByRecursion, slice_split}
use Rattle.std.specs.Option.{option_copied}
use Rattle.std.proofs.lemmas.Bool.{and_parts}
use Rattle.std.proofs.lemmas.Result.{err_from_is_err_and}
use Rattle.vx_spec.proofs.EachLaws.{each_append}
use Rattle.vx_spec.specs.Numerals.{is_numeral, value}
use Rattle.vx_scheme.proofs.GivingLaws.{part_faults}
use Rattle.pep440_scheme.specs.Version.{IsSmall}
use Rattle.pep440_scheme.specs.Steps.Apart.{is_dot}
use Rattle.pep440_scheme.proofs.PartLaws.{part_has, part_made, part_passes}
use Rattle.pep440_scheme.proofs.spelling.release_numbers.Goals as goal

pub number_of-requires : goal.number_of-requires
number_of-requires c =
    (and_parts _ _ (part_passes is_dot (option_copied c.parts.rest) c.in-Some.more.now c.cut_part.result.0.now (option_copied c.cut_part.result.1) (ap option_copied c.in-Some.is) c.cut_part.ensures.part c.cut_part.ensures.behind is_numeral c.parts.invariant.form).0).1

pub returns-in_err-number : goal.returns-in_err-number
returns-in_err-number c =
    let all = map value (slice_split is_dot c.args.text.now) in
    let p = err_from_is_err_and c.from_residual-in_err-number.result c.from_residual-in_err-number.ensures.1 in
    rw (p.1, p.2) (part_faults _ (part_has is_dot (option_copied c.parts.rest) c.in-Some.more.now c.cut_part.result.0.now (option_copied c.cut_part.result.1) (ap option_copied c.in-Some.is) c.cut_part.ensures.part c.cut_part.ensures.behind value c.parts.numbers all c.parts.invariant.made IsSmall) c.in_err-number.ensures.gives)

pub parts-preserved : goal.parts-preserved
parts-preserved c =
    let all = map value (slice_split is_dot c.args.text.now) in
    let behind = option_copied c.cut_part.result.1 in
    let is = ap option_copied c.in-Some.is in
    record {
      made = part_made is_dot (option_copied c.parts.rest) c.in-Some.more.now c.cut_part.result.0.now behind is c.cut_part.ensures.part c.cut_part.ensures.behind value c.parts.numbers all c.parts.invariant.made c.push.new.self _ c.in_ok-push.ensures.ok c.in_ok-number.ensures.gives.0;
      form = (part_passes is_dot (option_copied c.parts.rest) c.in-Some.more.now c.cut_part.result.0.now behind is c.cut_part.ensures.part c.cut_part.ensures.behind is_numeral c.parts.invariant.form).1;
      within = subst (AllByRecursion IsSmall) (sym c.in_ok-push.ensures.ok) (each_append IsSmall c.parts.numbers (c.in_ok-number.number ∷ []) c.parts.invariant.within (rw c.in_ok-number.ensures.gives.0 c.in_ok-number.ensures.gives.1, tt));
    }
