use Rattle.std.proofs.Common.{sym, ap, ◌∷◌, [], map, subst}
use Rattle.std.specs.List.{AllByRecursion, slice_split}
use Rattle.std.specs.Option.{option_copied}
use Rattle.std.proofs.lemmas.Result.{err_from_is_err_and}
use Rattle.vx_spec.proofs.EachLaws.{each_append}
use Rattle.vx_scheme.proofs.GivingLaws.{part_faults}
use Rattle.pep440_scheme.specs.Version.{IsSmallLocal}
use Rattle.pep440_scheme.specs.Spelling.{is_local_text, is_separator, local_of}
use Rattle.pep440_scheme.proofs.PartLaws.{part_has, part_made, part_passes}
use Rattle.pep440_scheme.proofs.spelling.locals_of.Goals as goal

pub local-requires : goal.local-requires
local-requires c =
    (part_passes is_separator (option_copied c.parts.rest) c.in-Some.more.now c.cut_part.result.0.now (option_copied c.cut_part.result.1) (ap option_copied c.in-Some.is) c.cut_part.ensures.part c.cut_part.ensures.behind is_local_text c.parts.invariant.form).0

pub returns-in_err-next : goal.returns-in_err-next
returns-in_err-next c =
    let all = map local_of (slice_split is_separator c.args.label.now) in
    let p = err_from_is_err_and c.from_residual-in_err-next.result c.from_residual-in_err-next.ensures.1 in
    rw (p.1, p.2) (part_faults _ (part_has is_separator (option_copied c.parts.rest) c.in-Some.more.now c.cut_part.result.0.now (option_copied c.cut_part.result.1) (ap option_copied c.in-Some.is) c.cut_part.ensures.part c.cut_part.ensures.behind local_of c.parts.all all c.parts.invariant.made IsSmallLocal) c.in_err-next.ensures)

pub parts-preserved : goal.parts-preserved
parts-preserved c =
    let all = map local_of (slice_split is_separator c.args.label.now) in
    let behind = option_copied c.cut_part.result.1 in
    let is = ap option_copied c.in-Some.is in
    record {
      made = part_made is_separator (option_copied c.parts.rest) c.in-Some.more.now c.cut_part.result.0.now behind is c.cut_part.ensures.part c.cut_part.ensures.behind local_of c.parts.all all c.parts.invariant.made c.push.new.self _ c.in_ok-push.ensures.ok c.in_ok-next.ensures.0;
      form = (part_passes is_separator (option_copied c.parts.rest) c.in-Some.more.now c.cut_part.result.0.now behind is c.cut_part.ensures.part c.cut_part.ensures.behind is_local_text c.parts.invariant.form).1;
      within = subst (AllByRecursion IsSmallLocal) (sym c.in_ok-push.ensures.ok) (each_append IsSmallLocal c.parts.all (c.in_ok-next.next ∷ []) c.parts.invariant.within (rw c.in_ok-next.ensures.0 c.in_ok-next.ensures.1, tt));
    }
