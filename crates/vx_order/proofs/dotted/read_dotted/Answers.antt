use Rattle.std.proofs.Common.{◌≡◌, ◌++◌, [], ◌∷◌, map, ap, sym, ◌∙◌, subst, List}
use Rattle.std.specs.List.{AllByRecursion}
use Rattle.std.specs.Option.{option_copied}
use Rattle.std.proofs.lemmas.Result.{err_from_is_err_and}
use Rattle.vx_spec.proofs.EachLaws.{each_append}
use Rattle.vx_scheme.proofs.GivingLaws.{part_faults}
use Rattle.vx_scheme.specs.declared.ident.Ident.{Ident}
use Rattle.vx_order.specs.Dotted.{dotted, pieces}
use Rattle.vx_order.specs.Identifiers.{IdentIsWithin, identifier_of}
use Rattle.vx_order.proofs.DottedMaking.{more_made, next_within}
use Rattle.vx_order.proofs.dotted.read_dotted.Goals as goal

pub returns-in_err-next : goal.returns-in_err-next
returns-in_err-next c =
    let all = map identifier_of (dotted c.args.text.now) in
    let p = err_from_is_err_and c.from_residual-in_err-next.result c.from_residual-in_err-next.ensures.1 in
    rw (p.1, p.2) (part_faults _ (next_within c.pieces.all all (option_copied c.pieces.rest) c.in-Some.more.now c.cut.result.0.now _ (ap option_copied c.in-Some.is) c.cut.ensures c.pieces.invariant.made) c.in_err-next.ensures)

pub pieces-preserved : goal.pieces-preserved
pieces-preserved c =
    let all = map identifier_of (dotted c.args.text.now) in
    let behind = option_copied c.cut.result.1 in
    let pushed : c.push.new.self ≡ c.pieces.all ++ identifier_of c.cut.result.0.now ∷ [] =
    c.in_ok-push.ensures.ok ∙ ap (λ (ident : Ident). c.pieces.all ++ ident ∷ []) c.in_ok-next.ensures.0 in
    record {
      made = ap (λ (found : List Ident). found ++ map identifier_of (pieces behind)) pushed
          ∙ more_made c.pieces.all all (option_copied c.pieces.rest) c.in-Some.more.now c.cut.result.0.now behind (ap option_copied c.in-Some.is) c.cut.ensures c.pieces.invariant.made;
      within = subst (AllByRecursion IdentIsWithin) (sym pushed) (each_append IdentIsWithin c.pieces.all (identifier_of c.cut.result.0.now ∷ []) c.pieces.invariant.within (c.in_ok-next.ensures.1, tt));
    }
