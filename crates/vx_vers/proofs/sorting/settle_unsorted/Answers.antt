use Rattle.std.proofs.Common.{◌∙◌, ap, refl, sym, subst}
use Rattle.std.specs.Prelude.{IsPermutation}
use Rattle.vx_vers.specs.Sorted.{IsSorted}
use Rattle.vx_vers.specs.Steps.Numbering.{least_twice}
use Rattle.vx_vers.proofs.SettleLaws.{settled_apart, settled_same, settled_twice}
use Rattle.vx_vers.proofs.sorting.settle_unsorted.Goals as goal

pub put_back-requires-clause-sorted : goal.put_back-requires-clause-sorted
put_back-requires-clause-sorted g c =
    let order = g.S.Scheme.order in
    let items = c.in_ok-numbered.numbered in
    let sorted = c.sort_numbered-sorted.result.items in
    let taken = c.in_ok-numbered.ensures.taken in
    let same = subst (λ xs. IsPermutation xs sorted) c.into_vec.ensures c.sort_numbered-sorted.ensures.same in
    settled_apart order g.met.S.Scheme.total c.args.list items sorted taken same c.sort_numbered-sorted.ensures.sorted
    (ap (least_twice order) (sym c.as_slice.ensures.value) ∙ sym c.first_twice.ensures ∙ c.in-None.is)

pub returns-in-Some : goal.returns-in-Some
returns-in-Some g c = λ _.
    let order = g.S.Scheme.order in
    let items = c.in_ok-numbered.numbered in
    let sorted = c.sort_numbered-sorted.result.items in
    let taken = c.in_ok-numbered.ensures.taken in
    let same = subst (λ xs. IsPermutation xs sorted) c.into_vec.ensures c.sort_numbered-sorted.ensures.same in (
      c.in-Some.number,
      refl,
      settled_twice order g.met.S.Scheme.total c.args.list items sorted c.in-Some.number taken same c.sort_numbered-sorted.ensures.sorted
          (ap (least_twice order) (sym c.as_slice.ensures.value) ∙ sym c.first_twice.ensures ∙ c.in-Some.is),
    )

pub returns-in_ok-put_back-in-None : goal.returns-in_ok-put_back-in-None
returns-in_ok-put_back-in-None g c =
    let order = g.S.Scheme.order in
    let items = c.in_ok-numbered.numbered in
    let sorted = c.sort_numbered-sorted.result.items in
    let taken = c.in_ok-numbered.ensures.taken in
    let same = subst (λ xs. IsPermutation xs sorted) c.into_vec.ensures c.sort_numbered-sorted.ensures.same in
    let is = c.in_ok-put_back-in-None.ensures in (
      subst (IsPermutation c.args.list) (sym is) (settled_same order g.met.S.Scheme.total c.args.list items sorted taken same),
      subst (IsSorted order) (sym is) (settled_apart order g.met.S.Scheme.total c.args.list items sorted taken same c.sort_numbered-sorted.ensures.sorted
          (ap (least_twice order) (sym c.as_slice.ensures.value) ∙ sym c.first_twice.ensures ∙ c.in-None.is)),
    )
