use Rattle.std.proofs.Common.{◌∙◌, ◌<◌, ap, arith, false, length, sym, take}
use Rattle.vx_vers.specs.Meaning.{closes_first, kind, opens_next}
use Rattle.vx_simplify.specs.Simplified.{is_dropped}
use Rattle.vx_simplify.proofs.Keeping.{all_kept, one_dropped, one_kept, swapped_behind}
use Rattle.vx_simplify.proofs.simplifying.move_to_front.Goals as goal
use Rattle.vx_simplify.proofs.simplifying.move_to_front.Goals.{then-not-is_superfluous, else-not-is_superfluous}

pub loop-i-preserved : goal.loop-i-preserved
loop-i-preserved g c =
    let items = c.loop-i.items in
    let count = c.loop-i.count in
    let i = c.loop-i.i in
    let x = c.index-items-i.result in
    let dropped = c.is_superfluous.result in
    let less : i < length items = omega arith in
    let same = ap kind (sym c.index-items-i.is) in
    let opens = c.opens_after-opens.ensures ∙ ap (opens_next c.loop-i.opens) same in
    let test = c.is_superfluous.ensures ∙ ap (λ k. is_dropped c.loop-i.opens k c.closes_behind-closes.result) same ∙ ap (is_dropped c.loop-i.opens (kind x)) c.closes_behind-closes.ensures in
    elim c.if-not-is_superfluous.branch [
      | then-not-is_superfluous w ↦ record {
        whole = rw (w.items-is, w.count-is, opens)
            (one_kept kind items w.move_down.new.items _ count i x c.loop-i.opens dropped less c.loop-i.invariant.within c.index-items-i.is test w.if-not-is_superfluous.true w.move_down.ensures.after c.loop-i.invariant.whole);
        closes = rw w.items-is
            (c.closes_behind-closes.ensures ∙ ap (λ list. closes_first kind list false) (sym (swapped_behind items w.move_down.new.items count i c.loop-i.invariant.within less w.move_down.ensures.after)));
        within = omega arith;
      }
      | else-not-is_superfluous w ↦ record {
        whole = rw (w.items-is, w.count-is, opens)
            (one_dropped kind items _ count i x c.loop-i.opens dropped less c.index-items-i.is test w.if-not-is_superfluous.false c.loop-i.invariant.whole);
        closes = rw w.items-is c.closes_behind-closes.ensures;
        within = omega arith;
      }
    ]

pub returns : goal.returns
returns g c = all_kept kind (take c.loop-i.count c.loop-i.items) c.loop-i.items c.args.items.now c.loop-i.opens c.loop-i.i (omega arith) c.loop-i.invariant.whole
