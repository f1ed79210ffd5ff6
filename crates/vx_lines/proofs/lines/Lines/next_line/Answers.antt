use Rattle.std.proofs.Common.{◌∙◌, rules, true, refl}
use Rattle.vx_lines.specs.Steps.Buffers.{reading_of}
use Rattle.vx_lines.proofs.Answered.{still_below, takes_so, takes_at}
use Rattle.vx_lines.proofs.lines.Lines.next_line.Goals as goal

pub invariant_of-self : goal.invariant_of-self
invariant_of-self g c =
    let (good, most, piece, limit, below, none) = c.self.invariant in
    let next = c.next_of-next.ensures in
    let takes = next.takes true true in (
      record {
        ordered = next.good.ordered;
        within = next.good.within;
        feed = next.good.feed;
        some = next.good.some;
        least = next.good.least;
        room = search rules;
        short = search rules;
      },
      next.sizes.most ∙ most,
      next.sizes.piece ∙ piece,
      rw next.sizes.limit limit,
      (λ e. still_below _ _ c.next_of-next.result _ (reading_of true c.next_of-next.new.b) takes.comes (rw c.stays_open-self-inside.ensures at e)),
      next.none,
    )

pub invariant_of-self-else-ne : goal.invariant_of-self-else-ne
invariant_of-self-else-ne g c =
    let (good, most, piece, limit, below, none) = c.self.invariant in
    let next = c.next_of-next.ensures in
    let takes = next.takes true true in (
      next.good,
      next.sizes.most ∙ most,
      next.sizes.piece ∙ piece,
      rw next.sizes.limit limit,
      (λ e. still_below _ _ c.next_of-next.result _ (reading_of true c.next_of-next.new.b) takes.comes (rw c.stays_open-self-inside.ensures at e)),
      next.none,
    )

pub returns-then-ne-clause-takes : goal.returns-then-ne-clause-takes
returns-then-ne-clause-takes g c =
    let (good, most, piece, limit, below, none) = c.self.invariant in
    let is = c.stays_open-self-inside.result in
    let takes = c.next_of-next.ensures.takes c.self.inside.is_open is in
    takes_so _ _ c.next_of-next.result _ (reading_of is c.next_of-next.new.b) _ _ _ (search rules)
    (record { limit = refl; held = refl; taken = refl; ended = refl })
    (takes_at _ _ _ _ _ _ _ _ _ _ most piece c.self.view_is takes)
