use Rattle.std.proofs.Common.{take, ◌+◌, ◌∙◌, drop, arith, refl, Some, subst, sym}
use Rattle.std.proofs.lemmas.List.{take_rest}
use Rattle.vx_lines.specs.Steps.Buffers.{held_of, IsFeedOf}
use Rattle.vx_lines.proofs.Held.{behind_held, room_behind}
use Rattle.vx_lines.proofs.buffers.take_front.Goals as goal

pub returns-in-Some-clause-good : goal.returns-in-Some-clause-good
returns-in-Some-clause-good c =
    let b = c.args.b.now in
    let count = c.in-Some.count in
    let feed = rw c.in-Some.is at c.requires.feed in
    let room = room_behind b.chunk.items b.from b.to count c.requires.ordered c.requires.within feed.0 in
    record {
      ordered = omega (arith, room);
      within = c.requires.within;
      feed = subst (λ bytes. IsFeedOf bytes c.first_feed-b.result)
          (rw c.deref.ensures.value (take_rest (held_of b) (count + 1) ∙ sym (behind_held b.chunk.items b.from b.to count room)))
          c.first_feed-b.ensures;
      some = c.requires.some;
      least = c.requires.least;
      room = c.keep.ensures.room;
      short = c.keep.ensures.short;
    }

pub returns-in-Some-clause-front : goal.returns-in-Some-clause-front
returns-in-Some-clause-front c =
    let b = c.args.b.now in
    let count = c.in-Some.count in
    let feed = rw c.in-Some.is at c.requires.feed in
    let room = room_behind b.chunk.items b.from b.to count c.requires.ordered c.requires.within feed.0 in
    record {
      part = take count (held_of b);
      behind = Some (drop (count + 1) (held_of b));
      cut = feed.1;
      rest = behind_held b.chunk.items b.from b.to count room;
      whole = refl;
      kept = λ so_far k. rw c.deref.ensures.value at (c.keep.ensures.kept so_far k);
    }
