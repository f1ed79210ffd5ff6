use Rattle.std.proofs.Common.{◌≡◌, ◌∙◌, true, [], ap, refl, inl, rules}
use Rattle.vx_lines.proofs.Calls.{succeeds_then, fails_then}
use Rattle.vx_lines.proofs.Runs.{begun, front_at_start, after_write, write_fails}
use Rattle.vx_lines.proofs.Turns.{found, smaller, front_of, gave, ends, not_failed}
use Rattle.vx_lines.proofs.Outputs.{ran}
use Rattle.vx_lines.specs.declared.loop_end.LoopEnd.TheVariants.{NoMemory, WriteFault}
use Rattle.vx_lines.specs.Lines.{stays_open}
use Rattle.vx_lines.specs.Steps.Answers.{end_with}
use Rattle.vx_lines.proofs.answering.answer_lines.Goals as goal

pub returns-in_default-clause-ran : goal.returns-in_default-clause-ran
returns-in_default-clause-ran g c = ran _ _ _ _ _ _ _ NoMemory (front_at_start _ _ _ _ c.requires.some)

pub loop-gathered-init : goal.loop-gathered-init
loop-gathered-init g c =
    let lines = c.in-Ok.ensures in (
      rw c.new-gathered.ensures (begun _ _ c.in-Ok.lines _ _ (ap (λ l. l.held) lines) (ap (λ l. l.taken) lines) (ap (λ l. l.ended) lines)),
      ap (λ l. l.is_open) lines,
      ap (λ l. l.limit) lines,
      search rules,
      search rules,
      refl,
      refl,
      ([], refl),
    )

pub returns-in-Err-clause-ran : goal.returns-in-Err-clause-ran
returns-in-Err-clause-ran g c =
    let (p, open_now, limit, below, short, reads, writes, made) = c.loop-gathered.invariant in
    let wrote = c.in-Err.ensures in
    ran _ _ _ _ _ _ _ WriteFault (write_fails _ _ c.loop-gathered.lines _ _ _ c.args.limit (rw limit at below) _ _ _ _ p wrote.front wrote.some)

pub returns-in-Err-clause-write_fails : goal.returns-in-Err-clause-write_fails
returns-in-Err-clause-write_fails g c = λ _.
    let (p, open_now, limit, below, short, reads, writes, made) = c.loop-gathered.invariant in
    fails_then g.W.Sink.write_gives _ _ _ made c.in-Err.ensures.calls

pub returns-then-not-stays_open-clause-ran : goal.returns-then-not-stays_open-clause-ran
returns-then-not-stays_open-clause-ran g c =
    let (p, open_now, limit, below, short, reads, writes, made) = c.loop-gathered.invariant in
    let wrote = c.in-Ok-write_gathered.ensures in
    let next = c.next_line-next.ensures in
    let (q, fresh) = after_write _ _ c.loop-gathered.lines _ _ _ g.W.Sink.held c.has_line.result _ _ _ _ c.write_gathered.new.gathered _ p c.has_line.ensures.whole wrote.later wrote.whole in
    rw c.loop_end.ensures
    (ran _ _ _ _ _ _ _ (end_with c.loop-gathered.is_ok c.next_line-next.result) (ends _ _ _ c.args.limit c.loop-gathered.lines c.next_line-next.new.self _ _ _ _ _ c.next_line-next.result c.write_gathered.new.gathered c.loop-gathered.is_ok q next.takes (λ e. ap g.R.Source.left (next.unread (inl e))) (next.limit ∙ limit) below limit (search rules) fresh))

pub returns-then-not-stays_open-clause-writes : goal.returns-then-not-stays_open-clause-writes
returns-then-not-stays_open-clause-writes g c = λ _.
    let (p, open_now, limit, below, short, reads, writes, made) = c.loop-gathered.invariant in
    succeeds_then g.W.Sink.write_gives _ _ _ made c.in-Ok-write_gathered.ensures.calls

pub loop-gathered-smaller : goal.loop-gathered-smaller
loop-gathered-smaller g c =
    let (p, open_now, limit, below, short, reads, writes, made) = c.loop-gathered.invariant in
    let next = c.next_line-next.ensures in
    smaller _ _ c.next_line-next.result c.loop-gathered.lines c.next_line-next.new.self _ _ (search rules) below next.limit next.takes

pub loop-gathered-preserved : goal.loop-gathered-preserved
loop-gathered-preserved g c =
    let (p, open_now, limit, below, short, reads, writes, made) = c.loop-gathered.invariant in
    let wrote = c.in-Ok-write_gathered.ensures in
    let next = c.next_line-next.ensures in
    let (q, fresh) = after_write _ _ c.loop-gathered.lines _ _ _ g.W.Sink.held c.has_line.result _ _ _ _ c.write_gathered.new.gathered _ p c.has_line.ensures.whole wrote.later wrote.whole in
    let stays : stays_open c.next_line-next.result ≡ true = search rules in
    let f = found _ _ c.next_line-next.result _ c.next_line-next.new.self stays next.takes.comes in (
      gave _ _ _ c.loop-gathered.lines c.next_line-next.new.self _ _ _ _ _ c.next_line-next.result c.write_gathered.new.gathered c.loop-gathered.is_ok q next.takes (λ e. ap g.R.Source.left (next.unread (inl e))) f next.held c.gather.new.gathered c.in-Ok-gather.ok fresh (rw c.line.ensures.line at c.in-Ok-gather.ensures),
      next.open ∙ stays,
      next.limit ∙ limit,
      f.below,
      next.held,
      next.kept (not_failed c.next_line-next.result stays) ∙ reads,
      wrote.cause.kept ∙ writes,
      succeeds_then g.W.Sink.write_gives _ _ _ made wrote.calls,
    )

pub returns-in-Err-gather-clause-ran : goal.returns-in-Err-gather-clause-ran
returns-in-Err-gather-clause-ran g c =
    let (p, open_now, limit, below, short, reads, writes, made) = c.loop-gathered.invariant in
    let wrote = c.in-Ok-write_gathered.ensures in
    let next = c.next_line-next.ensures in
    let (q, fresh) = after_write _ _ c.loop-gathered.lines _ _ _ g.W.Sink.held c.has_line.result _ _ _ _ c.write_gathered.new.gathered _ p c.has_line.ensures.whole wrote.later wrote.whole in
    let stays : stays_open c.next_line-next.result ≡ true = search rules in
    let f = found _ _ c.next_line-next.result _ c.next_line-next.new.self stays next.takes.comes in
    ran _ _ _ _ _ _ _ NoMemory (front_of _ _ _ c.loop-gathered.lines c.next_line-next.new.self _ _ _ _ _ c.next_line-next.result c.write_gathered.new.gathered c.loop-gathered.is_ok q next.takes (λ e. ap g.R.Source.left (next.unread (inl e))) c.args.limit (next.limit ∙ limit) f.below)

pub returns-in-Err-gather-clause-writes : goal.returns-in-Err-gather-clause-writes
returns-in-Err-gather-clause-writes g c = λ _.
    let (p, open_now, limit, below, short, reads, writes, made) = c.loop-gathered.invariant in
    succeeds_then g.W.Sink.write_gives _ _ _ made c.in-Ok-write_gathered.ensures.calls
