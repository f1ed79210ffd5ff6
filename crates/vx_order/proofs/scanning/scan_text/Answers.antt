use Rattle.std.proofs.Common.{rules, ◌≢◌, []}
use Rattle.std.proofs.lemmas.Result.{err_from_is_err_and}
use Rattle.vx_spec.proofs.EachLaws.{each_append}
use Rattle.vx_scheme.proofs.GivingLaws.{part_faults}
use Rattle.vx_order.specs.Laws.Scanning.{behind_shorter, first_within, one_more}
use Rattle.vx_order.proofs.scanning.scan_text.Goals as goal

pub returns-in_err-rest : goal.returns-in_err-rest
returns-in_err-rest g c =
    let scan = g.S.Scan in
    let some : c.entries.rest.now ≢ [] = search rules in
    let p = err_from_is_err_and c.from_residual-in_err-rest.result c.from_residual-in_err-rest.ensures.1 in
    rw (p.1, p.2) (part_faults _ (first_within scan.first scan.behind g.met.S.Scan.takes_a_byte scan.IsWithin c.entries.entries _ c.entries.rest.now some c.entries.invariant.0) c.in_err-rest.ensures.err)

pub entries-smaller : goal.entries-smaller
entries-smaller g c =
    let some : c.entries.rest.now ≢ [] = search rules in
    rw c.in_ok-rest.ensures.rest (behind_shorter g.S.Scan.first g.S.Scan.behind g.met.S.Scan.takes_a_byte c.entries.rest.now some)

pub entries-preserved : goal.entries-preserved
entries-preserved g c =
    let scan = g.S.Scan in
    let some : c.entries.rest.now ≢ [] = search rules in
    rw (c.in_ok-rest.ensures.ok, c.in_ok-rest.ensures.rest) (
      one_more scan.first scan.behind g.met.S.Scan.takes_a_byte c.entries.entries _ c.entries.rest.now some c.entries.invariant.0,
      each_append scan.IsWithin c.entries.entries (scan.first c.entries.rest.now) c.entries.invariant.1 c.in_ok-rest.ensures.within,
    )
