-- The entries so far, with those of the rest, are the entries of the text.
use Rattle.std.proofs.Common.{◌≡◌, ◌++◌, length}
use Rattle.std.specs.List.{AllByRecursion}
use Rattle.vx_order.specs.Scanning.{scanned}
use Rattle.vx_order.proofs.scanning.scan_text.Given as goal

abbrev pub invariant-entries : goal.invariant-entries
invariant-entries g l =
    let scan = g.S.Scan in
    (l.entries ++ scanned scan.first scan.behind l.rest ≡ scanned scan.first scan.behind l.text) × AllByRecursion scan.IsWithin l.entries

abbrev pub decreases-entries : goal.decreases-entries
decreases-entries g l = length l.rest
