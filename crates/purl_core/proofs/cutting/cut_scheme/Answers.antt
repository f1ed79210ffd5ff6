use Rattle.std.proofs.Common.{sym, ◌∙◌, ap, map}
use Rattle.std.specs.Char.{to_ascii_lowercase}
use Rattle.purl_core.proofs.PartLaws.{scheme_cut}
use Rattle.purl_core.proofs.cutting.cut_scheme.Goals as goal

pub returns-in_default : goal.returns-in_default
returns-in_default c = λ scheme rest h. let e = scheme_cut h (rw c.in_default.is at c.cut_bytes.ensures) in cc (e.1)

pub returns-else-eq_ignore_ascii_case : goal.returns-else-eq_ignore_ascii_case
returns-else-eq_ignore_ascii_case c = λ scheme rest h.
    let e = scheme_cut h c.cut_bytes.ensures in
    let t = c.eq_ignore_ascii_case.ensures.test.1 (ap (map to_ascii_lowercase) (sym e.0) ∙ h.form) in
    cc (t, c.if-eq_ignore_ascii_case.false)
