use Rattle.vx_line.proofs.MergedLaws.{merged_unique}
use Rattle.vx_interval.proofs.SpanLaws.{cut_total}
use Rattle.vx_interval.proofs.laws.merged_unique.Goals as goal

pub returns : goal.returns
returns g c both a_starts b_starts a b cuts others s t m n = merged_unique (cut_total g.met.C.Compares.total) both a_starts a b_starts b cuts others s t m n
