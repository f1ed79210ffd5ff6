use Rattle.vx_interval.proofs.part.+last_lines.Given as goal

abbrev pub decreases-last_lines : goal.decreases-last_lines
decreases-last_lines g l = l.count
