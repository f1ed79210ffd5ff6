use Rattle.vx_interval.proofs.set.Set.join.Given as goal

-- the counter's ledger is the one that is made here
abbrev pub ghosts-merge_versions : goal.ghosts-merge_versions
ghosts-merge_versions g a = record { name = a.blank.name; parts = a.blank.parts }
