use Rattle.vx_interval.proofs.set.Set.from_bounds.Given as goal

-- the counter's ledger is the one that is made here
abbrev pub ghosts-join_versions : goal.ghosts-join_versions
ghosts-join_versions g a = record { name = a.blank.name; parts = a.blank.parts }
