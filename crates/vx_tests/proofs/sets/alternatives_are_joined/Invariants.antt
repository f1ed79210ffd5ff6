use Rattle.vx_tests.proofs.sets.alternatives_are_joined.Given as goal

-- the counter's ledger is the one that is made here
abbrev pub ghosts-joined : goal.ghosts-joined
ghosts-joined g a = record { name = a.blank.name; parts = a.blank.parts }
