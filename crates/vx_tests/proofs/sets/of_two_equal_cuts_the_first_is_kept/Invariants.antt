use Rattle.vx_tests.proofs.sets.of_two_equal_cuts_the_first_is_kept.Given as goal

-- the counter's ledger is the one that is made here
abbrev pub ghosts-merged : goal.ghosts-merged
ghosts-merged g a = record { name = a.blank.name; parts = a.blank.parts }
