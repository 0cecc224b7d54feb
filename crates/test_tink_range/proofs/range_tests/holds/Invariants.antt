use Rattle.test_tink_range.proofs.range_tests.holds.Given as goal

abbrev pub ghosts-answered_by : goal.ghosts-answered_by
ghosts-answered_by a = record { name = a.blank.name; parts = a.blank.parts }
