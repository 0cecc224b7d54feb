use Rattle.test_tink_cli_files.proofs.task_tests.save_range.Given as goal

abbrev pub ghosts-range_of : goal.ghosts-range_of
ghosts-range_of a = record { name = a.blank.name; parts = a.blank.parts }
