use Rattle.test_examples.proofs.backups.is_part_restored.Given as goal

abbrev pub ghosts-part_of : goal.ghosts-part_of
ghosts-part_of a = record { name = a.blank.name; parts = a.blank.parts }
