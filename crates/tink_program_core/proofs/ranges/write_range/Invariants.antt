use Rattle.tink_program_core.proofs.ranges.write_range.Given as goal

abbrev pub ghosts-counted_range : goal.ghosts-counted_range
ghosts-counted_range g a = record { name = a.blank.name; parts = a.blank.parts }
