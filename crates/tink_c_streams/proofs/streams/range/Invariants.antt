use Rattle.tink_c_streams.proofs.streams.range.Given as goal

abbrev pub ghosts-range_made : goal.ghosts-range_made
ghosts-range_made a = record { name = a.blank.name; parts = a.blank.parts }
