use Rattle.tink_cli_ranges.proofs.ranges.range_of.Given as goal

abbrev pub ghosts-put_range_by : goal.ghosts-put_range_by
ghosts-put_range_by a b = record { name = b.blank.name; parts = b.blank.parts }
