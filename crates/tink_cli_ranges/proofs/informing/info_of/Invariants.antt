use Rattle.tink_cli_ranges.proofs.informing.info_of.Given as goal

abbrev pub ghosts-inform_by : goal.ghosts-inform_by
ghosts-inform_by a b = record { name = b.blank.name; parts = b.blank.parts }
