use Rattle.tink_c_streams.proofs.range_readers.RangeReader.read.Given as goal

abbrev pub ghosts-range_by : goal.ghosts-range_by
ghosts-range_by a = record { name = a.blank.name; parts = a.blank.parts }
