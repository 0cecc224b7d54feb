use Rattle.tink_io.proofs.WrittenLemmas.{Writes-later}
use Rattle.tink_io.proofs.output.write_line.Goals as goal

pub returns-clause-later : goal.returns-clause-later
returns-clause-later g c = Writes-later _ _ _ _ _ _ c.try_line.ensures.writes
