use Rattle.tink_keyset_io.proofs.WritingLemmas.{fault_writes}
use Rattle.tink_keyset_io.proofs.text.write_as.Goals as goal

pub returns-clause-unwritten : goal.returns-clause-unwritten
returns-clause-unwritten g c = fault_writes c.write_all.result _ _ c.write_all.ensures.refused
