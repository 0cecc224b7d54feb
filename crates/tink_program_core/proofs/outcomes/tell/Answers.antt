use Rattle.tink_program_core.proofs.StreamLemmas.{line_written}
use Rattle.tink_program_core.proofs.outcomes.tell.Goals as goal

pub returns-in-Usage-clause-line : goal.returns-in-Usage-clause-line
returns-in-Usage-clause-line g c = rw c.in-Usage.is (line_written _ _ _ _ c.write_all.result _ c.write_all.ensures.written c.write_all.ensures.prefix c.write_all.ensures.cause)
