use Rattle.tink_io.proofs.GatheringLemmas.{grows_then}
use Rattle.tink_system.proofs.trouble.put_head.Goals as goal

pub returns-clause-grows : goal.returns-clause-grows
returns-clause-grows g c = grows_then _ _ _ c.put.ensures.grows (grows_then _ _ _ c.put_escaped.ensures.grows c.put-2.ensures.grows)
