use Rattle.tink_io.proofs.GatheringLemmas.{grows_then}
use Rattle.tink_system.proofs.trouble.put_refused.Goals as goal

pub returns-clause-grows : goal.returns-clause-grows
returns-clause-grows g c = grows_then _ _ _ c.put_head.ensures.grows (grows_then _ _ _ c.put_kind.ensures.grows c.put_end.ensures.grows)
