use Rattle.cipher_stream.proofs.Led.{fed_applied_each}
use Rattle.cipher_stream.proofs.cores.contexts.ApplyBlocksCtxStreamCipherClosure.call.Goals as goal

pub returns-clause-fed : goal.returns-clause-fed
returns-clause-fed g c = fed_applied_each c.apply_in_parts.ensures.value c.apply_in_parts.ensures.is_moved
