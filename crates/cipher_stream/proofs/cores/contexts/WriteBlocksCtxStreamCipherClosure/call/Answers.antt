use Rattle.cipher_stream.proofs.Led.{fed_each}
use Rattle.cipher_stream.proofs.cores.contexts.WriteBlocksCtxStreamCipherClosure.call.Goals as goal

pub returns-clause-fed : goal.returns-clause-fed
returns-clause-fed g c = fed_each c.write_in_parts.ensures.value c.write_in_parts.ensures.is_moved
