use Rattle.cipher_stream.proofs.Led.{fed_one}
use Rattle.cipher_stream.proofs.cores.contexts.WriteBlockCtxStreamCipherClosure.call.Goals as goal

pub returns-clause-fed : goal.returns-clause-fed
returns-clause-fed g c = fed_one c.gen_ks_block.ensures.value c.gen_ks_block.ensures.is_moved
