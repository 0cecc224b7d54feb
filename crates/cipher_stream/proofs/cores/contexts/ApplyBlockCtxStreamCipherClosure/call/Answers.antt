use Rattle.cipher_stream.proofs.Led.{fed_applied_one}
use Rattle.cipher_stream.proofs.cores.contexts.ApplyBlockCtxStreamCipherClosure.call.Goals as goal

pub returns-clause-fed : goal.returns-clause-fed
returns-clause-fed g c = fed_applied_one c.gen_ks_block.new.block c.gen_ks_block.ensures.value c.xor_block.ensures.value c.gen_ks_block.ensures.is_moved
