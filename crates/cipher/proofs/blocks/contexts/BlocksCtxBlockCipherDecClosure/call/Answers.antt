use Rattle.cipher.proofs.Led.{Led-from_each}
use Rattle.cipher.proofs.blocks.contexts.BlocksCtxBlockCipherDecClosure.call.Goals as goal

pub returns-clause-led : goal.returns-clause-led
returns-clause-led g c = Led-from_each c.decrypt_in_parts.ensures.value
