use Rattle.cipher_modes.proofs.LedOnLemmas.{LedOn-from_each}
use Rattle.cipher_modes.proofs.contexts.BlocksCtxBlockModeDecClosure.call.Goals as goal

pub returns-clause-led : goal.returns-clause-led
returns-clause-led g c = LedOn-from_each c.run_in_parts.ensures.value c.run_in_parts.ensures.stepped
