use Rattle.cipher.proofs.UnderTweak.{Led-under}
use Rattle.cipher.proofs.tweaks.zero.ClosureWrapperTweakBlockCipherDecClosure.call.Goals as goal

pub returns-clause-led : goal.returns-clause-led
returns-clause-led g c = Led-under _ _ _ _ _ _ c.call.ensures.led
