use Rattle.std.proofs.Common.{arith, replicate}
use Rattle.cipher.specs.Transcript.{Led}
use Rattle.cipher.proofs.UnderTweak.{Led-without}
use Rattle.cipher.proofs.tweaks.zero.ZeroTweakBlockCipherEncrypt.encrypt_with_backend.Goals as goal

pub returns-clause-led : goal.returns-clause-led
returns-clause-led g c =
    let led : Led (g.C.TweakBlockCipherEncrypt.encrypts c.args.self.now.0 (replicate g.row.T 0)) g.F.BlockCipherEncClosure.leads c.args.f.now c.encrypt_with_backend.new.f.f.now =
    Led-without _ _ _ _ _ _ c.encrypt_with_backend.ensures.led in
    grind arith
