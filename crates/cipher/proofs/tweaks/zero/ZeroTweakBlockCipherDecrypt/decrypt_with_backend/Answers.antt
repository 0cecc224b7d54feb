use Rattle.std.proofs.Common.{arith, replicate}
use Rattle.cipher.specs.Transcript.{Led}
use Rattle.cipher.proofs.UnderTweak.{Led-without}
use Rattle.cipher.proofs.tweaks.zero.ZeroTweakBlockCipherDecrypt.decrypt_with_backend.Goals as goal

pub returns-clause-led : goal.returns-clause-led
returns-clause-led g c =
    let led : Led (g.C.TweakBlockCipherDecrypt.decrypts c.args.self.now.0 (replicate g.row.T 0)) g.F.BlockCipherDecClosure.leads c.args.f.now c.decrypt_with_backend.new.f.f.now =
    Led-without _ _ _ _ _ _ c.decrypt_with_backend.ensures.led in
    grind arith
