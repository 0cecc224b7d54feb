use Rattle.std.proofs.Common.{◌∙◌, arith}
use Rattle.std.specs.Int.{w64}
use Rattle.ctr.proofs.StandardCounter.{buffered_be}
use Rattle.tink_aead_subtle.proofs.aes_ctr.apply_counter_mode.Goals as goal

pub returns : goal.returns
returns g c =
    rw (c.from_core-stream.ensures.value, c.inner_iv_init-core.ensures.value) at c.apply_keystream.ensures.value
    ∙ buffered_be w64 (g.C.BlockCipherEncrypt.encrypts c.args.cipher) c.args.block.now c.args.bytes.now (g.met.C.BlockCipherEncrypt.sized c.args.cipher) (omega arith) c.told-block
