use Rattle.std.proofs.Common.{◌%◌, ap, ◌∙◌, arith}
use Rattle.std.specs.Int.{w32}
use Rattle.cipher_stream.specs.ByteStream.{bytes_from, to_come}
use Rattle.cipher_stream.specs.Keystream.{xored}
use Rattle.ctr.specs.Counter.{counter_stream}
use Rattle.ctr.specs.Flavors.{last, field_size, plus}
use Rattle.ctr.proofs.StandardCounter.{buffered_be}
use Rattle.gcm.proofs.counter.apply_be.Goals as goal

pub returns : goal.returns
returns g c =
    let encrypts = g.C.BlockCipherEncrypt.encrypts in
    let bytes = c.args.bytes.now in
    c.apply_wrapped.ensures
    ∙ ap (λ s. xored (to_come (bytes_from 16 (counter_stream (encrypts s.cipher.now) (plus last w32) s.ctr_nonce.nonce (field_size w32) (s.ctr_nonce.ctr % field_size w32)) 0)) bytes) c.inner_iv_init-core.ensures.value
    ∙ buffered_be w32 (encrypts c.args.c.now) c.args.block.now bytes (g.met.C.BlockCipherEncrypt.sized c.args.c.now) (omega arith) c.told-block
