use Rattle.std.proofs.Common.{◌≡◌, ◌%◌, ℕ, length, ap, ◌∙◌, arith}
use Rattle.std.specs.Int.{w64}
use Rattle.cipher.proofs.Parts.{pick-nil}
use Rattle.cipher_stream.specs.Keystream.{bytes_of, xored}
use Rattle.ctr.specs.Counter.{counter_stream}
use Rattle.ctr.specs.Flavors.{last, field_size, plus}
use Rattle.ctr.proofs.StandardCounter.{xored_be}
use Rattle.standards.specs.Counter.{plus_be}
use Rattle.standards.proofs.CounterFacts.{length-plus_be}
use Rattle.tink_streaming_ciphers.proofs.segment_cipher.apply_counter_mode.Goals as goal

pub returns : goal.returns
returns g c =
    let encrypts = g.C.BlockCipherEncrypt.encrypts in
    let E = encrypts c.args.cipher.now in
    let nonce = c.args.nonce.now in
    let text = c.args.bytes.now in
    let size : (i : ℕ) → length (E (plus_be w64 nonce i)) ≡ 16 =
    λ i. g.met.C.BlockCipherEncrypt.sized c.args.cipher.now (plus_be w64 nonce i) (length-plus_be w64 nonce i (omega arith) ∙ c.told-nonce) in
    c.apply_keystream_partial.ensures.value
    ∙ ap (xored (bytes_of 16 (counter_stream (encrypts c.inner_iv_init-core.result.cipher.now) (plus last w64) c.inner_iv_init-core.result.ctr_nonce.nonce (field_size w64) (c.inner_iv_init-core.result.ctr_nonce.ctr % field_size w64)))) (pick-nil text)
    ∙ ap (λ s. xored (bytes_of 16 (counter_stream (encrypts s.cipher.now) (plus last w64) s.ctr_nonce.nonce (field_size w64) (s.ctr_nonce.ctr % field_size w64))) text) c.inner_iv_init-core.ensures.value
    ∙ xored_be w64 E nonce text size
