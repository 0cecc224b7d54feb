use Rattle.std.proofs.Common.{◌≡◌, ℕ, List, length, ap, ◌∙◌, arith}
use Rattle.std.specs.Int.{w64}
use Rattle.standards.specs.Counter.{ctr, plus_be}
use Rattle.standards.proofs.CounterFacts.{length-plus_be}
use Rattle.aes_block.specs.Ciphers.{encrypted}
use Rattle.aes_block.specs.Lengths.{length-encrypted}
use Rattle.aes_block.proofs.KeyedBlocks.{encrypted-aes}
use Rattle.ctr.specs.Counter.{counter_stream}
use Rattle.ctr.specs.Flavors.{field_size, last, plus}
use Rattle.ctr.proofs.StandardCounter.{xored_be, xored_buffered}
use Rattle.test_aes.proofs.counter_mode.encrypt.Goals as goal

pub returns : goal.returns
returns c =
    let key : List ℕ = c.args.key.now in
    let nonce : List ℕ = c.args.nonce.now in
    let text : List ℕ = c.args.text.now in
    let key_length : length key ≡ 16 = omega arith in
    let nonce_length : length nonce ≡ 16 = omega arith in
    let size = λ (i : ℕ). length-encrypted 16 (omega arith) key (plus_be w64 nonce i) (length-plus_be w64 nonce i (omega arith) ∙ nonce_length) in
    rw c.new-cipher.ensures.value at c.apply_keystream.ensures.value
    ∙ xored_buffered (counter_stream (encrypted 16 key) (plus last w64) nonce (field_size w64) 0) text
    ∙ xored_be w64 (encrypted 16 key) nonce text size
    ∙ ap (λ (E : List ℕ → List ℕ). ctr E (plus_be w64) nonce text) (encrypted-aes 16 key key_length)
