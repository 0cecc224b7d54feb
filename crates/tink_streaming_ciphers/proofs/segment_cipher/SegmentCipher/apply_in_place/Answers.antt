use Rattle.std.proofs.Common.{ap, subst, sym, ◌∙◌}
use Rattle.std.specs.Int.{w64}
use Rattle.aes_block.proofs.KeyedBlocks.{encrypted-aes}
use Rattle.standards.specs.AesKeys.{aes}
use Rattle.standards.specs.Counter.{ctr, plus_be}
use Rattle.tink_streaming_ciphers.specs.SegmentCiphers.{FitsCipher, cipher_key}
use Rattle.tink_streaming_ciphers.proofs.segment_cipher.SegmentCipher.apply_in_place.Goals as goal

pub returns-in-Small : goal.returns-in-Small
returns-in-Small c =
    let size = subst FitsCipher c.in-Small.is c.requires in
    c.apply_counter_mode.ensures
    ∙ ap (λ E. ctr E (plus_be w64) c.args.nonce.now c.args.bytes.now) (encrypted-aes 16 c.in-Small.cipher size ∙ ap (λ s. aes (cipher_key s)) (sym c.in-Small.is))

pub returns-in-Large : goal.returns-in-Large
returns-in-Large c =
    let size = subst FitsCipher c.in-Large.is c.requires in
    c.apply_counter_mode-in-Large.ensures
    ∙ ap (λ E. ctr E (plus_be w64) c.args.nonce.now c.args.bytes.now) (encrypted-aes 32 c.in-Large.cipher size ∙ ap (λ s. aes (cipher_key s)) (sym c.in-Large.is))
