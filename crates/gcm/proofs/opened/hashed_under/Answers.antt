use Rattle.std.proofs.Common.{◌≡◌, ◌+◌, ◌*◌, ◌/◌, ◌%◌, ◌^◌, length, ap, sym, ◌∙◌}
use Rattle.std.specs.Int.{w32}
use Rattle.standards.specs.Blocks.{over_blocks, zero_padded}
use Rattle.standards.specs.Counter.{ctr, plus_le}
use Rattle.standards.proofs.Keystream.{length-ctr}
use Rattle.gcm.specs.declared.order.ByteOrder.TheVariants.{LittleEndian}
use Rattle.gcm.specs.Orders.{absorb, block_of, pair_of}
use Rattle.gcm.proofs.opened.hashed_under.Goals as goal

pub returns : goal.returns
returns g c =
    let E = g.C.BlockCipherEncrypt.encrypts c.args.c.now in
    let aad = c.args.aad.now in
    let xs = c.args.ciphertext.now in
    let text = ctr E (plus_le w32) c.args.block.now xs in
    let same : length text ≡ length xs = length-ctr E (plus_le w32) c.args.block.now xs in
    let f = absorb LittleEndian (g.K.Products.element c.args.key.now) in
    let both =
    c.absorb_opened-both.ensures
    ∙ ap (λ s. over_blocks f s (zero_padded text) ((length xs + 15) / 16)) c.absorb_padded-data.ensures
    ∙ ap (λ n. over_blocks f (over_blocks f 0 (zero_padded aad) ((length aad + 15) / 16)) (zero_padded text) ((n + 15) / 16)) (sym same) in
    c.block_of.ensures
    ∙ ap (block_of LittleEndian)
    (c.absorb_lengths.ensures
    ∙ ap (λ s. f s (pair_of LittleEndian (8 * length aad % 2 ^ 64) (8 * length xs % 2 ^ 64))) both
    ∙ ap (λ n. f (over_blocks f (over_blocks f 0 (zero_padded aad) ((length aad + 15) / 16)) (zero_padded text) ((length text + 15) / 16)) (pair_of LittleEndian (8 * length aad % 2 ^ 64) (8 * n % 2 ^ 64))) (sym same))
