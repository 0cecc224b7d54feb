use Rattle.std.proofs.Common.{◌∙◌, ap, length, arith}
use Rattle.std.specs.Prelude.{bit_xor}
use Rattle.cipher_stream.specs.Keystream.{joined, applied}
use Rattle.cipher_stream.proofs.BlockBytes.{applied_next_blocks}
use Rattle.cipher_stream.proofs.cores.partial.apply_keys.Goals as goal

pub returns-clause-value : goal.returns-clause-value
returns-clause-value g c =
    c.xor_parts.ensures.value ∙ (ap (λ bs. applied bit_xor (joined g.row.B bs) c.args.bytes.now) c.write_keystream_blocks.ensures.value
    ∙ applied_next_blocks g.row.B (length c.args.keys.now) (g.T.StreamCipherCore.keystream c.args.core.now) c.args.bytes.now (omega (arith, g.met.T.StreamCipherCore.block_size)) c.requires)
