use Rattle.std.proofs.Common.{◌∙◌, arith}
use Rattle.cipher_stream.proofs.BlockBytes.{applied_first}
use Rattle.cipher_stream.proofs.cores.partial.apply_last.Goals as goal

pub returns : goal.returns
returns g c = record { value = c.xor_part.ensures.value ∙ applied_first g.row.B (g.T.StreamCipherCore.keystream c.args.core.now) c.write_keystream_block.new.block c.args.bytes.now (omega arith) c.write_keystream_block.ensures.value }
