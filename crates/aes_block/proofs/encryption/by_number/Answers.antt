use Rattle.std.proofs.Common.{ap, ◌∙◌}
use Rattle.std.specs.Int.{w128, to_le_bytes}
use Rattle.standards.proofs.ByteOrder.{to_le_bytes-from_le_bytes}
use Rattle.aes_block.proofs.encryption.by_number.Goals as goal

pub returns : goal.returns
returns c = c.to_le_bytes.ensures ∙ (ap (to_le_bytes w128) c.from_le_bytes.ensures ∙ to_le_bytes-from_le_bytes w128 c.args.block.now c.told-block c.fits-block)
