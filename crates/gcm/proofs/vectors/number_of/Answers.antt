use Rattle.std.proofs.Common.{ap, ◌∙◌}
use Rattle.std.specs.Int.{w128, from_le_bytes}
use Rattle.standards.proofs.ByteOrder.{from_le_bytes-to_le_bytes}
use Rattle.gcm.proofs.vectors.number_of.Goals as goal

pub returns : goal.returns
returns c n fits v_is = c.from_le_bytes.ensures ∙ ap (from_le_bytes w128) v_is ∙ from_le_bytes-to_le_bytes w128 n fits
