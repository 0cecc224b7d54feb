use Rattle.std.proofs.Common.{refl, sym}
use Rattle.cipher_stream.proofs.positions.block_byte.Goals as goal

pub returns-clause-ok : goal.returns-clause-ok
returns-clause-ok g c = ((λ _. c.from_u128.ensures.some.0 (sym c.in_ok-block.ensures.variant)), (λ _. refl))

pub returns-clause-value : goal.returns-clause-value
returns-clause-value g c = (rw c.in_ok-block.ensures.ok_part at c.from_u128.ensures.value, refl)
