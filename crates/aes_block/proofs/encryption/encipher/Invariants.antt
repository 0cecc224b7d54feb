use Rattle.std.proofs.Common.{◌≡◌, ◌-◌}
use Rattle.standards.specs.Aes.{state_after}
use Rattle.aes_block.proofs.encryption.encipher.Given as goal

abbrev pub invariant-rounds : goal.invariant-rounds
invariant-rounds l = l.state ≡ state_after l.keys l.block (l.i - 1)
