use Rattle.std.proofs.Common.{◌≡◌, ◌-◌}
use Rattle.standards.specs.AesInverse.{inv_state_after}
use Rattle.aes_block.proofs.decryption.decipher.Given as goal

abbrev pub invariant-rounds : goal.invariant-rounds
invariant-rounds l = l.state ≡ inv_state_after l.rounds l.keys l.block (l.i - 1)
