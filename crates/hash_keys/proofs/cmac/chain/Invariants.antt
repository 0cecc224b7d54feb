use Rattle.std.proofs.Common.{◌≡◌}
use Rattle.standards.specs.Blocks.{over_blocks}
use Rattle.standards.specs.Cmac.{chain_step}
use Rattle.hash_keys.proofs.cmac.chain.Given as goal

-- the chain over the blocks so far
abbrev pub invariant-loop-i : goal.invariant-loop-i
invariant-loop-i g l = l.block ≡ over_blocks (chain_step (g.C.BlockCipherEncrypt.encrypts l.c)) l.initial.block l.text l.i
