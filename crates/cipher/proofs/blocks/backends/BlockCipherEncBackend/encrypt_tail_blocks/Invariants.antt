use Rattle.std.proofs.Common.{◌≡◌, ◌++◌, map, take, drop}
use Rattle.cipher.specs.Buffers.{pick}
use Rattle.cipher.proofs.blocks.backends.BlockCipherEncBackend.encrypt_tail_blocks.Given as goal

abbrev pub invariant-loop-i : goal.invariant-loop-i
invariant-loop-i g l = record {
  kept : l.blocks.output.ghost_name ≡ l.initial.blocks.output.ghost_name;
  input : l.blocks.input ≡ l.initial.blocks.input;
  so_far : l.blocks.output.now ≡ map (g.Self.BlockCipherEncBackend.encrypts l.self) (take l.i (pick l.initial.blocks.input.now l.initial.blocks.output.now)) ++ drop l.i l.initial.blocks.output.now;
}
