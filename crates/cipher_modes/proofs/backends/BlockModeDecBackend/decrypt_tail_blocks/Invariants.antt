use Rattle.std.proofs.Common.{◌≡◌, ◌++◌, take, drop}
use Rattle.cipher.specs.Buffers.{pick}
use Rattle.cipher_modes.specs.Steps.{run_of, state_after}
use Rattle.cipher_modes.proofs.backends.BlockModeDecBackend.decrypt_tail_blocks.Given as goal

abbrev pub invariant-loop-i : goal.invariant-loop-i
invariant-loop-i g l = record {
  kept : l.blocks.output.ghost_name ≡ l.initial.blocks.output.ghost_name;
  input : l.blocks.input ≡ l.initial.blocks.input;
  so_far : l.blocks.output.now ≡ run_of g.Self.BlockModeDecBackend.step l.initial.self (take l.i (pick l.initial.blocks.input.now l.initial.blocks.output.now)) ++ drop l.i l.initial.blocks.output.now;
  state : l.self ≡ state_after g.Self.BlockModeDecBackend.step l.initial.self (take l.i (pick l.initial.blocks.input.now l.initial.blocks.output.now));
}
