use Rattle.std.proofs.Common.{◌≡◌, ◌++◌, take, drop, get_or, []}
use Rattle.standards.specs.Lists.{xor_bytes}
use Rattle.cipher_stream.specs.Keystream.{applied}
use Rattle.cipher_stream.proofs.xor.xor_blocks.Given as goal

abbrev pub invariant-loop-i : goal.invariant-loop-i
invariant-loop-i g l = l.output ≡ applied xor_bytes (λ j. get_or l.keys j []) (take l.i l.initial.output) ++ drop l.i l.initial.output
