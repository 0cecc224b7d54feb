use Rattle.std.proofs.Common.{◌≡◌, ◌*◌, ◌++◌, take, drop}
use Rattle.std.specs.Prelude.{bit_xor}
use Rattle.cipher_stream.specs.Keystream.{applied, joined}
use Rattle.cipher_stream.proofs.cores.partial.xor_parts.Given as goal

abbrev pub invariant-loop-i : goal.invariant-loop-i
invariant-loop-i g l = l.bytes ≡ applied bit_xor (joined g.row.B l.keys) (take (l.i * g.row.B) l.initial.bytes) ++ drop (l.i * g.row.B) l.initial.bytes
