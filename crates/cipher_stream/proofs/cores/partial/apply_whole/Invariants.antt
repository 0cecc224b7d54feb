use Rattle.std.proofs.Common.{◌≡◌, ◌++◌, ◌-◌, ◌/◌, ◌%◌, ◌≤◌, take, drop, length}
use Rattle.std.specs.Prelude.{bit_xor}
use Rattle.cipher_stream.specs.Keystream.{applied, bytes_of, IsMoved, Spends}
use Rattle.cipher_stream.proofs.cores.partial.apply_whole.Given as goal

abbrev pub invariant-loop-at : goal.invariant-loop-at
invariant-loop-at g l =
    let k = g.T.StreamCipherCore in
    record {
      within : l.at ≤ length l.initial.bytes;
      whole : l.at % g.row.B ≡ 0;
      is_moved : IsMoved (k.keystream l.initial.core) (l.at / g.row.B) (k.keystream l.core);
      spent : Spends (k.remaining l.initial.core) (l.at / g.row.B) (k.remaining l.core);
      so_far : l.bytes ≡ applied bit_xor (bytes_of g.row.B (k.keystream l.initial.core)) (take l.at l.initial.bytes) ++ drop l.at l.initial.bytes;
    }

abbrev pub decreases-loop-at : goal.decreases-loop-at
decreases-loop-at g l = length l.initial.bytes - l.at
