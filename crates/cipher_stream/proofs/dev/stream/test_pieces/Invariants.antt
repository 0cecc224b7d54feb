use Rattle.std.proofs.Common.{◌≡◌, ◌-◌, ◌≤◌, length}
use Rattle.cipher_stream.specs.ByteStream.{HasMoved, LeavesRoom}
use Rattle.cipher_stream.specs.StreamVectors.{Passes}
use Rattle.cipher_stream.proofs.dev.stream.test_pieces.Given as goal

abbrev pub invariant-loop-at : goal.invariant-loop-at
invariant-loop-at g l =
    let k = g.C.StreamCipher in
    record {
      within : l.at ≤ length l.from;
      moved : HasMoved (k.stream l.initial.cipher) l.at (k.stream l.cipher);
      leaves : LeavesRoom (k.has l.initial.cipher) l.at (k.has l.cipher);
      passed : l.size ≡ 1 → Passes (k.stream l.initial.cipher) (k.has l.initial.cipher) l.from l.wanted l.at;
    }

abbrev pub decreases-loop-at : goal.decreases-loop-at
decreases-loop-at g l = length l.from - l.at
