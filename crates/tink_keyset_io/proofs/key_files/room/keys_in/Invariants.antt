use Rattle.std.proofs.Common.{◌≡◌, ◌+◌, ◌≤◌, length}
use Rattle.wire_format.specs.Columns.{read_into}
use Rattle.tink_keyset_io.specs.Room.{more_keys}
use Rattle.tink_keyset_io.proofs.key_files.room.keys_in.Given as goal

-- the fields that are left are counted from here on, and each has a byte
abbrev pub invariant-loop-rest : goal.invariant-loop-rest
invariant-loop-rest l = record {
  counted : read_into more_keys l.keys l.rest ≡ read_into more_keys 0 l.fn.bytes;
  bounded : l.keys + length l.rest ≤ length l.fn.bytes;
}

abbrev pub decreases-loop-rest : goal.decreases-loop-rest
decreases-loop-rest l = length l.rest
