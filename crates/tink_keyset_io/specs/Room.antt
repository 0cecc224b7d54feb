-- How many keys a file may have, so that it is decoded in little memory.
use Rattle.std.specs.Prelude.{◌==◌, ◌||◌, ◌+◌, ℕ, List, Bool, Option, Some, None, Result, Ok, Err, count_by, nat_eq, nat_lt, if◌then◌else◌}
use Rattle.wire_format.specs.Columns.{read_into}
use Rattle.wire_format.specs.Grammar.{Field}
use Rattle.tink_io.specs.declared.error.Kind.{Kind}
use Rattle.tink_io.specs.declared.error.Kind.TheVariants.{BadKeyset, KeysetTooLong}
use Rattle.tink_keyset_io.specs.declared.key_files.formats.Format.{Format}
use Rattle.tink_keyset_io.specs.declared.key_files.formats.Format.TheVariants.{Binary, Json}

-- a field of a keyset is a key exactly if its number is 2
abbrev pub more_keys : ℕ → Field → Option ℕ
more_keys n f = Some (if nat_eq f.number 2 then n + 1 else n)

-- how many keys the bytes have, if they spell fields
abbrev pub keys_in : List ℕ → Option ℕ
keys_in bytes = read_into more_keys 0 bytes

-- a comma, a colon, and the beginning of an array and of an object: but for the first, each value of JSON stands behind one
abbrev pub is_mark : ℕ → Bool
is_mark byte = byte == 44 || byte == 58 || byte == 91 || byte == 123

abbrev pub up_to : ℕ → ℕ → Result (Unit {0}) Kind
up_to most n = if nat_lt most n then Err KeysetTooLong else Ok tt

abbrev pub room_of_keys : Option ℕ → Result (Unit {0}) Kind
room_of_keys None = Err BadKeyset
room_of_keys (Some n) = up_to 65536 n

-- a file of this format has at most 65,536 keys, and in JSON at most 1,048,576 of these bytes
abbrev pub room_by : Format → List ℕ → Result (Unit {0}) Kind
room_by Binary file = room_of_keys (keys_in file)
room_by Json file = up_to 1048576 (count_by is_mark file)
