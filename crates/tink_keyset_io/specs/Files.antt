-- What a file of keys holds.
use Rattle.std.specs.Prelude.{◌==◌, ◌||◌, ℕ, List, [], ◌∷◌, Bool, Result, Ok, if◌then◌else◌}
use Rattle.wire_format.specs.Message.{encoded}
use Rattle.tink_io.specs.declared.error.Kind.{Kind}
use Rattle.tink_io.specs.declared.error.Kind.TheVariants.{BadJson}
use Rattle.tink_io.specs.Answering.{and_then, made_of, or_refused}
use Rattle.tink_json.specs.Messages as json
use Rattle.tink_json.specs.Written.{keyset_value, pretty_text}
use Rattle.tink_proto.specs.Messages.{keyset}
use Rattle.tink_proto.specs.declared.messages.keys.Keyset.{Keyset}
use Rattle.tink_keyset_io.specs.Room.{room_by}
use Rattle.tink_keyset_io.specs.declared.key_files.formats.Format.{Format}
use Rattle.tink_keyset_io.specs.declared.key_files.formats.Format.TheVariants.{Binary, Json}

-- white space of JSON (RFC 8259, section 2)
abbrev pub is_space : ℕ → Bool
is_space byte = byte == 32 || byte == 9 || byte == 10 || byte == 13

abbrev pub format_from : ℕ → Format
format_from byte = if byte == 123 then Json else Binary

-- JSON where the first byte that is no white space is an opening brace
abbrev pub format_of : List ℕ → Format
format_of [] = Binary
format_of (b ∷ bs) = if is_space b then format_of bs else format_from b

-- the wire format of a keyset in JSON
abbrev pub json_bytes : List ℕ → Result (List ℕ) Kind
json_bytes text = made_of (encoded keyset.write) (or_refused BadJson (json.message_of json.keyset text))

abbrev pub wire_by : Format → List ℕ → Result (List ℕ) Kind
wire_by Binary file = Ok file
wire_by Json file = json_bytes file

-- whether a file has room in little memory, or the refusal
abbrev pub room_of : List ℕ → Result (Unit {0}) Kind
room_of file = room_by (format_of file) file

-- the bytes in the wire format of the keyset of a file that has room
abbrev pub wire_of : List ℕ → Result (List ℕ) Kind
wire_of file = and_then (room_of file) (λ (room : Unit {0}). wire_by (format_of file) file)

-- the bytes of a file of this format that holds the keyset
abbrev pub file_text : Format → Keyset → List ℕ
file_text Binary ks = encoded keyset.write ks
file_text Json ks = pretty_text (keyset_value ks)

-- a file that has room, or the refusal
abbrev pub fitting : List ℕ → Result (List ℕ) Kind
fitting file = made_of (λ (room : Unit {0}). file) (room_of file)

-- the file of this format that holds the keyset, if it has room: else it could not be read again
abbrev pub filed : Format → Keyset → Result (List ℕ) Kind
filed format ks = fitting (file_text format ks)
