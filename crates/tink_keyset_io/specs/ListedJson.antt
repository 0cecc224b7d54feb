-- The keys of a keyset as an array of JSON (RFC 8259), one object a line.
use Rattle.std.specs.Prelude.{◌==◌, ◌||◌, ◌++◌, ◌∷◌, ℕ, ℤ, pos, List, [], Bool, Result, codes, decimal, if◌then◌else◌}
use Rattle.std.specs.Ordering.{int_eq}
use Rattle.wire_format.specs.Message.{decoded}
use Rattle.tink_io.specs.declared.error.Kind.{Kind}
use Rattle.tink_io.specs.declared.error.Kind.TheVariants.{BadKeyset}
use Rattle.tink_io.specs.Answering.{made_of, or_refused}
use Rattle.tink_proto.specs.Messages.{keyset}
use Rattle.tink_proto.specs.declared.messages.infos.KeyInfo.{KeyInfo}
use Rattle.tink_proto.specs.declared.messages.keys.Keyset.{Keyset}
use Rattle.keyset_model.specs.Secrets.{keyset_info}
use Rattle.tink_keysets.specs.Encrypted.{chained}
use Rattle.tink_keysets.specs.Handles.{handle_of_keys}
use Rattle.tink_keyset_io.specs.Listed.{shown_byte, type_word}

abbrev pub status_member : ℤ → List ℕ
status_member status =
    if int_eq status (pos 1) then codes ",\"status\":\"enabled\""
    else (if int_eq status (pos 2) then codes ",\"status\":\"disabled\""
    else (if int_eq status (pos 3) then codes ",\"status\":\"destroyed\"" else codes ",\"status\":\"unknown\""))

-- and the name of the member behind it
abbrev pub prefix_member : ℤ → List ℕ
prefix_member prefix =
    if int_eq prefix (pos 1) then codes ",\"prefix\":\"TINK\",\"type\":\""
    else (if int_eq prefix (pos 2) then codes ",\"prefix\":\"LEGACY\",\"type\":\""
    else (if int_eq prefix (pos 3) then codes ",\"prefix\":\"RAW\",\"type\":\""
    else (if int_eq prefix (pos 4) then codes ",\"prefix\":\"CRUNCHY\",\"type\":\"" else codes ",\"prefix\":\"unknown\",\"type\":\"")))

-- a quotation mark and a backslash have a backslash before them (section 7)
abbrev pub quoted_byte : ℕ → List ℕ
quoted_byte byte = if byte == 34 || byte == 92 then 92 ∷ byte ∷ [] else byte ∷ []

-- bytes as they are shown, in a text of JSON
abbrev pub quoted : List ℕ → List ℕ
quoted [] = []
quoted (byte ∷ bytes) = quoted_byte (shown_byte byte) ++ quoted bytes

-- the end of the type, and the last member
abbrev pub primary_member : Bool → List ℕ
primary_member is_primary = if is_primary then codes "\",\"primary\":true}" else codes "\",\"primary\":false}"

-- the members of a key, from the value of its id on
abbrev pub members_of : ℕ → KeyInfo → List ℕ
members_of primary key =
    decimal key.key_id ++ status_member key.status ++ prefix_member key.output_prefix_type
    ++ quoted (type_word key.type_url) ++ primary_member (key.key_id == primary)

-- what the first object begins with, and each other one
abbrev pub first_start : List ℕ
first_start = codes "\n{\"id\":"

abbrev pub next_start : List ℕ
next_start = codes ",\n{\"id\":"

abbrev pub objects_from : List ℕ → ℕ → List KeyInfo → List ℕ
objects_from start primary [] = []
objects_from start primary (key ∷ keys) = (start ++ members_of primary key) ++ objects_from next_start primary keys

abbrev pub array_of : ℕ → List KeyInfo → List ℕ
array_of primary keys = codes "[" ++ objects_from first_start primary keys ++ codes "\n]\n"

-- the array of a keyset's keys
abbrev pub key_array : Keyset → List ℕ
key_array ks = array_of ks.primary_key_id (keyset_info ks).key_info

-- the array of the keyset that bytes spell
abbrev pub listed_json : List ℕ → Result (List ℕ) Kind
listed_json bytes = made_of key_array (chained handle_of_keys (or_refused BadKeyset (decoded keyset.read bytes)))
