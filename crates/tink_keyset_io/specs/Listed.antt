-- The keys of a keyset, one a line.
use Rattle.std.specs.Prelude.{◌==◌, ◌&&◌, ◌++◌, ◌∷◌, ℕ, ℤ, pos, List, [], Bool, Result, map, codes, decimal, drop, take, length, nat_lt, bytes_eq, if◌then◌else◌}
use Rattle.std.specs.Ordering.{int_eq}
use Rattle.wire_format.specs.Message.{decoded}
use Rattle.tink_io.specs.declared.error.Kind.{Kind}
use Rattle.tink_io.specs.declared.error.Kind.TheVariants.{BadKeyset}
use Rattle.tink_io.specs.Answering.{made_of, or_refused}
use Rattle.tink_proto.specs.Messages.{keyset}
use Rattle.tink_proto.specs.declared.messages.infos.KeyInfo.{KeyInfo}
use Rattle.tink_proto.specs.declared.messages.keys.Keyset.{Keyset}
use Rattle.keyset_model.specs.Secrets.{keyset_info}
use Rattle.tink_keysets.specs.Encrypted.{chained}
use Rattle.tink_keysets.specs.Handles.{handle_of_keys}

abbrev pub status_word : ℤ → List ℕ
status_word status =
    if int_eq status (pos 1) then 9 ∷ codes "enabled" ++ 9 ∷ []
    else (if int_eq status (pos 2) then 9 ∷ codes "disabled" ++ 9 ∷ []
    else (if int_eq status (pos 3) then 9 ∷ codes "destroyed" ++ 9 ∷ [] else 9 ∷ codes "unknown" ++ 9 ∷ []))

abbrev pub prefix_word : ℤ → List ℕ
prefix_word prefix =
    if int_eq prefix (pos 1) then codes "TINK" ++ 9 ∷ []
    else (if int_eq prefix (pos 2) then codes "LEGACY" ++ 9 ∷ []
    else (if int_eq prefix (pos 3) then codes "RAW" ++ 9 ∷ []
    else (if int_eq prefix (pos 4) then codes "CRUNCHY" ++ 9 ∷ [] else codes "unknown" ++ 9 ∷ [])))

-- what the types of Tink's keys begin with
abbrev pub of_tink : List ℕ
of_tink = codes "type.googleapis.com/google.crypto.tink."

-- a type without this beginning
abbrev pub short_type : List ℕ → List ℕ
short_type url = if bytes_eq (take (length of_tink) url) of_tink then drop (length of_tink) url else url

-- the type of a key, or a dash where it has none
abbrev pub type_word : List ℕ → List ℕ
type_word url = if length url == 0 then codes "-" else short_type url

-- a byte of ASCII that is seen, and else a question mark
abbrev pub shown_byte : ℕ → ℕ
shown_byte byte = if nat_lt 32 byte && nat_lt byte 127 then byte else 63

abbrev pub printed : List ℕ → List ℕ
printed bytes = map shown_byte bytes

abbrev pub line_end : Bool → List ℕ
line_end is_primary = if is_primary then 9 ∷ codes "primary" ++ 10 ∷ [] else 10 ∷ []

-- the id, the status, the prefix type and the type, and whether it is the primary key
abbrev pub line_of : ℕ → KeyInfo → List ℕ
line_of primary key =
    decimal key.key_id ++ status_word key.status ++ prefix_word key.output_prefix_type
    ++ printed (type_word key.type_url) ++ line_end (key.key_id == primary)

abbrev pub lines_of : ℕ → List KeyInfo → List ℕ
lines_of primary [] = []
lines_of primary (key ∷ keys) = line_of primary key ++ lines_of primary keys

-- the lines of a keyset's keys
abbrev pub key_lines : Keyset → List ℕ
key_lines ks = lines_of ks.primary_key_id (keyset_info ks).key_info

-- the lines of the keyset that bytes spell
abbrev pub listed : List ℕ → Result (List ℕ) Kind
listed bytes = made_of key_lines (chained handle_of_keys (or_refused BadKeyset (decoded keyset.read bytes)))
