-- New and rotated keysets, by the name of a template.
use Rattle.std.specs.Prelude.{◌≡◌, ◌⊎◌, ◌++◌, ◌∷◌, ℕ, List, [], Bool, Option, Some, None, Result, Ok, Err, true}
use Rattle.hex.specs.Hex.{encode_lower}
use Rattle.wire_format.specs.Message.{encoded}
use Rattle.tink_io.specs.declared.error.Kind.{Kind}
use Rattle.tink_io.specs.declared.error.Kind.TheVariants.{NoFreshId, UnknownTemplate}
use Rattle.tink_proto.specs.Messages.{keyset}
use Rattle.tink_proto.specs.declared.messages.keys.KeyTemplate.{KeyTemplate}
use Rattle.tink_proto.specs.declared.messages.keys.Keyset.{Keyset}
use Rattle.keyset_model.specs.Adding.{added, keyset_reply}
use Rattle.tink_keysets.specs.Encrypted.{chained}
use Rattle.tink_keygen.specs.NamedTemplates.{data_by_all, template_named}

-- a keyset with a new key by a template, as its primary one or not
abbrev pub grown : Bool → KeyTemplate → List ℕ → Keyset → Result Keyset Kind
grown as_primary kt draws ks = (keyset_reply (added ks kt as_primary (data_by_all kt draws))).0

-- the same if the template is there and the keyset was not refused: the template comes first
abbrev pub grown_where : Bool → Option KeyTemplate → Result Keyset Kind → List ℕ → Result Keyset Kind
grown_where as_primary None start draws = Err UnknownTemplate
grown_where as_primary (Some kt) start draws = chained (grown as_primary kt draws) start

abbrev pub grown_by : Bool → List ℕ → Result Keyset Kind → List ℕ → Result Keyset Kind
grown_by as_primary name start draws = grown_where as_primary (template_named name) start draws

-- the draws that are left of a new key
abbrev pub left_grown : Bool → KeyTemplate → List ℕ → Keyset → List ℕ
left_grown as_primary kt draws ks = (keyset_reply (added ks kt as_primary (data_by_all kt draws))).1

-- the same if the template is there and the keyset was not refused: else nothing is drawn
abbrev pub left_grown_where : Bool → Option KeyTemplate → Result Keyset Kind → List ℕ → List ℕ
left_grown_where as_primary None start draws = draws
left_grown_where as_primary (Some kt) (Err kind) draws = draws
left_grown_where as_primary (Some kt) (Ok ks) draws = left_grown as_primary kt draws ks

abbrev pub left_grown_by : Bool → List ℕ → Result Keyset Kind → List ℕ → List ℕ
left_grown_by as_primary name start draws = left_grown_where as_primary (template_named name) start draws

-- a keyset with a new key by a template as its primary one
abbrev pub rotated : KeyTemplate → List ℕ → Keyset → Result Keyset Kind
rotated kt draws ks = grown true kt draws ks

abbrev pub rotated_where : Option KeyTemplate → Result Keyset Kind → List ℕ → Result Keyset Kind
rotated_where template start draws = grown_where true template start draws

abbrev pub rotated_by : List ℕ → Result Keyset Kind → List ℕ → Result Keyset Kind
rotated_by name start draws = grown_by true name start draws

-- the draws that are left of it
abbrev pub left_after : KeyTemplate → List ℕ → Keyset → List ℕ
left_after kt draws ks = left_grown true kt draws ks

abbrev pub left_by : List ℕ → Result Keyset Kind → List ℕ → List ℕ
left_by name start draws = left_grown_by true name start draws

-- why a keyset isn't made where draws suffice
abbrev pub IsNotRotated : List ℕ → Result Keyset Kind → Kind → Type 0
IsNotRotated name start kind =
    ((kind ≡ UnknownTemplate) × (template_named name ≡ None)) ⊎ (start ≡ Err kind) ⊎ (kind ≡ NoFreshId)

-- a keyset's bytes in lower-case hexadecimal digits, and a newline
abbrev pub key_line : Keyset → List ℕ
key_line ks = encode_lower (encoded keyset.write ks) ++ 10 ∷ []
