-- What the manager of a type of keys makes and builds, over bytes.
use Rattle.std.specs.Prelude.{ℕ, List, Bool, Option, Some, None, Result, Ok, Err, pos, if◌then◌else◌, nat_eq, length}
use Rattle.tink_io.specs.declared.error.Kind.{Kind}
use Rattle.tink_io.specs.declared.error.Kind.TheVariants.{InvalidKey, InvalidFormat}
use Rattle.tink_io.specs.Answering.{made_of}
use Rattle.tink_proto.specs.declared.messages.keys.KeyData.{KeyData}
use Rattle.wire_format.specs.Columns.{Column}
use Rattle.wire_format.specs.Message.{decoded, encoded}
use Rattle.tink_core_subtle.specs.Random.{takes_bytes}

-- the message of some bytes, none where there are no bytes
abbrev pub message_of : {T : Type 0} → Column T → List ℕ → Option T
message_of table bytes = if nat_eq (length bytes) 0 then None else decoded table.read bytes

abbrev pub built_by : {Key P : Type 0} → (Key → Result P Kind) → Option Key → Result P Kind
built_by built None = Err InvalidKey
built_by built (Some key) = built key

-- the primitive of a key's bytes: `InvalidKey` where there are none or they are not the message
abbrev pub builds : {Key P : Type 0} → Column Key → (Key → Result P Kind) → List ℕ → Result P Kind
builds table built bytes = built_by built (message_of table bytes)

abbrev pub made_by : {Format Key : Type 0} → (Format → List ℕ → Result Key Kind × List ℕ) → Option Format → List ℕ → Result Key Kind × List ℕ
made_by made None draws = (Err InvalidFormat, draws)
made_by made (Some format) draws = made format draws

-- a new key of a format's bytes: `InvalidFormat` where there are none or they are not the message
abbrev pub new_message : {Key Format : Type 0} → Column Format → (Format → List ℕ → Result Key Kind × List ℕ) → List ℕ → List ℕ → Result Key Kind × List ℕ
new_message formats made format draws = made_by made (message_of formats format) draws

-- the bytes of a new key, and the draws then left
abbrev pub makes : {Key Format : Type 0} → Column Key → Column Format → (Format → List ℕ → Result Key Kind × List ℕ) → List ℕ → List ℕ → Result (List ℕ) Kind × List ℕ
makes keys formats made format draws =
    (made_of (encoded keys.write) (new_message formats made format draws).0, (new_message formats made format draws).1)

-- a symmetric key's data
abbrev pub symmetric : List ℕ → List ℕ → KeyData
symmetric url value = record { type_url = url; value = value; key_material_type = pos 1 }

-- the data of a new key, and the draws then left
abbrev pub makes_data : {Key Format : Type 0} → List ℕ → Column Key → Column Format → (Format → List ℕ → Result Key Kind × List ℕ) → List ℕ → List ℕ → Result KeyData Kind × List ℕ
makes_data url keys formats made format draws =
    (made_of (symmetric url) (makes keys formats made format draws).0, (makes keys formats made format draws).1)

-- ---- what most types of keys share

-- a primitive where the key is accepted
abbrev pub built_if : {P : Type 0} → Bool → P → Result P Kind
built_if accepted primitive = if accepted then Ok primitive else Err InvalidKey

-- a message of n draws, or `RandomFault` where fewer are left
abbrev pub of_draws : {Key : Type 0} → ℕ → (List ℕ → Key) → List ℕ → Result Key Kind × List ℕ
of_draws n message draws = (made_of message (takes_bytes n draws).0, (takes_bytes n draws).1)

-- a new key of n draws where the format is accepted
abbrev pub made_if : {Key : Type 0} → Bool → ℕ → (List ℕ → Key) → List ℕ → Result Key Kind × List ℕ
made_if accepted n message draws = if accepted then of_draws n message draws else (Err InvalidFormat, draws)
