-- Keysets that fit the wire format, and the commands of a manager.
use Rattle.std.specs.Prelude.{◌≡◌, ◌<◌, ◌^◌, ℕ, List, All, Ok, IsTrue}
use Rattle.tink_proto.specs.declared.messages.keys.KeyData.{KeyData}
use Rattle.tink_proto.specs.declared.messages.keys.KeyTemplate.{KeyTemplate}
use Rattle.tink_proto.specs.Messages.{key, keyset}
use Rattle.wire_format.specs.Values.{fits_body}
use Rattle.keyset_model.specs.Adding.{new_key}
use Rattle.keyset_model.specs.Operations.{Maker, Operation, Managed, after_all}

abbrev pub AreByteValues : List ℕ → Type 0
AreByteValues draws = All (λ b. b < 256) draws

-- from draws that are bytes the managers give data of keys that fit, whatever id of 32 bits they get, and leave bytes
pub record GivesFitting (makes : Maker) : Type 0 where
  pub fits : (kt : KeyTemplate) (draws : List ℕ) (d : KeyData) (id : ℕ) → AreByteValues draws → (makes kt draws).0 ≡ Ok d
      → id < 2 ^ 32 → IsTrue (fits_body key (new_key kt d id))
  pub left : (kt : KeyTemplate) (draws : List ℕ) → AreByteValues draws → AreByteValues (makes kt draws).1

-- a keyset that fits the wire format does so after any commands
abbrev pub KeepsFit : Type 0
KeepsFit =
    (makes : Maker) → GivesFitting makes → (m : Managed) (commands : List Operation) → AreByteValues m.draws
    → IsTrue (keyset.fits m.keyset) → IsTrue (keyset.fits (after_all makes m commands).keyset)
