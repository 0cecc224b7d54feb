-- Keysets under a master key: what is written of a keyset, and which keyset is read from it.
use Rattle.std.specs.Prelude.{◌≡◌, ℕ, List, Some, Result, Ok, Err}
use Rattle.wire_format.specs.Message.{decoded, encoded}
use Rattle.tink_io.specs.declared.error.Kind.{Kind}
use Rattle.tink_io.specs.declared.error.Kind.TheVariants.{BadKeyset}
use Rattle.tink_io.specs.Answering.{made_of, or_refused}
use Rattle.tink_proto.specs.Messages.{keyset}
use Rattle.tink_proto.specs.declared.messages.infos.EncryptedKeyset.{EncryptedKeyset}
use Rattle.tink_proto.specs.declared.messages.keys.Keyset.{Keyset}
use Rattle.keyset_model.specs.Secrets.{keyset_info}
use Rattle.tink_keysets.specs.Handles.{handle_of}
pub use Rattle.tink_keyset_rules.specs.Masters.{by_master, drawn_by_master, master_kind}

-- what is made of a value, or its refusal
abbrev pub chained : {S T : Type 0} → (S → Result T Kind) → Result S Kind → Result T Kind
chained makes (Ok v) = makes v
chained makes (Err kind) = Err kind

-- a handle of the keyset that bytes spell
abbrev pub handle_of_bytes : List ℕ → Result Keyset Kind
handle_of_bytes bytes = chained handle_of (or_refused BadKeyset (decoded keyset.read bytes))

-- a handle of an encrypted keyset, by what the master decrypts
abbrev pub decrypted : (List ℕ → List ℕ → Result (List ℕ) Kind) → List ℕ → EncryptedKeyset → Result Keyset Kind
decrypted decrypts associated_data e = chained handle_of_bytes (by_master (decrypts e.encrypted_keyset associated_data))

-- a ciphertext, beside what may be shown of the keyset
abbrev pub with_info : Keyset → List ℕ → EncryptedKeyset
with_info ks ciphertext = record { encrypted_keyset = ciphertext; keyset_info = Some (keyset_info ks) }

-- an encrypted keyset, by what the master encrypts, and the draws that are left
abbrev pub encrypted : (List ℕ → List ℕ → List ℕ → Result (List ℕ) Kind × List ℕ) → List ℕ → List ℕ → Keyset → Result EncryptedKeyset Kind × List ℕ
encrypted encrypts associated_data draws ks =
    let made = drawn_by_master (encrypts (encoded keyset.write ks) associated_data draws) in
    (made_of (with_info ks) made.0, made.1)

-- decryption undoes encryption
abbrev pub MasterUndoes : (List ℕ → List ℕ → List ℕ → Result (List ℕ) Kind × List ℕ) → (List ℕ → List ℕ → Result (List ℕ) Kind) → Type 0
MasterUndoes encrypts decrypts =
    (text associated_data draws ciphertext : List ℕ) → (encrypts text associated_data draws).0 ≡ Ok ciphertext
    → decrypts ciphertext associated_data ≡ Ok text
