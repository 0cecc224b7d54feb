-- A keyset that is wrapped and unwrapped again.
use Rattle.std.specs.Prelude.{◌≡◌, ℕ, List, Result, Ok}
use Rattle.std.specs.List.{All}
use Rattle.wire_format.specs.Message.{encoded}
use Rattle.tink_io.specs.declared.error.Kind.{Kind}
use Rattle.tink_io.specs.Answering.{made_of}
use Rattle.tink_proto.specs.Messages.{keyset}
use Rattle.tink_proto.specs.declared.messages.infos.EncryptedKeyset.{EncryptedKeyset}
use Rattle.tink_proto.specs.declared.messages.keys.Keyset.{Keyset}
use Rattle.keyset_model.specs.Operations.{Operation, Maker, Managed, after_all}
use Rattle.keyset_model.specs.Spared.{Spares}
use Rattle.tink_keysets.specs.Encrypted.{chained, decrypted, handle_of_bytes}
use Rattle.tink_aead.specs.AeadKinds.{kind_decrypts}
use Rattle.tink_keysets.specs.Decrypting.{OpensToNoOther}
use Rattle.tink_keyset_io.specs.Files.{filed}
use Rattle.tink_keyset_io.specs.declared.key_files.formats.Format.{Format}
use Rattle.tink_cli_files.specs.Masters.{MasterKeys, master_decrypts, master_in, valid_in_file}
use Rattle.tink_cli_files.specs.Wrapping.{wraps}

-- no key of a master opens a ciphertext to another text than this
abbrev pub OpensToThis : MasterKeys → List ℕ → List ℕ → List ℕ → Type 0
OpensToThis m text aad ciphertext = All (OpensToNoOther kind_decrypts text aad ciphertext) m.entries

-- What a master wrapped is unwrapped by the master after all commands that neither disable, destroy nor delete a key of
-- its primary id, where none of its keys opens it to another text.
abbrev pub WrappedOutlives : Type 0
WrappedOutlives =
    (makes : Maker) (managed : Managed) (commands : List Operation) (m later : MasterKeys) (aad draws : List ℕ) (ks : Keyset) (e : EncryptedKeyset)
    → All (Spares managed.keyset.primary_key_id) commands → master_in managed.keyset ≡ Ok m
    → master_in (after_all makes managed commands).keyset ≡ Ok later → handle_of_bytes (encoded keyset.write ks) ≡ Ok ks
    → wraps m aad draws ks ≡ Ok e → OpensToThis later (encoded keyset.write ks) aad e.encrypted_keyset
    → decrypted (master_decrypts later) aad e ≡ Ok ks

-- no key of a master opens what it makes of a file of keys to another text
abbrev pub OpensWhatItWraps : MasterKeys → List ℕ → List ℕ → List ℕ → Type 0
OpensWhatItWraps m keys aad draws =
    (ks : Keyset) (e : EncryptedKeyset) → valid_in_file keys ≡ Ok ks → wraps m aad draws ks ≡ Ok e
    → OpensToThis m (encoded keyset.write ks) aad e.encrypted_keyset

-- the keyset of a file of keys, where a master encrypts it
abbrev pub returned_keys : MasterKeys → List ℕ → List ℕ → List ℕ → Result Keyset Kind
returned_keys m keys aad draws = chained (λ ks. made_of (λ _. ks) (wraps m aad draws ks)) (valid_in_file keys)

-- and as a file of keys
abbrev pub returned_file : MasterKeys → List ℕ → List ℕ → List ℕ → Format → Result (List ℕ) Kind
returned_file m keys aad draws format = chained (filed format) (returned_keys m keys aad draws)
