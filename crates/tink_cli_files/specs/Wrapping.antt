-- A keyset that is encrypted under a master, as a file.
use Rattle.std.specs.Prelude.{ℕ, List, Result, Ok, Err}
use Rattle.wire_format.specs.Message.{decoded, encoded}
use Rattle.tink_io.specs.declared.error.Kind.{Kind}
use Rattle.tink_io.specs.declared.error.Kind.TheVariants.{BadJson, BadKeyset}
use Rattle.tink_io.specs.Answering.{made_of, or_refused}
use Rattle.tink_json.specs.Messages as json
use Rattle.tink_json.specs.Written.{encrypted_keyset_value, pretty_text}
use Rattle.tink_proto.specs.Messages.{encrypted_keyset}
use Rattle.tink_proto.specs.declared.messages.infos.EncryptedKeyset.{EncryptedKeyset}
use Rattle.tink_proto.specs.declared.messages.keys.Keyset.{Keyset}
use Rattle.tink_keysets.specs.Encrypted.{chained, decrypted, encrypted}
use Rattle.tink_keyset_io.specs.Files.{filed, format_of}
use Rattle.tink_keyset_io.specs.declared.key_files.formats.Format.{Format}
use Rattle.tink_keyset_io.specs.declared.key_files.formats.Format.TheVariants.{Binary, Json}
use Rattle.tink_cli_files.specs.Masters.{MasterKeys, master_decrypts, master_encrypts, valid_in_file}

-- the file of this format that holds an encrypted keyset
abbrev pub wrapped_text : Format → EncryptedKeyset → List ℕ
wrapped_text Binary e = encoded encrypted_keyset.write e
wrapped_text Json e = pretty_text (encrypted_keyset_value e)

abbrev pub wrapped_by : Format → List ℕ → Result EncryptedKeyset Kind
wrapped_by Binary file = or_refused BadKeyset (decoded encrypted_keyset.read file)
wrapped_by Json file = or_refused BadJson (json.message_of json.encrypted_keyset file)

-- the encrypted keyset of a file
abbrev pub wrapped_in : List ℕ → Result EncryptedKeyset Kind
wrapped_in file = wrapped_by (format_of file) file

-- a keyset, encrypted by the primary key of a master: its bytes are the text, and beside the ciphertext stands what
-- may be shown of it
abbrev pub wraps : MasterKeys → List ℕ → List ℕ → Keyset → Result EncryptedKeyset Kind
wraps m aad draws ks = (encrypted (master_encrypts m) aad draws ks).0

-- the draws that this leaves
abbrev pub unspent : MasterKeys → List ℕ → List ℕ → Keyset → List ℕ
unspent m aad draws ks = (encrypted (master_encrypts m) aad draws ks).1

-- the same of a file of keys: all draws where it has no valid keyset
abbrev pub unspent_by : MasterKeys → List ℕ → List ℕ → Result Keyset Kind → List ℕ
unspent_by m aad draws (Err kind) = draws
unspent_by m aad draws (Ok ks) = unspent m aad draws ks

abbrev pub unspent_file : MasterKeys → List ℕ → List ℕ → List ℕ → List ℕ
unspent_file m keys aad draws = unspent_by m aad draws (valid_in_file keys)

-- the same of the valid keyset of a file of keys
abbrev pub wrapped_keys : MasterKeys → List ℕ → List ℕ → List ℕ → Result EncryptedKeyset Kind
wrapped_keys m keys aad draws = chained (wraps m aad draws) (valid_in_file keys)

-- and as a file
abbrev pub wrapped_file : MasterKeys → List ℕ → List ℕ → Format → List ℕ → Result (List ℕ) Kind
wrapped_file m keys aad format draws = made_of (wrapped_text format) (wrapped_keys m keys aad draws)

-- the keyset that a key of a master decrypts of a file
abbrev pub unwrapped_keys : MasterKeys → List ℕ → List ℕ → Result Keyset Kind
unwrapped_keys m file aad = chained (decrypted (master_decrypts m) aad) (wrapped_in file)

-- and as a file of keys
abbrev pub unwrapped_file : MasterKeys → List ℕ → List ℕ → Format → Result (List ℕ) Kind
unwrapped_file m file aad format = chained (filed format) (unwrapped_keys m file aad)
