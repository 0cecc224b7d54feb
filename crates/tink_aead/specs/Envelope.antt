-- The envelope over a remote key: a new data key for each text, encrypted by the remote key, and what it encrypts.
use Rattle.std.specs.Prelude.{ℕ, List, [], ◌++◌, ◌^◌, ◌||◌, length, take, drop, codes, nat_eq, nat_lt, nat_le, if◌then◌else◌, Some, Result, Ok, Err}
use Rattle.std.specs.Int.{w32, from_be_bytes, to_be_bytes}
use Rattle.tink_io.specs.declared.error.Kind.{Kind}
use Rattle.tink_io.specs.declared.error.Kind.TheVariants.{DecryptFailed, LengthOverU32, TooShort}
use Rattle.tink_primitives.specs.Sorts.{as_aead}
use Rattle.tink_primitives.specs.declared.primitive.Primitive.{Primitive}
use Rattle.tink_proto.specs.declared.enums.OutputPrefixType.TheVariants.{Raw}
use Rattle.tink_proto.specs.declared.messages.keys.KeyTemplate.{KeyTemplate}
use Rattle.tink_proto_keys.specs.Envelope.{kms_envelope_aead_key_format}
use Rattle.tink_io.specs.Answering.{and_then}
use Rattle.tink_registry.specs.Listed.{registry_builds}
use Rattle.tink_key_manager.specs.Templates.{template_of}

-- what follows a value, by the draws that are left, or its refusal
abbrev pub after_answer : {A B : Type 0} → Result A Kind → List ℕ → (A → List ℕ → Result B Kind × List ℕ) → Result B Kind × List ℕ
after_answer (Ok v) draws next = next v draws
after_answer (Err k) draws next = (Err k, draws)

abbrev pub after : {A B : Type 0} → Result A Kind × List ℕ → (A → List ℕ → Result B Kind × List ℕ) → Result B Kind × List ℕ
after told next = after_answer told.0 told.1 next

-- the AEAD that a registry builds of a data key's bytes
abbrev pub data_key_aead : {R K A D HD HE M P S St V : Type 0} → (R → List ℕ) → (R → List ℕ → Result (Primitive K A D HD HE M P S St V) Kind) → List R → List ℕ → List ℕ → Result A Kind
data_key_aead url builds managers wanted key = and_then (registry_builds url builds managers wanted key) as_aead

-- four bytes of the length of an encrypted data key, that key, and what it encrypts
abbrev pub enveloped : List ℕ → List ℕ → Result (List ℕ) Kind
enveloped sealed_key payload = if nat_lt (length sealed_key) (2 ^ 32) then Ok (to_be_bytes w32 (length sealed_key) ++ sealed_key ++ payload) else Err LengthOverU32

module _ {P : Type 0} (encrypts : P → List ℕ → List ℕ → List ℕ → Result (List ℕ) Kind × List ℕ) (text aad : List ℕ) where
  -- a text's encryption by the AEAD of a data key, in an envelope
  abbrev pub by_data_key : List ℕ → P → List ℕ → Result (List ℕ) Kind × List ℕ
  by_data_key sealed_key p left = after (encrypts p text aad left) (λ payload now. (enveloped sealed_key payload, now))

  module _ (aead_of : List ℕ → Result P Kind) where
    -- and by the data key's bytes
    abbrev pub by_key_bytes : List ℕ → List ℕ → List ℕ → Result (List ℕ) Kind × List ℕ
    by_key_bytes key sealed_key left = after_answer (aead_of key) left (by_data_key sealed_key)

    -- behind the encryption of these bytes by the remote key, without data
    abbrev pub by_remote_key : (List ℕ → List ℕ → List ℕ → Result (List ℕ) Kind × List ℕ) → List ℕ → List ℕ → Result (List ℕ) Kind × List ℕ
    by_remote_key remote key left = after (remote key [] left) (by_key_bytes key)

-- the encryption of a text: a new data key, its encryption, and the text's by it
abbrev pub envelope_encrypts : {P : Type 0} → (List ℕ → Result (List ℕ) Kind × List ℕ) → (List ℕ → List ℕ → List ℕ → Result (List ℕ) Kind × List ℕ)
    → (List ℕ → Result P Kind) → (P → List ℕ → List ℕ → List ℕ → Result (List ℕ) Kind × List ℕ) → List ℕ → List ℕ → List ℕ → Result (List ℕ) Kind × List ℕ
envelope_encrypts makes remote aead_of encrypts text aad draws = after (makes draws) (by_remote_key encrypts text aad aead_of remote)

-- the decryption of what a data key encrypts, with that key encrypted
abbrev pub parts_decrypt : {P : Type 0} → (List ℕ → List ℕ → Result (List ℕ) Kind) → (List ℕ → Result P Kind) → (P → List ℕ → List ℕ → Result (List ℕ) Kind) → List ℕ → List ℕ → List ℕ → Result (List ℕ) Kind
parts_decrypt remote aead_of decrypts sealed_key payload aad = and_then (remote sealed_key []) (λ key. and_then (aead_of key) (λ p. decrypts p payload aad))

-- the decryption of an encrypted data key of n bytes with what follows it
abbrev pub cut_decrypts : {P : Type 0} → (List ℕ → List ℕ → Result (List ℕ) Kind) → (List ℕ → Result P Kind) → (P → List ℕ → List ℕ → Result (List ℕ) Kind) → ℕ → List ℕ → List ℕ → Result (List ℕ) Kind
cut_decrypts remote aead_of decrypts n rest aad =
    if nat_eq n 0 || nat_lt (length rest) n then Err DecryptFailed else parts_decrypt remote aead_of decrypts (take n rest) (drop n rest) aad

-- the decryption of an envelope
abbrev pub envelope_decrypts : {P : Type 0} → (List ℕ → List ℕ → Result (List ℕ) Kind) → (List ℕ → Result P Kind) → (P → List ℕ → List ℕ → Result (List ℕ) Kind) → List ℕ → List ℕ → Result (List ℕ) Kind
envelope_decrypts remote aead_of decrypts input aad =
    if nat_le (length input) 4 then Err TooShort else cut_decrypts remote aead_of decrypts (from_be_bytes w32 (take 4 input)) (drop 4 input) aad

-- the encrypted data key, of n bytes, and what follows it
abbrev pub parts_at : ℕ → List ℕ → Result (List ℕ × List ℕ) Kind
parts_at n rest = if nat_eq n 0 || nat_lt (length rest) n then Err DecryptFailed else Ok (take n rest, drop n rest)

-- of an envelope
abbrev pub envelope_parts : List ℕ → Result (List ℕ × List ℕ) Kind
envelope_parts input = if nat_le (length input) 4 then Err TooShort else parts_at (from_be_bytes w32 (take 4 input)) (drop 4 input)

-- ---- templates

abbrev pub envelope_url : List ℕ
envelope_url = codes "type.googleapis.com/google.crypto.tink.KmsEnvelopeAeadKey"

abbrev pub envelope_template : List ℕ → KeyTemplate → KeyTemplate
envelope_template uri dek = template_of envelope_url kms_envelope_aead_key_format (record { kek_uri = uri; dek_template = Some dek }) Raw
