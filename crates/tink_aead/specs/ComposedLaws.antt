-- The laws of AES in counter mode with HMAC.
use Rattle.std.specs.Prelude.{◌≡◌, ◌↔◌, ◌≤◌, ℕ, List, Ok}
use Rattle.hash_keys.specs.Hash.{digest_size}
use Rattle.tink_mac.specs.Tags.{hmac_tag, HmacTags}
use Rattle.tink_aead.specs.AeadKinds.{kind_decrypts, kind_encrypts}
use Rattle.tink_proto_keys.specs.declared.aes_ctr_hmac.AesCtrHmacAeadKey.{AesCtrHmacAeadKey}
use Rattle.tink_aead.specs.ComposedKeys.{composed_built}
use Rattle.tink_aead_subtle.specs.Laws.{IsComposed, Undoes}
use Rattle.tink_aead.specs.declared.aead_kind.AeadKind.TheVariants.{AesCtrHmac}
use Rattle.tink_aead_subtle.specs.declared.aes_ctr.AesCtr.{AesCtr}
use Rattle.tink_aead_subtle.specs.declared.encrypt_then_authenticate.EncryptThenAuthenticate.{EncryptThenAuthenticate}

-- a vector fits a block, and the tag is all that the HMAC gives, at most a digest
pub record IsWhole (a : EncryptThenAuthenticate AesCtr HmacTags) : Type 0 where
  pub iv : a.ind_cpa_cipher.iv_size ≤ 16
  pub tag : a.tag_size ≡ a.mac.tag_size
  pub digest : a.mac.tag_size ≤ digest_size a.mac.hmac.hash

-- exactly the encryptions of some text are accepted, each as that of its text
abbrev pub AcceptsWhole : EncryptThenAuthenticate AesCtr HmacTags → Type 0
AcceptsWhole a =
    (input aad text : List ℕ)
    → (kind_decrypts (AesCtrHmac a) input aad ≡ Ok text) ↔ IsComposed a.ind_cpa_cipher.key a.ind_cpa_cipher.iv_size (hmac_tag a.mac) aad text input

-- what is encrypted is decrypted again
abbrev pub UndoesWhole : EncryptThenAuthenticate AesCtr HmacTags → Type 0
UndoesWhole a = Undoes (kind_encrypts (AesCtrHmac a)) (kind_decrypts (AesCtrHmac a))

-- what a key builds is whole
abbrev pub KeysBuildWhole : Type 0
KeysBuildWhole = (k : AesCtrHmacAeadKey) (a : EncryptThenAuthenticate AesCtr HmacTags) → composed_built k ≡ Ok a → IsWhole a

-- and the laws hold of what is whole
abbrev pub WholeAccepts : Type 0
WholeAccepts = (a : EncryptThenAuthenticate AesCtr HmacTags) → IsWhole a → AcceptsWhole a

abbrev pub WholeUndoes : Type 0
WholeUndoes = (a : EncryptThenAuthenticate AesCtr HmacTags) → IsWhole a → UndoesWhole a
