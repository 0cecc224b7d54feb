-- What is sealed has one text. E is the one-block map under the key.
use Rattle.std.specs.Prelude.{◌≡◌, ◌-◌, ℕ, List, length, take, drop}
use Rattle.standards.specs.Gcm.{gcm, gcm_text}
use Rattle.standards.specs.GcmSiv.{encryption_key, gcm_siv, gcm_siv_text}
use Rattle.gcm.specs.Siv.{KeepsBlocks}

-- GCM: a sealed list is the encryption of at most one text
abbrev pub GcmHasOneText : Type 0
GcmHasOneText = (E : List ℕ → List ℕ) (nonce aad sealed xs ys : List ℕ) → gcm E nonce aad xs ≡ sealed → gcm E nonce aad ys ≡ sealed → xs ≡ ys

-- GCM: the text of what was sealed is the ciphertext in counter mode again, and encrypting that gives the sealed list back
abbrev pub GcmGivesBack : Type 0
GcmGivesBack =
    (E : List ℕ → List ℕ) (nonce aad text : List ℕ) → let sealed = gcm E nonce aad text in
    let opened = gcm_text E nonce (take (length sealed - 16) sealed) in
    (opened ≡ text) × (gcm E nonce aad opened ≡ sealed)

-- GCM-SIV, where the cipher under the message-encryption key makes blocks of blocks: a sealed list is the encryption of at most one text
abbrev pub GcmSivHasOneText : Type 0
GcmSivHasOneText =
    (cipher : List ℕ → List ℕ → List ℕ) (key nonce aad sealed xs ys : List ℕ) → KeepsBlocks (cipher (encryption_key cipher key nonce))
    → gcm_siv cipher key nonce aad xs ≡ sealed → gcm_siv cipher key nonce aad ys ≡ sealed → xs ≡ ys

-- GCM-SIV: the text of what was sealed is the ciphertext in counter mode again, under the tag, and encrypting that gives the sealed list back
abbrev pub GcmSivGivesBack : Type 0
GcmSivGivesBack =
    (cipher : List ℕ → List ℕ → List ℕ) (key nonce aad text : List ℕ) → KeepsBlocks (cipher (encryption_key cipher key nonce)) → let sealed = gcm_siv cipher key nonce aad text in
    let n = length sealed - 16 in
    let opened = gcm_siv_text cipher key nonce (drop n sealed) (take n sealed) in
    (opened ≡ text) × (gcm_siv cipher key nonce aad opened ≡ sealed)
