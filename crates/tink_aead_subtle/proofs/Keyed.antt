-- The ciphers of `aes_block` under keys of their sizes are AES, and so what is sealed under them is that of AES.
use Rattle.std.proofs.Common.{◌≡◌, ◌≤◌, ◌-◌, ◌*◌, ◌/◌, ℕ, List, ◌++◌, length, take, drop, nat_le, ap, ap₂, sym, ◌∙◌, arith}
use Rattle.std.specs.Prelude.{Ok, Err, if◌then◌else◌}
use Rattle.aes_block.specs.Ciphers.{encrypted}
use Rattle.aes_block.proofs.KeyedBlocks.{encrypted-aes}
use Rattle.standards.specs.AesKeys.{aes}
use Rattle.standards.specs.GcmSiv.{authentication_key, counter_block, derived, encryption_key, gcm_siv, gcm_siv_text}
use Rattle.standards.specs.Counter.{ctr, plus_le}
use Rattle.std.specs.Int.{w32}
use Rattle.standards.proofs.AesLengths.{length-aes}
use Rattle.standards.proofs.Lengths.{length-encryption_key}
use Rattle.gcm.specs.Siv.{sealed_under}
use Rattle.gcm.proofs.SivFacts.{gcm_siv_is}
use Rattle.tink_io.specs.declared.error.Kind.TheVariants.{RandomFault}
use Rattle.gcm.specs.Limits.{MOST_GCM_SIV}
use Rattle.tink_aead_subtle.specs.AesAeads.{gcm_siv_decrypts, gcm_siv_encrypts}
use Rattle.tink_aead_subtle.specs.NonceAeads.{decryption, encryption, gcm_siv_text_of, limited, then_drawn}

-- what is sealed alike under each nonce is encrypted alike
pub encryption_same : (f g : List ℕ → List ℕ → List ℕ → List ℕ) (most : ℕ) (text aad draws : List ℕ) → ((nonce : List ℕ) → f nonce aad text ≡ g nonce aad text)
    → encryption f most text aad draws ≡ encryption g most text aad draws
encryption_same f g most text aad draws same =
    ap (λ (sealed : List ℕ). then_drawn (limited most (length aad) (length text)) draws (if nat_le 12 (length draws) then (Ok (take 12 draws ++ sealed), drop 12 draws) else (Err RandomFault, draws)))
    (same (take 12 draws))

-- and decrypted alike
pub decryption_same : (f g : List ℕ → List ℕ → List ℕ → List ℕ) (o p : List ℕ → List ℕ → List ℕ) (most : ℕ) (input aad : List ℕ) → ((nonce text : List ℕ) → f nonce aad text ≡ g nonce aad text)
    → ((nonce sealed : List ℕ) → o nonce sealed ≡ p nonce sealed) → decryption f o most input aad ≡ decryption g p most input aad
decryption_same f g o p most input aad same opens =
    let nonce = take 12 input in
    let sealed = drop 12 input in
    ap₂ (λ (t s : List ℕ). decryption (λ _ _ _. s) (λ _ _. t) most input aad) (opens nonce sealed) (same nonce (o nonce sealed) ∙ ap (g nonce aad) (opens nonce sealed))

module _ (n : ℕ) (key : List ℕ) (size : length key ≡ n) (pieces : 8 * (n / 8) ≡ n) (long : 4 ≤ n) where
  -- the message-encryption key is that of AES
  same_key : (nonce : List ℕ) → encryption_key (encrypted n) key nonce ≡ encryption_key aes key nonce
  same_key nonce = ap (λ E. derived E nonce 2 (length key / 8)) (encrypted-aes n key size)

  -- and so is the cipher under it
  same_cipher : (nonce : List ℕ) → encrypted n (encryption_key (encrypted n) key nonce) ≡ aes (encryption_key aes key nonce)
  same_cipher nonce =
      let derived_key = encryption_key aes key nonce in
      let derived_size : length derived_key ≡ n =
      length-encryption_key aes key nonce (λ b. length-aes key b (omega (arith, size, long))) ∙ ap (λ k. 8 * (k / 8)) size ∙ pieces in
      ap (encrypted n) (same_key nonce) ∙ encrypted-aes n derived_key derived_size

  -- GCM-SIV by the cipher for keys of n bytes is that by AES
  pub gcm_siv-aes : (nonce aad text : List ℕ) → gcm_siv (encrypted n) key nonce aad text ≡ gcm_siv aes key nonce aad text
  gcm_siv-aes nonce aad text =
      gcm_siv_is (encrypted n) key nonce aad text
      ∙ ap₂ (λ E k. sealed_under E k nonce aad text) (same_cipher nonce) (ap (λ E. authentication_key E nonce) (encrypted-aes n key size))
      ∙ sym (gcm_siv_is aes key nonce aad text)

  -- and so is the text of what was sealed
  pub gcm_siv_text-aes : (nonce sealed : List ℕ) → gcm_siv_text_of (encrypted n) key nonce sealed ≡ gcm_siv_text_of aes key nonce sealed
  unfolding gcm_siv_text
  gcm_siv_text-aes nonce sealed =
      let m = length sealed - 16 in
      ap (λ E. ctr E (plus_le w32) (counter_block (drop m sealed)) (take m sealed)) (same_cipher nonce)

-- GCM-SIV of a text under a key of n bytes
pub siv_encrypts : (n : ℕ) → 8 * (n / 8) ≡ n → 4 ≤ n → (key k text aad draws : List ℕ) → k ≡ key → length key ≡ n
    → encryption (gcm_siv (encrypted n) k) MOST_GCM_SIV text aad draws ≡ gcm_siv_encrypts key text aad draws
siv_encrypts n pieces long key k text aad draws is size =
    ap (λ (x : List ℕ). encryption (gcm_siv (encrypted n) x) MOST_GCM_SIV text aad draws) is
    ∙ encryption_same (gcm_siv (encrypted n) key) (gcm_siv aes key) MOST_GCM_SIV text aad draws (λ nonce. gcm_siv-aes n key size pieces long nonce aad text)

-- and of a ciphertext
pub siv_decrypts : (n : ℕ) → 8 * (n / 8) ≡ n → 4 ≤ n → (key k input aad : List ℕ) → k ≡ key → length key ≡ n
    → decryption (gcm_siv (encrypted n) k) (gcm_siv_text_of (encrypted n) k) MOST_GCM_SIV input aad ≡ gcm_siv_decrypts key input aad
siv_decrypts n pieces long key k input aad is size =
    ap (λ (x : List ℕ). decryption (gcm_siv (encrypted n) x) (gcm_siv_text_of (encrypted n) x) MOST_GCM_SIV input aad) is
    ∙ decryption_same (gcm_siv (encrypted n) key) (gcm_siv aes key) (gcm_siv_text_of (encrypted n) key) (gcm_siv_text_of aes key) MOST_GCM_SIV input aad
    (λ nonce text. gcm_siv-aes n key size pieces long nonce aad text) (gcm_siv_text-aes n key size pieces long)
