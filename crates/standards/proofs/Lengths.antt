-- The lengths of hashes' and modes' results.
use Rattle.std.proofs.Common.{◌≡◌, ◌<◌, ◌+◌, ◌-◌, ◌*◌, ◌/◌, ◌%◌, ℕ, zero, suc, List, ◌++◌, length, take, refl, ap, ap₂, ◌∙◌, arith, length-append}
use Rattle.std.proofs.lemmas.List.{length-take-le}
use Rattle.std.proofs.lemmas.Nat.{div-add-mod'}
use Rattle.std.specs.Int.{w32, w128, to_le_bytes}
use Rattle.sha1.specs.Sha1.{digest_bytes, sha1}
use Rattle.standards.specs.Hmac.{hmac}
use Rattle.standards.specs.Hkdf.{expand, expand_block, hkdf}
use Rattle.standards.specs.Counter.{ctr, plus_be, plus_le}
use Rattle.standards.specs.Cmac.{cmac, double_block}
use Rattle.standards.specs.Ghash.{ghash}
use Rattle.standards.specs.Polyval.{polyval}
use Rattle.standards.specs.Gcm.{gcm, gcm_tag, gcm_text}
use Rattle.standards.specs.GcmSiv.{counter_block, derived, encryption_key, gcm_siv, gcm_siv_tag, gcm_siv_text}
use Rattle.standards.specs.Siv.{siv, siv_counter, s2v}
use Rattle.standards.proofs.ListFacts.{length-xor_bytes}
use Rattle.standards.proofs.Keystream.{length-ctr}

-- a digest of SHA-1 has 20 bytes
pub length-sha1 : (m : List ℕ) → length (sha1 m) ≡ 20
unfolding sha1 digest_bytes
length-sha1 m = refl

-- HMAC is as long as its hash
pub length-hmac : (H : List ℕ → List ℕ) (B D : ℕ) (key text : List ℕ) → ((m : List ℕ) → length (H m) ≡ D) → length (hmac H B key text) ≡ D
unfolding hmac
length-hmac H B D key text size = size _

-- so is each block of HKDF
pub length-expand_block : (H : List ℕ → List ℕ) (B D : ℕ) (prk info : List ℕ) (i : ℕ) → ((m : List ℕ) → length (H m) ≡ D) → length (expand_block H B prk info (suc i)) ≡ D
unfolding expand_block
length-expand_block H B D prk info i size = length-hmac H B D _ _ size

-- n blocks have n D bytes
pub length-expand : (H : List ℕ → List ℕ) (B D : ℕ) (prk info : List ℕ) (n : ℕ) → ((m : List ℕ) → length (H m) ≡ D) → length (expand H B prk info n) ≡ n * D
unfolding expand
length-expand H B D prk info zero size = omega arith
length-expand H B D prk info (suc n) size =
    omega (arith, length-expand H B D prk info n size, length-expand_block H B D prk info n size, length-append (expand H B prk info n) (expand_block H B prk info (suc n)))

-- HKDF gives as many bytes as are asked for
pub length-hkdf : (H : List ℕ → List ℕ) (B D : ℕ) (ikm salt info : List ℕ) (len : ℕ) → 0 < D → ((m : List ℕ) → length (H m) ≡ D) → length (hkdf H B D ikm salt info len) ≡ len
unfolding hkdf
length-hkdf H B D ikm salt info len pos size =
    let n = (len + D - 1) / D in
    let whole = length-expand H B D (hmac H B salt ikm) info n size in
    let up = div-add-mod' (len + D - 1) D in
    let rest : (len + D - 1) % D < D = omega arith in
    length-take-le len _ (omega (arith, whole, up, rest))

-- a doubled block has 16 bytes
pub length-double_block : (b : List ℕ) → length (double_block b) ≡ 16
unfolding double_block
length-double_block b = refl

-- CMAC is a block
pub length-cmac : (E : List ℕ → List ℕ) (text : List ℕ) → ((b : List ℕ) → length (E b) ≡ 16) → length (cmac E text) ≡ 16
unfolding cmac
length-cmac E text size = size _

-- GHASH is a block
pub length-ghash : (key aad text : List ℕ) → length (ghash key aad text) ≡ 16
unfolding ghash
length-ghash key aad text = refl

-- POLYVAL is a block
pub length-polyval : (key aad text : List ℕ) → length (polyval key aad text) ≡ 16
unfolding polyval
length-polyval key aad text = refl

-- a tag of GCM has 16 bytes
pub length-gcm_tag : (E : List ℕ → List ℕ) (nonce aad text : List ℕ) → length (gcm_tag E nonce aad text) ≡ 16
unfolding gcm_tag
length-gcm_tag E nonce aad text = length-xor_bytes _ _ ∙ length-ghash _ aad text

-- GCM adds 16 bytes
pub length-gcm : (E : List ℕ → List ℕ) (nonce aad text : List ℕ) → length (gcm E nonce aad text) ≡ length text + 16
unfolding gcm
length-gcm E nonce aad text = length-append _ _ ∙ ap (λ n. length (gcm_text E nonce text) + n) (length-gcm_tag E nonce aad _) ∙ ap (λ n. n + 16) (length-ctr E _ _ text)

-- n pieces have 8 n bytes
pub length-derived : (E : List ℕ → List ℕ) (nonce : List ℕ) (i n : ℕ) → ((b : List ℕ) → length (E b) ≡ 16) → length (derived E nonce i n) ≡ 8 * n
unfolding derived
length-derived E nonce i zero size = refl
length-derived E nonce i (suc n) size =
    let piece = E (to_le_bytes w32 (i + n) ++ nonce) in
    let e = length-take-le 8 piece (omega (arith, size (to_le_bytes w32 (i + n) ++ nonce))) in
    omega (arith, length-derived E nonce i n size, e, length-append (derived E nonce i n) (take 8 piece))

-- the message-encryption key is as long as the key, where that is a number of pieces
pub length-encryption_key : (cipher : List ℕ → List ℕ → List ℕ) (key nonce : List ℕ) → ((b : List ℕ) → length (cipher key b) ≡ 16) → length (encryption_key cipher key nonce) ≡ 8 * (length key / 8)
length-encryption_key cipher key nonce size = length-derived (cipher key) nonce 2 (length key / 8) size

-- a tag of GCM-SIV has 16 bytes, where the cipher gives 16 under the message-encryption key
pub length-gcm_siv_tag : (cipher : List ℕ → List ℕ → List ℕ) (key nonce aad text : List ℕ) → ((b : List ℕ) → length (cipher (encryption_key cipher key nonce) b) ≡ 16) → length (gcm_siv_tag cipher key nonce aad text) ≡ 16
unfolding gcm_siv_tag
length-gcm_siv_tag cipher key nonce aad text size = size _

-- the text keeps its length
pub length-gcm_siv_text : (cipher : List ℕ → List ℕ → List ℕ) (key nonce tag text : List ℕ) → length (gcm_siv_text cipher key nonce tag text) ≡ length text
unfolding gcm_siv_text
length-gcm_siv_text cipher key nonce tag text = length-ctr (cipher (encryption_key cipher key nonce)) (plus_le w32) (counter_block tag) text

-- GCM-SIV adds 16 bytes, where the cipher gives 16 under the message-encryption key
pub length-gcm_siv : (cipher : List ℕ → List ℕ → List ℕ) (key nonce aad text : List ℕ) → ((b : List ℕ) → length (cipher (encryption_key cipher key nonce) b) ≡ 16) → length (gcm_siv cipher key nonce aad text) ≡ length text + 16
unfolding gcm_siv
length-gcm_siv cipher key nonce aad text size =
    let tag = gcm_siv_tag cipher key nonce aad text in
    length-append (gcm_siv_text cipher key nonce tag text) tag ∙ ap₂ (λ m n. m + n) (length-gcm_siv_text cipher key nonce tag text) (length-gcm_siv_tag cipher key nonce aad text size)

-- S2V is a block
pub length-s2v : (E : List ℕ → List ℕ) (aad text : List ℕ) → ((b : List ℕ) → length (E b) ≡ 16) → length (s2v E aad text) ≡ 16
unfolding s2v
length-s2v E aad text size = length-cmac E _ size

-- SIV adds 16 bytes
pub length-siv : (Emac Ectr : List ℕ → List ℕ) (aad text : List ℕ) → ((b : List ℕ) → length (Emac b) ≡ 16) → length (siv Emac Ectr aad text) ≡ 16 + length text
unfolding siv
length-siv Emac Ectr aad text size =
    let v = s2v Emac aad text in
    length-append v (ctr Ectr (plus_be w128) (siv_counter v) text) ∙ ap₂ (λ m n. m + n) (length-s2v Emac aad text size) (length-ctr Ectr (plus_be w128) (siv_counter v) text)
