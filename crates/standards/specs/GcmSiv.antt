-- GCM-SIV (RFC 8452, 2019, 4), over a cipher that makes a one-block map on 16 bytes of a key of 16 or 32 bytes; the nonce has 12 bytes, the tag 16.
use Rattle.std.specs.Prelude.{ℕ, zero, suc, ◌+◌, ◌/◌, List, [], ◌++◌, length, take, set, slice_index, bit_and, bit_or}
use Rattle.std.specs.Int.{w32, to_le_bytes}
use Rattle.standards.specs.Lists.{xor_bytes}
use Rattle.standards.specs.Counter.{ctr, plus_le}
use Rattle.standards.specs.Polyval.{polyval}

-- the n pieces of 8 bytes from number i on (4, derive_keys)
unfoldable pub derived : (List ℕ → List ℕ) → List ℕ → ℕ → ℕ → List ℕ
derived E nonce i zero = []
derived E nonce i (suc n) = derived E nonce i n ++ take 8 (E (to_le_bytes w32 (i + n) ++ nonce))

-- the message-authentication key: pieces 0 and 1 (4)
abbrev pub authentication_key : (List ℕ → List ℕ) → List ℕ → List ℕ
authentication_key E nonce = derived E nonce 0 2

-- the message-encryption key: pieces 2 on, as long as the key (4)
abbrev pub encryption_key : (List ℕ → List ℕ → List ℕ) → List ℕ → List ℕ → List ℕ
encryption_key cipher key nonce = derived (cipher key) nonce 2 (length key / 8)

-- POLYVAL xor the nonce, with the top bit of byte 15 cleared (4)
unfoldable pub tag_input : List ℕ → List ℕ → List ℕ → List ℕ → List ℕ
tag_input key nonce aad text =
    let s = xor_bytes (polyval key aad text) nonce in
    set s 15 (bit_and (slice_index s 15) 0x7f)

-- the tag of the plaintext (4)
unfoldable pub gcm_siv_tag : (List ℕ → List ℕ → List ℕ) → List ℕ → List ℕ → List ℕ → List ℕ → List ℕ
gcm_siv_tag cipher key nonce aad text = cipher (encryption_key cipher key nonce) (tag_input (authentication_key (cipher key) nonce) nonce aad text)

-- the first counter block: the tag with the top bit of byte 15 set (4)
abbrev pub counter_block : List ℕ → List ℕ
counter_block tag = set tag 15 (bit_or (slice_index tag 15) 0x80)

-- the text under the counter of a tag (4, AES_CTR)
unfoldable pub gcm_siv_text : (List ℕ → List ℕ → List ℕ) → List ℕ → List ℕ → List ℕ → List ℕ → List ℕ
gcm_siv_text cipher key nonce tag text = ctr (cipher (encryption_key cipher key nonce)) (plus_le w32) (counter_block tag) text

-- the ciphertext and its tag (4)
unfoldable pub gcm_siv : (List ℕ → List ℕ → List ℕ) → List ℕ → List ℕ → List ℕ → List ℕ → List ℕ
gcm_siv cipher key nonce aad text =
    let tag = gcm_siv_tag cipher key nonce aad text in
    gcm_siv_text cipher key nonce tag text ++ tag
