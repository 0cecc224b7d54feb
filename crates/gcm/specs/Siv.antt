-- GCM-SIV by the steps of one message (RFC 8452, 4).
use Rattle.std.specs.Prelude.{◌≡◌, ℕ, List, ◌++◌, ◌==◌, ◌||◌, IsTrue, length, set, slice_index, bit_and}
use Rattle.std.specs.Int.{w32}
use Rattle.standards.specs.Counter.{ctr, plus_le}
use Rattle.standards.specs.GcmSiv.{counter_block}
use Rattle.standards.specs.Lists.{xor_bytes}
use Rattle.standards.specs.Polyval.{polyval}

-- a key that AES and GCM-SIV have: 16 or 32 bytes (RFC 8452, 4)
abbrev pub IsSivKeySize : ℕ → Type 0
IsSivKeySize k = IsTrue (k == 16 || k == 32)

-- the one-block maps of the ciphers that are made from keys
abbrev pub cipher_of : {C : Type 0} → (List ℕ → C) → (C → List ℕ → List ℕ) → List ℕ → List ℕ → List ℕ
cipher_of keyed encrypts key block = encrypts (keyed key) block

-- the tag that the map E makes of POLYVAL's result: the nonce added, and the top bit of byte 15 cleared
unfoldable pub tag_under : (List ℕ → List ℕ) → List ℕ → List ℕ → List ℕ
tag_under E sum nonce = let s = xor_bytes sum nonce in E (set s 15 (bit_and (slice_index s 15) 0x7f))

-- ciphertext and tag, by the map E under the message-encryption key and the message-authentication key
unfoldable pub sealed_under : (List ℕ → List ℕ) → List ℕ → List ℕ → List ℕ → List ℕ → List ℕ
sealed_under E authentication nonce aad text =
    let tag = tag_under E (polyval authentication aad text) nonce in
    ctr E (plus_le w32) (counter_block tag) text ++ tag

-- the map E makes blocks of blocks
abbrev pub KeepsBlocks : (List ℕ → List ℕ) → Type 0
KeepsBlocks E = (block : List ℕ) → length block ≡ 16 → length (E block) ≡ 16
