-- What a cipher of segments holds.
use Rattle.std.specs.Prelude.{◌≡◌, ℕ, List, length}
use Rattle.tink_streaming_ciphers.specs.declared.segment_cipher.SegmentCipher.{SegmentCipher}
use Rattle.tink_streaming_ciphers.specs.declared.segment_cipher.SegmentCipher.TheVariants.{Small, Large}
use Rattle.tink_streaming_ciphers.specs.declared.gcm_segment.SegmentAead.{SegmentAead}
use Rattle.tink_streaming_ciphers.specs.declared.gcm_segment.SegmentAead.TheVariants as aeads

-- the AES key
abbrev pub cipher_key : SegmentCipher → List ℕ
cipher_key (Small cipher) = cipher
cipher_key (Large cipher) = cipher

-- the key has the size of its cipher
abbrev pub FitsCipher : SegmentCipher → Type 0
FitsCipher (Small cipher) = length cipher ≡ 16
FitsCipher (Large cipher) = length cipher ≡ 32

-- the AES key of AES-GCM
abbrev pub aead_key : SegmentAead → List ℕ
aead_key (aeads.Small aead) = aead.cipher
aead_key (aeads.Large aead) = aead.cipher

abbrev pub FitsAead : SegmentAead → Type 0
FitsAead (aeads.Small aead) = length aead.cipher ≡ 16
FitsAead (aeads.Large aead) = length aead.cipher ≡ 32
