-- From a message to a streaming key.
use Rattle.std.specs.Prelude.{ℕ, ◌+◌, ◌^◌, ℤ, List, [], length, codes, Bool, ◌&&◌, ◌||◌, if◌then◌else◌, nat_eq, nat_le, nat_lt, Option, Some, None}
use Rattle.std.specs.Ordering.{int_eq}
use Rattle.hash_keys.specs.declared.Hash.{Hash}
use Rattle.hash_keys.specs.declared.Hash.TheVariants.{Sha1, Sha224, Sha256, Sha384, Sha512}
use Rattle.hash_keys.specs.Hash.{digest_size}
use Rattle.tink_proto.specs.declared.enums.HashType.TheVariants as types
use Rattle.tink_proto.specs.Enums.{hash_number}
use Rattle.tink_proto_keys.specs.Streaming.{AesGcmHkdfStreamingKey, AesCtrHmacStreamingKey}
use Rattle.wire_format.specs.Reading.{◌>>=◌}
use Rattle.stream_model.specs.Key.{StreamKey}
use Rattle.stream_model.specs.Key.SegmentKind.{CtrHmac, Gcm}

-- the URL of keys of streaming AEAD by AES-CTR and HMAC
abbrev pub aes_ctr_hmac_url : List ℕ
aes_ctr_hmac_url = codes "type.googleapis.com/google.crypto.tink.AesCtrHmacStreamingKey"

-- the URL of keys of streaming AEAD by AES-GCM
abbrev pub aes_gcm_hkdf_url : List ℕ
aes_gcm_hkdf_url = codes "type.googleapis.com/google.crypto.tink.AesGcmHkdfStreamingKey"

-- the hash of a number, where one has it
abbrev pub hash_numbered : ℤ → Option Hash
hash_numbered n =
    if int_eq n (hash_number types.Sha1) then Some Sha1
    else if int_eq n (hash_number types.Sha384) then Some Sha384
    else if int_eq n (hash_number types.Sha256) then Some Sha256
    else if int_eq n (hash_number types.Sha512) then Some Sha512
    else if int_eq n (hash_number types.Sha224) then Some Sha224
    else None

-- 16 or 32 bytes
abbrev pub is_aes_size : ℕ → Bool
is_aes_size n = nat_eq n 16 || nat_eq n 32

-- The key has 16 or 32 bytes, and so has a derived one, which is no longer.
abbrev pub are_key_sizes : ℕ → ℕ → Bool
are_key_sizes main derived = is_aes_size main && is_aes_size derived && nat_le derived main

-- Beside these sizes, the tag has from ten bytes to a digest, and the first segment room for a header, a tag and some
-- text.
abbrev pub is_streaming : ℕ → ℕ → Hash → ℕ → ℕ → Bool
is_streaming main derived tag_hash tag segment =
    are_key_sizes main derived && nat_le 10 tag && nat_le tag (digest_size tag_hash)
    && nat_le (derived + 7 + tag + 2) segment && nat_lt segment (2 ^ 32)

abbrev pub streaming_key : List ℕ → ℕ → Hash → Hash → ℕ → ℕ → Option StreamKey
streaming_key main derived hkdf_hash tag_hash tag segment =
    if is_streaming (length main) derived tag_hash tag segment
    then Some (record { main = main; hkdf_hash = Some hkdf_hash; derived = derived; segment = segment; offset = 0; kind = CtrHmac tag_hash tag; out = [] })
    else None

-- the streaming key of a message of version 0, which has its parameters and those of its HMAC
unfoldable pub streaming_of : AesCtrHmacStreamingKey → Option StreamKey
streaming_of m = do
  params ← m.params
  hmac ← params.hmac_params
  hkdf_hash ← hash_numbered params.hkdf_hash_type
  tag_hash ← hash_numbered hmac.hash
  if nat_eq m.version 0 then streaming_key m.key_value params.derived_key_size hkdf_hash tag_hash hmac.tag_size params.ciphertext_segment_size else None

-- Beside these sizes, the first segment has room for a header, a tag of 16 bytes and some text.
abbrev pub is_gcm_streaming : ℕ → ℕ → ℕ → Bool
is_gcm_streaming main derived segment = are_key_sizes main derived && nat_le (derived + 25) segment && nat_lt segment (2 ^ 32)

abbrev pub gcm_streaming_key : List ℕ → ℕ → Hash → ℕ → Option StreamKey
gcm_streaming_key main derived hkdf_hash segment =
    if is_gcm_streaming (length main) derived segment
    then Some (record { main = main; hkdf_hash = Some hkdf_hash; derived = derived; segment = segment; offset = 0; kind = Gcm; out = [] })
    else None

-- the streaming key by GCM of a message of version 0, which has its parameters
unfoldable pub gcm_hkdf_of : AesGcmHkdfStreamingKey → Option StreamKey
gcm_hkdf_of m = do
  params ← m.params
  hkdf_hash ← hash_numbered params.hkdf_hash_type
  if nat_eq m.version 0 then gcm_streaming_key m.key_value params.derived_key_size hkdf_hash params.ciphertext_segment_size else None
