-- The keys of streams: which are made, and the cipher of segments that is derived from one.
use Rattle.std.specs.Prelude.{◌≡◌, ℕ, ◌+◌, List, [], length, take, drop, Bool, ◌&&◌, ◌||◌, nat_eq, nat_le, nat_lt, if◌then◌else◌, Option, Some, None, Result, Ok, Err}
use Rattle.hash_keys.specs.declared.Hash.{Hash}
use Rattle.hash_keys.specs.declared.Hash.TheVariants.{Sha1, Sha224, Sha256, Sha384, Sha512}
use Rattle.hash_keys.specs.Hash.{digest_size}
use Rattle.tink_io.specs.declared.error.Kind.{Kind}
use Rattle.tink_io.specs.declared.error.Kind.TheVariants.{BadKeySize, BadTagSize, SegmentTooSmall, UnknownHash, UnsupportedHash}
use Rattle.tink_io.specs.declared.error.TinkError.{TinkError}
use Rattle.tink_io.specs.Answering.{made_of}
use Rattle.stream_model.specs.Key.{SegmentKind, StreamKey, keys_of, overhead_of}
use Rattle.stream_model.specs.Key.SegmentKind.{CtrHmac, Gcm}
use Rattle.tink_streaming_keys.specs.declared.stream_params.SegmentParams.{SegmentParams}
use Rattle.tink_streaming_keys.specs.declared.stream_params.SegmentParams.TheVariants as params
use Rattle.tink_streaming_ciphers.specs.declared.stream_segment.StreamSegment.{StreamSegment}
use Rattle.tink_streaming_ciphers.specs.declared.stream_segment.StreamSegment.TheVariants as segments

abbrev pub kind_of : SegmentParams → SegmentKind
kind_of (params.CtrHmac hash tag) = CtrHmac hash tag
kind_of params.Gcm = Gcm

-- a key of no bytes, for streams with nothing before their header
abbrev pub empty_key : Option Hash → ℕ → SegmentKind → ℕ → ℕ → StreamKey
empty_key hkdf_hash derived kind segment offset = record {
  main = [];
  hkdf_hash = hkdf_hash;
  derived = derived;
  segment = segment;
  offset = offset;
  kind = kind;
  out = [];
}

-- the key of these bytes, with the hashes and sizes of another
abbrev pub with_main : List ℕ → StreamKey → StreamKey
with_main main k = record {
  main = main;
  hkdf_hash = k.hkdf_hash;
  derived = k.derived;
  segment = k.segment;
  offset = k.offset;
  kind = k.kind;
  out = [];
}

-- ---- which keys are made

-- The main key has 16 bytes or more. The derived AES key has 16 or 32, and no more than the main key.
abbrev pub is_key_size : ℕ → ℕ → Bool
is_key_size main derived = nat_le 16 main && nat_le derived main && (nat_eq derived 16 || nat_eq derived 32)

-- The first segment has room for some text behind the bytes that it leaves free, and a header of derived + 8 bytes.
abbrev pub sized : Option Hash → ℕ → SegmentKind → ℕ → ℕ → Result StreamKey Kind
sized hkdf_hash derived kind segment offset =
    if nat_le segment (offset + derived + 8 + overhead_of kind) then Err SegmentTooSmall else Ok (empty_key hkdf_hash derived kind segment offset)

-- A tag has at most a digest's bytes.
abbrev pub tagged : Option Hash → ℕ → Option Hash → ℕ → ℕ → ℕ → Result StreamKey Kind
tagged hkdf_hash derived None tag segment offset = Err UnknownHash
tagged hkdf_hash derived (Some h) tag segment offset =
    if nat_lt (digest_size h) tag then Err BadTagSize else sized hkdf_hash derived (CtrHmac h tag) segment offset

-- the hashes and sizes of a key of segments in counter mode with HMAC, for a main key of so many bytes, or the first
-- refusal that applies
abbrev pub ctr_hmac_sizes : ℕ → Option Hash → ℕ → Option Hash → ℕ → ℕ → ℕ → Result StreamKey Kind
ctr_hmac_sizes main hkdf_hash derived tag_hash tag segment offset =
    if is_key_size main derived then (if nat_lt tag 10 then Err BadTagSize else tagged hkdf_hash derived tag_hash tag segment offset)
    else Err BadKeySize

-- the same for segments by GCM
abbrev pub gcm_hkdf_sizes : ℕ → Option Hash → ℕ → ℕ → ℕ → Result StreamKey Kind
gcm_hkdf_sizes main hkdf_hash derived segment offset =
    if is_key_size main derived then sized hkdf_hash derived Gcm segment offset else Err BadKeySize

abbrev pub ctr_hmac_key : List ℕ → Option Hash → ℕ → Option Hash → ℕ → ℕ → ℕ → Result StreamKey Kind
ctr_hmac_key main hkdf_hash derived tag_hash tag segment offset = made_of (with_main main) (ctr_hmac_sizes (length main) hkdf_hash derived tag_hash tag segment offset)

abbrev pub gcm_hkdf_key : List ℕ → Option Hash → ℕ → ℕ → ℕ → Result StreamKey Kind
gcm_hkdf_key main hkdf_hash derived segment offset = made_of (with_main main) (gcm_hkdf_sizes (length main) hkdf_hash derived segment offset)

-- ---- what is derived

-- the hash by which HKDF derives keys
abbrev pub deriving_hash : Option Hash → Result Hash Kind
deriving_hash None = Err UnknownHash
deriving_hash (Some Sha1) = Ok Sha1
deriving_hash (Some Sha224) = Err UnsupportedHash
deriving_hash (Some Sha256) = Ok Sha256
deriving_hash (Some Sha384) = Ok Sha384
deriving_hash (Some Sha512) = Ok Sha512

-- the key derives nothing: its hash is refused by this kind
abbrev pub DerivesNothing : StreamKey → Kind → Type 0
DerivesNothing k kind = deriving_hash k.hkdf_hash ≡ Err kind

-- the cipher of segments under derived keys, the AES key first
abbrev pub cipher_of : SegmentKind → ℕ → List ℕ → StreamSegment
cipher_of (CtrHmac hash tag) derived keys = segments.CtrHmac (record { aes_key = take derived keys; hmac_key = drop derived keys; hash = hash; tag = tag })
cipher_of Gcm derived keys = segments.Gcm keys

-- the cipher of a stream's segments, by the keys that are derived with its salt and the associated data
pub record IsDerived (k : StreamKey) (aad salt : List ℕ) (cipher : StreamSegment) : Type 0 where
  pub keys : List ℕ
  pub keys_are : keys_of k aad salt ≡ Some keys
  pub cipher_is : cipher ≡ cipher_of k.kind k.derived keys

-- that cipher, or the refusal of a hash by which no keys are derived
abbrev pub Derives : StreamKey → List ℕ → List ℕ → Result StreamSegment TinkError → Type 0
Derives k aad salt (Ok cipher) = IsDerived k aad salt cipher
Derives k aad salt (Err e) = DerivesNothing k e.kind
