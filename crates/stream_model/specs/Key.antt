-- A streaming key: its sizes, its derived keys, its header and its segments.
use Rattle.std.specs.Prelude.{◌≡◌, ◌⊎◌, ◌≤◌, ◌<◌, ◌^◌, ℕ, ◌+◌, ◌-◌, Bool, List, [], ◌∷◌, ◌++◌, take, drop, None, Some}
use Rattle.std.specs.declared.option.Option.{Option}
use Rattle.std.specs.Int.{w64}
use Rattle.hash_keys.specs.declared.Hash.{Hash}
use Rattle.hash_keys.specs.declared.Hash.TheVariants.{Sha1, Sha224, Sha256, Sha384, Sha512}
use Rattle.hash_keys.specs.Hash.{digest_size, hmac_of, hkdf_of}
use Rattle.standards.specs.AesKeys.{aes}
use Rattle.standards.specs.Counter.{ctr, plus_be}
use Rattle.standards.specs.Gcm.{gcm}
use Rattle.stream_model.specs.Cut.{numbered}

-- how segments are made: in counter mode with the first bytes of an HMAC, by a hash and a number of bytes, or by GCM
pub data SegmentKind : Type 0 where
  CtrHmac : Hash → ℕ → SegmentKind
  Gcm : SegmentKind

pub record StreamKey : Type 0 where
  pub main : List ℕ
  -- none where a number names no hash
  pub hkdf_hash : Option Hash
  pub derived : ℕ
  pub segment : ℕ
  -- how many bytes the first segment leaves free, besides those of the header
  pub offset : ℕ
  pub kind : SegmentKind
  -- what stands before the header of a stream
  pub out : List ℕ

-- the key with this before the header of its streams
abbrev pub fronted : List ℕ → StreamKey → StreamKey
fronted out k = record k { out = out }

-- the bytes that a segment has more than its text
abbrev pub overhead_of : SegmentKind → ℕ
overhead_of (CtrHmac hash tag) = tag
overhead_of Gcm = 16

abbrev pub overhead : StreamKey → ℕ
overhead k = overhead_of k.kind

abbrev pub nonce_size_of : SegmentKind → ℕ
nonce_size_of (CtrHmac hash tag) = 16
nonce_size_of Gcm = 12

abbrev pub nonce_size : StreamKey → ℕ
nonce_size k = nonce_size_of k.kind

-- an AES key of so many bytes, and for HMAC a key of 32
abbrev pub derived_bytes_of : SegmentKind → ℕ → ℕ
derived_bytes_of (CtrHmac hash tag) derived = derived + 32
derived_bytes_of Gcm derived = derived

-- a byte of length, a salt and a prefix of seven bytes
abbrev pub header_length : StreamKey → ℕ
header_length k = k.derived + 8

-- the first segment is shorter by the header, and by the bytes that it leaves free
abbrev pub first_segment : StreamKey → ℕ
first_segment k = k.segment - header_length k - k.offset

-- the most text in the first segment, and in each later one
abbrev pub first_room : StreamKey → ℕ
first_room k = first_segment k - overhead k

abbrev pub room : StreamKey → ℕ
room k = k.segment - overhead k

abbrev pub header : StreamKey → List ℕ → List ℕ → List ℕ
header k salt prefix = header_length k ∷ salt ++ prefix

-- what stands before the first segment
abbrev pub front : StreamKey → List ℕ → List ℕ → List ℕ
front k salt prefix = k.out ++ header k salt prefix

-- HKDF with the associated data as info; SHA-224 and an unknown hash derive no keys
abbrev pub derived_by : Option Hash → List ℕ → List ℕ → List ℕ → ℕ → Option (List ℕ)
derived_by None main salt aad n = None
derived_by (Some Sha1) main salt aad n = Some (hkdf_of Sha1 main salt aad n)
derived_by (Some Sha224) main salt aad n = None
derived_by (Some Sha256) main salt aad n = Some (hkdf_of Sha256 main salt aad n)
derived_by (Some Sha384) main salt aad n = Some (hkdf_of Sha384 main salt aad n)
derived_by (Some Sha512) main salt aad n = Some (hkdf_of Sha512 main salt aad n)

abbrev pub keys_of : StreamKey → List ℕ → List ℕ → Option (List ℕ)
keys_of k aad salt = derived_by k.hkdf_hash k.main salt aad (derived_bytes_of k.kind k.derived)

-- the text in counter mode from the nonce, counted in its last eight bytes, and then the first bytes of HMAC over nonce and ciphertext
abbrev pub ctr_hmac_segment : Hash → ℕ → List ℕ → List ℕ → List ℕ → List ℕ → List ℕ
ctr_hmac_segment hash tag aes_key hmac_key n text =
    let c = ctr (aes aes_key) (plus_be w64) n text in
    c ++ take tag (hmac_of hash hmac_key (n ++ c))

-- GCM without associated data
abbrev pub gcm_segment : List ℕ → List ℕ → List ℕ → List ℕ
gcm_segment aes_key n text = gcm (aes aes_key) n [] text

-- a text's segment under derived keys
abbrev pub segment_of : SegmentKind → ℕ → List ℕ → List ℕ → List ℕ → List ℕ
segment_of (CtrHmac hash tag) derived keys n text = ctr_hmac_segment hash tag (take derived keys) (drop derived keys) n text
segment_of Gcm derived keys n text = gcm_segment keys n text

-- a text's segment by its number and mark
abbrev pub segment_at : StreamKey → List ℕ → List ℕ → ℕ → Bool → List ℕ → List ℕ
segment_at k keys prefix = numbered (segment_of k.kind k.derived keys) (nonce_size k) prefix

-- ten bytes at least, a digest at most
abbrev pub IsTag : SegmentKind → Type 0
IsTag (CtrHmac hash tag) = (10 ≤ tag) × (tag ≤ digest_size hash)
IsTag Gcm = Unit {0}

-- what a key of the product keeps to
pub record IsUsable (k : StreamKey) : Type 0 where
  pub derived : (k.derived ≡ 16) ⊎ (k.derived ≡ 32)
  pub tag : IsTag k.kind
  -- the first segment has room for some text
  pub room : header_length k + k.offset + overhead k < k.segment
  pub segment : k.segment < 2 ^ 32
