-- The cipher of a stream's segments, by the first bytes of the stream.
use Rattle.std.specs.Prelude.{◌≡◌, ℕ, ◌+◌, Bool, List, length, take, drop, slice_index, Some, Result, Ok, Err}
use Rattle.tink_io.specs.declared.error.Kind.{Kind}
use Rattle.tink_io.specs.declared.error.Kind.TheVariants.{NoMatchingKey, UnknownHash, UnsupportedHash}
use Rattle.tink_io.specs.declared.error.TinkError.{TinkError}
use Rattle.stream_model.specs.Cut.{numbered}
use Rattle.stream_model.specs.Key.{StreamKey, first_segment, header_length, nonce_size, overhead}
use Rattle.stream_model.specs.Opening.{HasFront, OpeningKey, header_of, opening_key}
use Rattle.tink_streaming_ciphers.specs.StreamSegments.{nonce_length_by, overhead_by, segment_by}
use Rattle.tink_streaming_ciphers.specs.declared.stream_segment.StreamSegment.{StreamSegment}
use Rattle.tink_streaming_keys.specs.StreamingKeys.{DerivesNothing, IsDerived}

-- the bytes are as many as a header of the key, and the first one tells this
pub record IsHeader (k : StreamKey) (header : List ℕ) : Type 0 where
  pub long : length header ≡ header_length k
  pub mark : slice_index header 0 ≡ header_length k

-- the cipher of the segments of the key's stream with this header
pub record IsDecrypter (k : StreamKey) (aad header : List ℕ) (cipher : StreamSegment) : Type 0 where
  pub header_is : IsHeader k header
  pub derived : IsDerived k aad (take k.derived (drop 1 header)) cipher
  pub segments : (opening_key aad k).seg header ≡ Some (numbered (segment_by cipher) (nonce_size k) (drop (k.derived + 1) header))
  pub nonce : nonce_length_by cipher ≡ nonce_size k
  pub overhead_is : overhead_by cipher ≡ overhead k

-- the bytes are a header of the key, whose hash is refused
pub record HasRefusedHash (k : StreamKey) (header : List ℕ) (kind : Kind) : Type 0 where
  pub header_is : IsHeader k header
  pub hash : DerivesNothing k kind

abbrev pub DecrypterRefused : StreamKey → List ℕ → Kind → Type 0
DecrypterRefused k header NoMatchingKey = IsHeader k header → ⊥
DecrypterRefused k header UnknownHash = HasRefusedHash k header UnknownHash
DecrypterRefused k header UnsupportedHash = HasRefusedHash k header UnsupportedHash
DecrypterRefused k header _ = ⊥

-- what the call for a header's cipher answers
abbrev pub DecrypterMeans : StreamKey → List ℕ → List ℕ → Result StreamSegment TinkError → Type 0
DecrypterMeans k aad header (Ok cipher) = IsDecrypter k aad header cipher
DecrypterMeans k aad header (Err e) = DecrypterRefused k header e.kind

-- the bytes begin in a front of the key, and the segments behind it are opened by this map, with the key's sizes
pub record OpensBehind (k : OpeningKey) (nonce : ℕ) (held : List ℕ) (seg : ℕ → Bool → List ℕ → List ℕ) (first size over nonce_bytes : ℕ) : Type 0 where
  pub front : HasFront k held
  pub map : k.seg (header_of k held) ≡ Some seg
  pub first_is : first ≡ k.first
  pub size_is : size ≡ k.size
  pub overhead_is : over ≡ k.overhead
  pub nonce_is : nonce_bytes ≡ nonce

-- the key's sizes: of a nonce, of the first and of each later segment, and by how much a segment is longer than its text
pub record HasKeySizes (k : StreamKey) (nonce_bytes over first size : ℕ) : Type 0 where
  pub nonce_is : nonce_bytes ≡ nonce_size k
  pub overhead_is : over ≡ overhead k
  pub first_is : first ≡ first_segment k
  pub size_is : size ≡ k.segment
