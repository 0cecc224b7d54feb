-- The large text of a number, its stream, and what is told of it.
use Rattle.std.specs.Prelude.{◌≡◌, ◌≤◌, ◌<◌, ℕ, ◌+◌, ◌*◌, ◌%◌, List, [], ◌∷◌, ◌++◌, length, map, drop, Some, codes, decimal}
use Rattle.std.specs.List.{range_with_len}
use Rattle.hash_keys.specs.declared.Hash.TheVariants.{Sha256}
use Rattle.hex.specs.Hex.{encode_lower}
use Rattle.sha2.specs.Sha256.{sha256}
use Rattle.stream_model.specs.Key.{StreamKey}
use Rattle.stream_model.specs.Key.SegmentKind.{CtrHmac}
use Rattle.stream_model.specs.Sealing.{chunk_count, drawn, nonce_prefix_of, salt_of, stream}
use Rattle.tink_io.specs.declared.error.Kind.{Kind}
use Rattle.tink_io.specs.declared.error.Kind.TheVariants.{OutOfMemory, RandomFault}
use Rattle.tink_large.specs.declared.measuring.Measured.{Measured}

-- the byte at a place
abbrev pub byte_at : ℕ → ℕ → ℕ
byte_at n i = (31 * i + n) % 251

-- so many bytes from a place on
unfoldable pub text_from : ℕ → ℕ → ℕ → List ℕ
text_from n at count = map (byte_at n) (range_with_len at count)

abbrev pub text_length : ℕ → ℕ
text_length n = n + 1000000

-- the text of a number
unfoldable pub large_text : ℕ → List ℕ
large_text n = text_from n 0 (text_length n)

-- Its key: HKDF and the tags by SHA-256, AES keys of 16 bytes, tags of 32, segments of 4,096.
abbrev pub large_key : StreamKey
large_key = record {
  main = range_with_len 0 16;
  hkdf_hash = Some Sha256;
  derived = 16;
  segment = 4096;
  offset = 0;
  kind = CtrHmac Sha256 32;
  out = [];
}

-- its stream without associated data, whose salt and prefix are the first draws
unfoldable pub large_stream : ℕ → List ℕ → List ℕ
large_stream n draws = stream large_key [] (salt_of large_key draws) (nonce_prefix_of large_key draws) (large_text n)

-- the lengths of text and stream, the number of segments and the digest of the stream
pub record IsMeasured (n : ℕ) (draws left : List ℕ) (m : Measured) : Type 0 where
  pub enough : drawn large_key ≤ length draws
  pub rest : left ≡ drop (drawn large_key) draws
  pub text : m.text ≡ length (large_text n)
  pub stream : m.stream ≡ length (large_stream n draws)
  pub segments : m.segments ≡ chunk_count large_key (large_text n)
  pub sha256 : m.sha256 ≡ sha256 (large_stream n draws)

-- nothing was drawn: there is no memory, or too few draws are left
abbrev pub MeasureRefused : List ℕ → List ℕ → Kind → Type 0
MeasureRefused draws left OutOfMemory = left ≡ draws
MeasureRefused draws left RandomFault = (length draws < drawn large_key) × (left ≡ draws)
MeasureRefused draws left _ = ⊥

-- a name, a space, a text and a newline
abbrev pub line : List ℕ → List ℕ → List ℕ
line name value = name ++ 32 ∷ value ++ 10 ∷ []

-- the four lines of numbers and a digest
abbrev pub four_lines : ℕ → ℕ → ℕ → List ℕ → List ℕ
four_lines text stream segments digest =
    line (codes "text") (decimal text) ++ line (codes "stream") (decimal stream)
    ++ line (codes "segments") (decimal segments) ++ line (codes "sha256") (encode_lower digest)

-- those of what was measured
abbrev pub large_lines : Measured → List ℕ
large_lines m = four_lines m.text m.stream m.segments m.sha256

-- those of a number under draws
unfoldable pub large_output : ℕ → List ℕ → List ℕ
large_output n draws =
    four_lines (length (large_text n)) (length (large_stream n draws)) (chunk_count large_key (large_text n)) (sha256 (large_stream n draws))
