-- The memory for segments.
use Rattle.std.specs.Prelude.{◌≡◌, ◌≤◌, ◌<◌, ◌+◌, ℕ, [], Vec, length, vec_len, vec_capacity}
use Rattle.stream_model.specs.Opening.{OpeningKey}
use Rattle.tink_streaming_segment.specs.declared.segment_traits.SegmentDecrypter.{Ghosts}
pub use Rattle.tink_streaming_segment.specs.Rooms.{KeepsNonceAndText}
use Rattle.tink_streaming_io.specs.declared.buffers.Buffers.{Buffers}
use Rattle.tink_streaming_segment.specs.declared.kept.Kept.{Kept}
use Rattle.tink_streaming_segment.specs.declared.opener.Opener.{Opener}

-- no text is opened yet, and a segment and a byte more, its text and its nonce have room
pub record HasBuffersFor {D : Type 0} {g : Ghosts D} (o : Opener D g) (b : Buffers) : Type 0 where
  pub empty : b.text.items ≡ []
  pub text_room : o.size ≤ vec_capacity b.text
  pub sealed_room : o.size < vec_len b.sealed
  pub nonce_room : o.nonce_size ≤ vec_len b.nonce

-- a stream can be tried under the key: its output prefix, a segment and a byte more, a text, a nonce, and the prefix of
-- nonces have room
pub record HasRoomToTry (k : OpeningKey) (nonce_size sealed text nonce prefix : ℕ) : Type 0 where
  pub sealed_room : length k.out + k.size < sealed
  pub text_room : k.size ≤ text
  pub nonce_room : nonce_size ≤ nonce
  pub prefix_room : 7 ≤ prefix

-- the buffers have the memory that they had, and that of a nonce and that of what is kept their lengths, and no fewer
-- bytes are kept
pub record KeepsRoom {Z : Type 0} (kept_before kept : Kept) (nonce_before nonce opened_before opened : Vec ℕ Z) : Type 0 where
  pub buffers : KeepsNonceAndText nonce_before nonce opened_before opened
  pub len : vec_len kept.buffer ≡ vec_len kept_before.buffer
  pub kept_capacity : vec_capacity kept.buffer ≡ vec_capacity kept_before.buffer
  pub more : kept_before.filled ≤ kept.filled
