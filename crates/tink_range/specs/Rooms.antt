-- Memory for one segment, in which the front and the first segment of a stream are held too.
use Rattle.std.specs.Prelude.{◌≡◌, ◌≤◌, ℕ, Vec, vec_len, vec_capacity}
use Rattle.tink_streaming_io.specs.Rooms.{KeepsNonceAndText}

-- a segment, its text and its nonce have room
pub record HasRoomFor (size nonce_bytes sealed text nonce : ℕ) : Type 0 where
  pub sealed_room : size ≤ sealed
  pub text_room : size ≤ text
  pub nonce_room : nonce_bytes ≤ nonce

-- the buffers of a segment, of its text and of a nonce have the memory that they had, and those of a segment and of a
-- nonce their length
pub record KeepsBuffers {Z : Type 0} (sealed_before sealed text_before text nonce_before nonce : Vec ℕ Z) : Type 0 where
  pub buffers : KeepsNonceAndText nonce_before nonce text_before text
  pub sealed_len : vec_len sealed ≡ vec_len sealed_before
  pub sealed_capacity : vec_capacity sealed ≡ vec_capacity sealed_before
