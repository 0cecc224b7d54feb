-- The memory in which the key of a stream is chosen.
use Rattle.std.specs.Prelude.{◌≤◌, ◌<◌, ◌+◌, ℕ, List, All, length}
use Rattle.stream_model.specs.Key.{StreamKey, nonce_size}

-- the streams of each of the keys have room: an output prefix, a segment and a byte more, a text, a nonce, and a prefix
-- of nonces
pub record HasRoomForEach {T : Type 0} (key_of : T → StreamKey) (keys : List T) (sealed text nonce prefix : ℕ) : Type 0 where
  pub sealed_room : All (λ k. length (key_of k).out + (key_of k).segment < sealed) keys
  pub text_room : All (λ k. (key_of k).segment ≤ text) keys
  pub nonce_room : All (λ k. nonce_size (key_of k) ≤ nonce) keys
  pub prefix_room : 7 ≤ prefix
