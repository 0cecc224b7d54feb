-- What a new stream of which nothing is written says, and what stands after a refusal of one.
use Rattle.std.specs.Prelude.{◌≡◌, ℕ, ◌<◌, Bool, List, [], length, Some}
use Rattle.tink_io.specs.declared.error.Kind.{Kind}
use Rattle.tink_io.specs.declared.error.Kind.TheVariants.{OutOfMemory, RandomFault, UnknownHash, UnsupportedHash}
use Rattle.stream_model.specs.Key.{StreamKey, first_room, front, keys_of, nonce_size, overhead, room, segment_at}
use Rattle.stream_model.specs.Sealing.{drawn, nonce_prefix_of, salt_of}
use Rattle.tink_streaming_keys.specs.Encrypting.{DrewHeader}
use Rattle.tink_streaming_keys.specs.StreamingKeys.{DerivesNothing}
use Rattle.tink_streaming_io.specs.declared.writing.Mode.{Mode}
use Rattle.tink_streaming_io.specs.declared.writing.Mode.TheVariants.{Open}

-- Salt and prefix are the first draws, and these bytes are the front by them. A writer that has taken no text makes the
-- segments of the key.
pub record IsPrepared (k : StreamKey) (aad draws left bytes : List ℕ) (seg : ℕ → Bool → List ℕ → List ℕ) (first later : ℕ) (mode : Mode) (number : ℕ) (held : List ℕ) : Type 0 where
  pub drew : DrewHeader k draws left
  pub keys : List ℕ
  pub keys_are : keys_of k aad (salt_of k draws) ≡ Some keys
  pub front_is : bytes ≡ front k (salt_of k draws) (nonce_prefix_of k draws)
  pub segments : seg ≡ segment_at k keys (nonce_prefix_of k draws)
  pub first_is : first ≡ first_room k
  pub later_is : later ≡ room k
  pub is_open : mode ≡ Open
  pub none_written : number ≡ 0
  pub none_held : held ≡ []

-- the key's sizes: of a nonce, by how much a segment is longer than its text, and of the texts of the first and of each
-- later segment
pub record HasTextSizes (k : StreamKey) (nonce_bytes over first later : ℕ) : Type 0 where
  pub nonce_is : nonce_bytes ≡ nonce_size k
  pub overhead_is : over ≡ overhead k
  pub first_is : first ≡ first_room k
  pub later_is : later ≡ room k

-- fewer draws are left than a salt and a prefix take, and none were taken
pub record LacksDraws (k : StreamKey) (draws left : List ℕ) : Type 0 where
  pub few : length draws < drawn k
  pub undrawn : left ≡ draws

-- the hash of HKDF is refused, and the draws were taken
pub record DrewInVain (k : StreamKey) (draws left : List ℕ) (kind : Kind) : Type 0 where
  pub drew : DrewHeader k draws left
  pub hash : DerivesNothing k kind

-- each refusal of a new stream
abbrev pub NotPrepared : StreamKey → List ℕ → List ℕ → Kind → Type 0
NotPrepared k draws left OutOfMemory = left ≡ draws
NotPrepared k draws left RandomFault = LacksDraws k draws left
NotPrepared k draws left UnknownHash = DrewInVain k draws left UnknownHash
NotPrepared k draws left UnsupportedHash = DrewInVain k draws left UnsupportedHash
NotPrepared k draws left _ = ⊥
