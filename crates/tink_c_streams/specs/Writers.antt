-- Writers of streams whose text comes in pieces, under the primary key of a file.
use Rattle.std.specs.Prelude.{◌≡◌, ◌⊎◌, ◌≤◌, ◌<◌, ◌^◌, ◌++◌, ℕ, Bool, List, [], length, take, None, Some, Ok, Err}
use Rattle.tink_io.specs.declared.error.Kind.{Kind}
use Rattle.tink_io.specs.declared.error.Kind.TheVariants.{OutOfMemory, RandomFault, UnsupportedHash}
use Rattle.stream_model.specs.Key.{StreamKey, first_room, front, keys_of, room, segment_at}
use Rattle.stream_model.specs.Sealing.{chunk_count, drawn, nonce_prefix_of, salt_of, stream}
use Rattle.loading_model.specs.Loading.{Loaded}
use Rattle.tink_keyset_io.specs.Files.{wire_of}
use Rattle.tink_run.specs.AllKeys.{load}
use Rattle.tink_c_bytes.specs.Delivered.{Handed}
use Rattle.tink_c_bytes.specs.Statuses.{c_status, ok}
use Rattle.tink_io.specs.declared.error.Kind.TheVariants as kind
use Rattle.tink_c_pieces.specs.Pieces.{HasTaken, PieceMoment}
use Rattle.tink_c_streams.specs.Streams.{InFile}

-- the writer makes the stream of a key with these random bytes, has taken this text, and gave these bytes
pub record IsWriting (k : StreamKey) (aad random text bytes : List ℕ) (seg : ℕ → Bool → List ℕ → List ℕ) (first later : ℕ) (m : PieceMoment) : Type 0 where
  pub enough : drawn k ≤ length random
  pub keys : List ℕ
  pub keys_are : keys_of k aad (salt_of k random) ≡ Some keys
  pub segments : seg ≡ segment_at k keys (nonce_prefix_of k random)
  pub first_is : first ≡ first_room k
  pub later_is : later ≡ room k
  pub some : 0 < first
  pub fits : first ≤ later
  pub taken : HasTaken seg first later (front k (salt_of k random) (nonce_prefix_of k random)) text bytes m

-- why there is no writer under a key
abbrev pub NoWriterUnder : StreamKey → List ℕ → List ℕ → Kind → Type 0
NoWriterUnder k aad random OutOfMemory = Unit {0}
NoWriterUnder k aad random RandomFault = length random < drawn k
NoWriterUnder k aad random UnsupportedHash = keys_of k aad (salt_of k random) ≡ None
NoWriterUnder k aad random _ = ⊥

module _ (wire aad random : List ℕ) where
  -- a writer that has taken no text, under the primary key of a keyset in the wire format
  pub record IsNewWriter (seg : ℕ → Bool → List ℕ → List ℕ) (first later : ℕ) (m : PieceMoment) : Type 0 where
    pub loaded : Loaded
    pub loads : load wire ≡ Ok loaded
    pub writes : IsWriting loaded.primary aad random [] [] seg first later m

  -- the keyset loads, and there is no writer under its primary key
  pub record HasNoWriter (kind : Kind) : Type 0 where
    pub loaded : Loaded
    pub loads : load wire ≡ Ok loaded
    pub cause : NoWriterUnder loaded.primary aad random kind

  abbrev pub NoNewWriter : Kind → Type 0
  NoNewWriter kind = (kind ≡ OutOfMemory) ⊎ (load wire ≡ Err kind) ⊎ HasNoWriter kind

-- and under the keyset of a file
module _ (file aad random : List ℕ) where
  abbrev pub BeginsWriter : (ℕ → Bool → List ℕ → List ℕ) → ℕ → ℕ → PieceMoment → Type 0
  BeginsWriter seg first later m = InFile file (λ wire. IsNewWriter wire aad random seg first later m)

  abbrev pub BeginsNoWriter : Kind → Type 0
  BeginsNoWriter kind = (kind ≡ OutOfMemory) ⊎ (wire_of file ≡ Err kind) ⊎ InFile file (λ wire. NoNewWriter wire aad random kind)

-- What a call with a piece tells of a stream. The text that was taken is longer by the piece, and what was given by the
-- output. The status of TooManySegments comes exactly if the text has more than 2^32 chunks.
pub record GoesOn (k : StreamKey) (aad random text bytes piece : List ℕ) (h : Handed) (seg : ℕ → Bool → List ℕ → List ℕ) (first later : ℕ) (new : PieceMoment) : Type 0 where
  pub taken : h.status ≡ ok → IsWriting k aad random (text ++ piece) (bytes ++ take h.written h.after) seg first later new
  pub fits : h.status ≡ ok → chunk_count k (text ++ piece) ≤ 2 ^ 32
  pub many : h.status ≡ c_status kind.TooManySegments → 2 ^ 32 < chunk_count k (text ++ piece)

-- What a call for the last segment tells of a stream: with its output the whole stream was given.
abbrev pub EndsStream : StreamKey → List ℕ → List ℕ → List ℕ → List ℕ → Handed → Type 0
EndsStream k aad random text bytes h = h.status ≡ ok → bytes ++ take h.written h.after ≡ stream k aad (salt_of k random) (nonce_prefix_of k random) text
