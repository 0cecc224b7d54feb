-- What a new writer of a key's stream says, and what stands after a refusal of one.
use Rattle.std.specs.Prelude.{◌≡◌, ℕ, ◌+◌, ◌<◌, ◌≤◌, Bool, List, [], length, drop, Some, Result, Ok, Err, IfOk}
use Rattle.std.specs.declared.option.Option.{Option}
use Rattle.std.specs.Io.KnownBytes.{Appends}
use Rattle.tink_io.specs.Faults.{Rose}
use Rattle.tink_io.specs.Written.{AppendsPrefix}
use Rattle.tink_io.specs.declared.error.Kind.{Kind}
use Rattle.tink_io.specs.declared.error.Kind.TheVariants.{OutOfMemory, RandomFault, UnknownHash, UnsupportedHash, WriteFault}
use Rattle.tink_primitives.specs.Meaning.{IsEndOf}
use Rattle.tink_primitives.specs.declared.streams.Refused.{Refused}
use Rattle.stream_model.specs.Key.{StreamKey, first_room, front, keys_of, nonce_size, room, segment_at}
use Rattle.stream_model.specs.Sealing.{drawn, nonce_prefix_of, salt_of}
use Rattle.tink_streaming_ciphers.specs.StreamSegments.{segment_by}
use Rattle.tink_streaming_keys.specs.StreamingKeys.{DerivesNothing}
use Rattle.tink_streaming_io.specs.Writers.{WriterState, moment_of, seg_of}
use Rattle.tink_streaming_io.specs.Writing.{WriterMoment}
use Rattle.tink_streaming_ciphers.specs.declared.stream_segment.StreamSegment.{StreamSegment}
use Rattle.tink_streaming_io.specs.declared.writing.Mode.TheVariants.{Open}

-- salt and prefix were drawn
pub record DrewHeader (k : StreamKey) (draws left : List ℕ) : Type 0 where
  pub enough : drawn k ≤ length draws
  pub rest : left ≡ drop (drawn k) draws

-- Salt and prefix are the first draws. The front alone was written, behind what was there before, and a writer that has
-- taken no text makes the segments of the key.
pub record IsNewStream (k : StreamKey) (aad draws left : List ℕ) (before : Option (List ℕ)) (seg : ℕ → Bool → List ℕ → List ℕ) (first later : ℕ) (m : WriterMoment) : Type 0 where
  pub drew : DrewHeader k draws left
  pub keys : List ℕ
  pub keys_are : keys_of k aad (salt_of k draws) ≡ Some keys
  pub written : Appends before m.got (front k (salt_of k draws) (nonce_prefix_of k draws))
  pub segments : seg ≡ segment_at k keys (nonce_prefix_of k draws)
  pub first_is : first ≡ first_room k
  pub later_is : later ≡ room k
  pub is_open : m.mode ≡ Open
  pub number : m.number ≡ 0
  pub held : m.held ≡ []

-- nothing was drawn or written
pub record DrewNothing {W : Type 0} (draws left : List ℕ) (old new : W) : Type 0 where
  pub undrawn : left ≡ draws
  pub same : new ≡ old

-- fewer draws are left than a salt and a prefix take
pub record HasFewDraws {W : Type 0} (k : StreamKey) (draws left : List ℕ) (old new : W) : Type 0 where
  pub few : length draws < drawn k
  pub untouched : DrewNothing draws left old new

-- the hash of HKDF is refused; the draws were taken, and nothing was written
pub record DrewHeaderAlone {W : Type 0} (k : StreamKey) (draws left : List ℕ) (old new : W) (kind : Kind) : Type 0 where
  pub drew : DrewHeader k draws left
  pub hash : DerivesNothing k kind
  pub same : new ≡ old

module _ {W : Type 0} (got : W → Option (List ℕ)) (faults : W → ℕ) (k : StreamKey) (aad draws left : List ℕ) (old new : W) where
  -- the sink failed, and has a prefix of the front
  pub record WroteFrontPart : Type 0 where
    pub drew : DrewHeader k draws left
    pub keys : List ℕ
    pub keys_are : keys_of k aad (salt_of k draws) ≡ Some keys
    pub begun : AppendsPrefix (got old) (got new) (front k (salt_of k draws) (nonce_prefix_of k draws))
    pub rose : Rose (faults old) (faults new)

  -- each refusal of a new writer
  abbrev pub NewWriterRefused : Kind → Type 0
  NewWriterRefused OutOfMemory = DrewNothing draws left old new
  NewWriterRefused RandomFault = HasFewDraws k draws left old new
  NewWriterRefused UnknownHash = DrewHeaderAlone k draws left old new UnknownHash
  NewWriterRefused UnsupportedHash = DrewHeaderAlone k draws left old new UnsupportedHash
  NewWriterRefused WriteFault = WroteFrontPart
  NewWriterRefused _ = ⊥

-- what a call for a new writer into a sink answers
abbrev pub NewWriterMeans : {W : Type 0} → (W → Option (List ℕ)) → (W → ℕ) → StreamKey → List ℕ → List ℕ → List ℕ → W → Result (WriterState W StreamSegment) (Refused W) → Type 0
NewWriterMeans got faults k aad draws left sink (Ok w) = IsNewStream k aad draws left (got sink) (seg_of segment_by w.sealing) w.sealing.first w.sealing.room (moment_of got faults w)
NewWriterMeans got faults k aad draws left sink (Err refused) = NewWriterRefused got faults k aad draws left sink refused.inner refused.error.kind

-- the sink, in the writer or handed back
abbrev pub sink_of : {W : Type 0} → Result (WriterState W StreamSegment) (Refused W) → W
sink_of (Ok w) = w.sink
sink_of (Err refused) = refused.inner

-- the memory for a segment of a key, its nonce and the prefix of nonces, in bytes
abbrev pub writer_room : StreamKey → ℕ
writer_room k = k.segment + nonce_size k + 7

-- a call for a new writer into a sink: what it answers, that the sink's count of faults does not fall, what it keeps of the
-- sink and of the draws, and the memory that the writer has
pub record StartsWriter {W : Type 0} (got : W → Option (List ℕ)) (faults : W → ℕ) (same : W → W → Type 0) (k : StreamKey) (aad draws left : List ℕ) (sink : W) (result : Result (WriterState W StreamSegment) (Refused W)) : Type 0 where
  pub means : NewWriterMeans got faults k aad draws left sink result
  pub later : faults sink ≤ faults (sink_of result)
  pub kept : same sink (sink_of result)
  pub memory : IfOk result (λ w. w.memory ≡ writer_room k)
  pub ends : IsEndOf left draws
