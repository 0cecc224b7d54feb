-- What remains to be opened of a stream, and how the stream of a large text begins.
use Rattle.std.specs.Prelude.{◌≡◌, ◌≤◌, ◌<◌, ℕ, ◌+◌, Bool, List, [], length, drop, vec_len, vec_capacity, Some}
use Rattle.std.specs.declared.option.Option.{Option}
use Rattle.stream_model.specs.Agree.{AreTexts, joined}
use Rattle.stream_model.specs.Cut.{cut, room_at}
use Rattle.stream_model.specs.Key.{first_room, overhead, room}
use Rattle.stream_model.specs.Sealing.{chunk_count, drawn}
use Rattle.tink_streaming_segment.specs.declared.segment_traits.SegmentEncrypter.{Ghosts}
use Rattle.tink_streaming_io.specs.Sealers.{held_text}
use Rattle.tink_streaming_io.specs.declared.writing.SegmentWriter.{SegmentWriter}
use Rattle.tink_streaming_keys.specs.declared.starting.Trial.{Trial}
use Rattle.tink_large.specs.Coming.{left_of}
use Rattle.tink_large.specs.Large.{large_key, large_stream, large_text}
use Rattle.tink_large.specs.declared.pending.Pending.{Pending}

-- So many bytes were opened. The other segments, numbered from i, are those of texts with all other bytes.
pub record Remains (seg : ℕ → Bool → List ℕ → List ℕ) (first size i : ℕ) (rest : Option (List ℕ)) (bytes total count : ℕ) : Type 0 where
  pub stream : List ℕ
  pub told : rest ≡ Some stream
  pub texts : List (List ℕ)
  pub are : AreTexts seg i (cut (room_at first size i) size stream) texts
  pub all : length (cut (room_at first size i) size stream) ≡ length texts
  pub bytes_are : bytes + length (joined texts) ≡ total
  pub segments_are : i + length texts ≡ count
  pub some : i ≡ 0 → 0 < length texts

-- all of the large text remains
abbrev pub AllRemains : (ℕ → Bool → List ℕ → List ℕ) → ℕ → ℕ → ℕ → Option (List ℕ) → ℕ → ℕ → Type 0
AllRemains seg first size i rest bytes n = Remains seg first size i rest bytes (length (large_text n)) (chunk_count large_key (large_text n))

-- some draws give the stream
abbrev pub IsLargeStream : ℕ → List ℕ → Type 0
IsLargeStream n S = (draws : List ℕ) × (drawn large_key ≤ length draws) × (S ≡ large_stream n draws)

-- a trial has room for a segment and one byte more, for its text, for a nonce and for the prefix of nonces
abbrev pub HasLargeRoom : Trial → Type 0
HasLargeRoom t = (4096 < vec_len t.kept.buffer) × (4096 ≤ vec_capacity t.opened) × (16 ≤ vec_len t.nonce) × (7 ≤ vec_capacity t.prefix)

module _ {E : Type 0} {g : Ghosts E} where
  -- salt and prefix were drawn, the front is pending, and a writer makes the segments of the key
  pub record IsBegun (draws left : List ℕ) (w : SegmentWriter E g) (p : Pending) : Type 0 where
    pub enough : drawn large_key ≤ length draws
    pub rest : left ≡ drop (drawn large_key) draws
    pub stream : (n : ℕ) → left_of n 0 w p ≡ large_stream n draws
    pub first : w.sealer.first ≡ first_room large_key
    pub later : w.sealer.room ≡ room large_key
    pub overhead_is : w.sealer.overhead ≡ overhead large_key
    pub number : w.segments ≡ 0
    pub held : held_text w ≡ []
