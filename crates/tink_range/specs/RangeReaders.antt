-- What a contract sees of a reader of ranges.
use Rattle.std.specs.Prelude.{ℕ, Result, Ok, Err}
use Rattle.tink_io.specs.declared.error.TinkError.{TinkError}
use Rattle.tink_primitives.specs.declared.streams.Refused.{Refused}
use Rattle.tink_streaming_segment.specs.declared.segment_traits.SegmentDecrypter.{Ghosts}
use Rattle.tink_streaming_ciphers.specs.StreamSegments.{segment_by}
use Rattle.tink_streaming_ciphers.specs.declared.stream_segment.StreamSegment.{StreamSegment}
use Rattle.tink_streaming_io.specs.Readers.{SegmentOpening, seg_of}
use Rattle.tink_range.specs.Giving.{Cutting}
use Rattle.tink_range.specs.RangeCores.{core_memory}
use Rattle.tink_range.specs.declared.chunks.RangeCore.{RangeCore}

-- a reader of ranges: how the segments are opened, the bytes of the front and those behind it, the bytes of memory that it
-- keeps for a segment, its text, its nonce and the prefix of nonces, and the object
pub record RangeState (A : Type 0) : Type 0 where
  pub opening : SegmentOpening StreamSegment
  pub front : ℕ
  pub behind : ℕ
  pub memory : ℕ
  pub object : A

-- how the object is cut
abbrev pub cut_by : {A : Type 0} → RangeState A → Cutting
cut_by r = record {
  seg = seg_of segment_by r.opening;
  front = r.front;
  first = r.opening.first;
  size = r.opening.size;
  over = r.opening.overhead;
}

abbrev pub range_state : {A : Type 0} {g : Ghosts StreamSegment} → RangeCore StreamSegment g → A → RangeState A
range_state core object = record {
  opening = record {
    decrypter = core.opener.decrypter;
    prefix = core.opener.prefix.items;
    nonce_size = core.opener.nonce_size;
    overhead = core.opener.overhead;
    first = core.opener.first;
    size = core.opener.size;
  };
  front = core.front;
  behind = core.behind;
  memory = core_memory core;
  object = object;
}

-- the object, in the reader or handed back
abbrev pub object_of : {A : Type 0} → Result (RangeState A) (Refused A) → A
object_of (Ok r) = r.object
object_of (Err refused) = refused.inner

-- the answer, with the error alone of a refusal
abbrev pub answer_of : {A : Type 0} → Result (RangeState A) (Refused A) → Result (RangeState A) TinkError
answer_of (Ok r) = Ok r
answer_of (Err refused) = Err refused.error
