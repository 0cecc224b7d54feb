-- The chunks of an object behind a stream's front.
use Rattle.std.specs.Prelude.{◌≡◌, ℕ, ◌+◌, ◌-◌, vec_capacity}
use Rattle.stream_model.specs.Cut.{room_at}
use Rattle.tink_streaming_segment.specs.declared.segment_traits.SegmentDecrypter.{Ghosts}
use Rattle.tink_range.specs.ChunkReading.{ChunkAt}
use Rattle.tink_range.specs.Giving.{Cutting}
use Rattle.tink_streaming_io.specs.Openers.{segment_map}
use Rattle.tink_range.specs.declared.chunks.RangeCore.{RangeCore}

module _ {D : Type 0} {g : Ghosts D} where
  -- the memory that is kept for a segment, its text, its nonce and the prefix of nonces, in bytes
  abbrev pub core_memory : RangeCore D g → ℕ
  core_memory core = vec_capacity core.buffers.sealed + vec_capacity core.buffers.text + vec_capacity core.buffers.nonce + vec_capacity core.opener.prefix

  -- chunks are opened as before, the front and what is behind it are as long, and as much memory is kept
  pub record IsSameCore (old new : RangeCore D g) : Type 0 where
    pub opener : new.opener ≡ old.opener
    pub front : new.front ≡ old.front
    pub behind : new.behind ≡ old.behind
    pub memory : core_memory new ≡ core_memory old

  -- a chunk by its number and by what is before it behind the front
  abbrev pub chunk_in : RangeCore D g → ℕ → ℕ → ChunkAt
  chunk_in core number start = record {
    number = number;
    start = core.front + start;
    rest = core.behind - start;
    room = room_at core.opener.first core.opener.size number;
  }

  -- how a core cuts its object
  abbrev pub cutting_of : RangeCore D g → Cutting
  cutting_of core = record {
    seg = segment_map core.opener;
    front = core.front;
    first = core.opener.first;
    size = core.opener.size;
    over = core.opener.overhead;
  }
