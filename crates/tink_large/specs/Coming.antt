-- What is still to come of a stream while its text is sealed.
use Rattle.std.specs.Prelude.{◌≡◌, ◌<◌, ℕ, ◌+◌, ◌-◌, Bool, true, List, [], ◌++◌, length, drop}
use Rattle.stream_model.specs.Cut.{full_chunks, open_chunk, room_at, unmarked}
use Rattle.tink_streaming_segment.specs.declared.segment_traits.SegmentEncrypter.{Ghosts}
use Rattle.tink_streaming_io.specs.Sealers.{held_text, segment_map}
use Rattle.tink_streaming_io.specs.declared.writing.Mode.{Mode}
use Rattle.tink_streaming_io.specs.declared.writing.Mode.TheVariants.{Open, Closed, Failed}
use Rattle.tink_streaming_io.specs.declared.writing.SegmentWriter.{SegmentWriter}
use Rattle.tink_large.specs.Large.{text_from, text_length}
use Rattle.tink_large.specs.declared.pending.Pending.{Pending}

-- the bytes that were not yet given
abbrev pub pending_bytes : Pending → List ℕ
pending_bytes p = drop p.given p.bytes.items

-- the segments of a text from a number on, the last one marked
unfoldable pub to_come : (ℕ → Bool → List ℕ → List ℕ) → ℕ → ℕ → ℕ → List ℕ → List ℕ
to_come seg first room i text =
    let full = full_chunks (room_at first room i) room text in
    unmarked seg i full ++ seg (i + length full) true (open_chunk (room_at first room i) room text)

-- the same where a writer is open, which holds the first bytes of the text
abbrev pub come_of : (ℕ → Bool → List ℕ → List ℕ) → ℕ → ℕ → Mode → ℕ → List ℕ → List ℕ → List ℕ
come_of seg first room Open i held text = to_come seg first room i (held ++ text)
come_of seg first room Closed i held text = []
come_of seg first room (Failed c) i held text = []

-- its room stays, and what of it was given
abbrev pub KeepsPlace : Pending → Pending → Type 0
KeepsPlace old new = (new.room ≡ old.room) × (new.given ≡ old.given)

module _ {E : Type 0} {g : Ghosts E} where
  -- nothing is pending, and there is room for a segment
  abbrev pub TakesSegment : SegmentWriter E g → Pending → Type 0
  TakesSegment w p = (p.bytes.items ≡ []) × (w.sealer.room + w.sealer.overhead < p.room)

  -- what comes of a text behind what a writer holds
  abbrev pub comes : SegmentWriter E g → List ℕ → List ℕ
  comes w text = come_of (segment_map w.sealer) w.sealer.first w.sealer.room w.mode w.segments (held_text w) text

  -- what is pending, and what comes of the text from a place on
  abbrev pub left_of : ℕ → ℕ → SegmentWriter E g → Pending → List ℕ
  left_of n at w p = pending_bytes p ++ comes w (text_from n at (text_length n - at))
