-- What a contract sees of a writer of pieces.
use Rattle.std.specs.Prelude.{[]}
use Rattle.tink_streaming_segment.specs.declared.segment_traits.SegmentEncrypter.{Ghosts}
use Rattle.tink_streaming_io.specs.Sealers.{held_text}
use Rattle.tink_streaming_io.specs.declared.writing.SegmentWriter.{SegmentWriter}
use Rattle.tink_c_pieces.specs.Pieces.{PieceMoment}
use Rattle.tink_c_pieces.specs.declared.writing.PieceWriter.{PieceWriter}

module _ {E : Type 0} {g : Ghosts E} where
  -- the writer of the segments at this moment
  abbrev pub behind_front : SegmentWriter E g → PieceMoment
  behind_front w = record { front = []; mode = w.mode; number = w.segments; held = held_text w }

  -- the writer at this moment
  abbrev pub piece_moment : PieceWriter E g → PieceMoment
  piece_moment w = record { front = w.front.items; mode = w.writer.mode; number = w.writer.segments; held = held_text w.writer }
