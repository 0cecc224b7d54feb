-- What a contract sees of how the segments of a stream are made.
use Rattle.std.specs.Prelude.{ℕ, Bool, List}
use Rattle.stream_model.specs.Cut.{numbered}
use Rattle.tink_streaming_segment.specs.declared.segment_traits.SegmentEncrypter.{Ghosts}
use Rattle.tink_streaming_segment.specs.declared.sealer.Sealer.{Sealer}

module _ {E : Type 0} {g : Ghosts E} where
  -- the segment of a text by its number and its mark
  abbrev pub segment_map : Sealer E g → ℕ → Bool → List ℕ → List ℕ
  segment_map s = numbered (g.seg s.encrypter) s.nonce_size s.prefix.items
