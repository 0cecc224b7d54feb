-- What a contract sees of how the segments of a stream are opened.
use Rattle.std.specs.Prelude.{ℕ, Bool, List}
use Rattle.stream_model.specs.Cut.{numbered}
use Rattle.tink_streaming_segment.specs.declared.segment_traits.SegmentDecrypter.{Ghosts}
use Rattle.tink_streaming_segment.specs.declared.opener.Opener.{Opener}

module _ {D : Type 0} {g : Ghosts D} where
  -- the segment of a text by its number and its mark
  abbrev pub segment_map : Opener D g → ℕ → Bool → List ℕ → List ℕ
  segment_map o = numbered (g.seg o.decrypter) o.nonce_size o.prefix.items
