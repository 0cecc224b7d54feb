-- What a contract sees of the bytes that are kept of a source.
use Rattle.std.specs.Prelude.{List, ℕ, take}
use Rattle.std.specs.declared.option.Option.{Option}
use Rattle.std.specs.Io.KnownBytes.{prepend_known}
use Rattle.tink_streaming_segment.specs.declared.kept.Kept.{Kept}

-- the bytes that are kept
abbrev pub kept_bytes : Kept → List ℕ
kept_bytes k = take k.filled k.buffer.items

-- the bytes that are kept, and those that the source still gives
abbrev pub kept_rest : {S : Type 0} → (S → Option (List ℕ)) → Kept → S → Option (List ℕ)
kept_rest left k source = prepend_known (kept_bytes k) (left source)
