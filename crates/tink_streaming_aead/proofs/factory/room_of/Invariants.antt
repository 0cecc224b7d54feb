-- None of the first keys has as much, one has a byte less, and each key is usable.
use Rattle.std.proofs.Common.{◌+◌, ◌<◌, length, map, take, All}
use Rattle.tink_streaming_aead.proofs.KeyMost.{IsMost}
use Rattle.tink_streaming_aead.proofs.factory.room_of.Given as goal

abbrev pub invariant-loop-key : goal.invariant-loop-key
invariant-loop-key g l =
    All (λ k. length (g.T.DerivesStreams.key_of k).out + (g.T.DerivesStreams.key_of k).segment < l.room) (take l.key-index l.keys)
    × IsMost (map g.T.DerivesStreams.key_of (take l.key-index l.keys)) l.room
