-- The first entries of the list stand behind those that were there.
use Rattle.std.proofs.Common.{◌≡◌, ◌++◌, map, take}
use Rattle.tink_streaming_aead.proofs.factory.add_group.Given as goal

abbrev pub invariant-loop-entry : goal.invariant-loop-entry
invariant-loop-entry l = map (λ e. e.now) l.entries.items ≡ map (λ e. e.now) l.fn.entries.items ++ take l.entry-index l.group
