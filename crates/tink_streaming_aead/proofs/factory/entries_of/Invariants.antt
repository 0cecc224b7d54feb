-- The entries of the lists so far, and then those of the others, are all.
use Rattle.std.proofs.Common.{◌≡◌, ◌++◌, map}
use Rattle.tink_streaming_aead.specs.Wrapped.{all_entries, joined_lists}
use Rattle.tink_streaming_aead.proofs.factory.entries_of.Given as goal

abbrev pub invariant-loop-group : goal.invariant-loop-group
invariant-loop-group l = map (λ e. e.now) l.entries.items ++ joined_lists l.group-iterator ≡ all_entries l.ps.entries
