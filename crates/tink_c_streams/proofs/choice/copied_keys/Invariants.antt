-- The first entries were copied.
use Rattle.std.proofs.Common.{◌≡◌, map, take}
use Rattle.tink_c_streams.proofs.choice.copied_keys.Given as goal

abbrev pub invariant-loop-entry : goal.invariant-loop-entry
invariant-loop-entry l = l.keys.items ≡ map (λ e. e.now) (take l.entry-index l.entries)
