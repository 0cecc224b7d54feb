use Rattle.std.proofs.Common.{drop}
use Rattle.tink_sets.specs.Converting.{converted}
use Rattle.tink_prf.specs.Sets.{prf_of}
use Rattle.tink_prf.proofs.Collected.{IsCollected}
use Rattle.tink_prf.proofs.set_factory.prfs_by_id.Given as goal

-- the entries so far are in the map
abbrev pub invariant-loop-entry : goal.invariant-loop-entry
invariant-loop-entry g l = IsCollected (converted prf_of l.entries) (converted prf_of (drop l.entry-index l.entries)) l.prfs
