use Rattle.std.proofs.Common.{rules, ◌≡◌, ◌+◌, Ok, drop}
use Rattle.tink_sets.specs.Converting.{converted}
use Rattle.tink_set_groups.proofs.Converted.{here}
use Rattle.tink_prf.specs.Sets.{prf_of}
use Rattle.tink_prf.proofs.Collected.{none_collected, one_collected}
use Rattle.tink_prf.proofs.set_factory.prfs_by_id.Goals as goal

pub loop-entry-init : goal.loop-entry-init
loop-entry-init g c = none_collected (converted prf_of c.args.entries.now) c.new-prfs.result c.new-prfs.ensures.empty c.new-prfs.ensures.ordered

pub loop-entry-preserved : goal.loop-entry-preserved
loop-entry-preserved g c =
    let entries = c.args.entries.now in
    let i = c.loop-entry.entry-index in
    let entry = c.entry-item.result in
    let given : prf_of entry ≡ Ok (entry.key_id, c.in-Ok.prf) = search rules in
    one_collected (converted prf_of entries) (converted prf_of (drop i entries)) (converted prf_of (drop (i + 1) entries)) (prf_of entry) (entry.key_id, c.in-Ok.prf) c.loop-entry.prfs c.put_prf.new.prfs
    (here prf_of entries i entry entry c.loop-entry-test.true c.entry-item.is) given c.loop-entry.invariant
    c.in_ok-put_prf.ensures.ok.put c.in_ok-put_prf.ensures.ok.ordered
