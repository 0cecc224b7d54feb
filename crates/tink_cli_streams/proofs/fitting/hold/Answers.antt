use Rattle.std.proofs.Common.{ap}
use Rattle.tink_io.specs.Memory.{MemoryTaken}
use Rattle.tink_cli_streams.proofs.FittingLemmas.{held_short, not_held, not_short}
use Rattle.tink_cli_streams.proofs.fitting.hold.Goals as goal

pub returns-in-Ok-clause-held : goal.returns-in-Ok-clause-held
returns-in-Ok-clause-held g c =
    held_short c.args.keyset.now c.args.aad.now c.args.draws.now c.write_task.new.draws _ _ _ _ c.args.token c.write_task.new.sink (ap (λ (m : MemoryTaken). m.got) c.requires)
    _ _ c.into_bytes.result.items c.short.result c.in-Ok.ensures.means c.into_bytes.ensures c.short.ensures.ok

pub returns-in-Ok-clause-refused : goal.returns-in-Ok-clause-refused
returns-in-Ok-clause-refused g c =
    not_short c.args.keyset.now c.args.aad.now c.args.draws.now c.write_task.new.draws _ _ _ _ c.args.token c.write_task.new.sink (ap (λ (m : MemoryTaken). m.got) c.requires)
    _ c.into_bytes.result.items c.short.result c.in-Ok.ensures.means c.into_bytes.ensures c.short.ensures.long

pub returns-in-Err-clause-refused : goal.returns-in-Err-clause-refused
returns-in-Err-clause-refused g c =
    not_held c.args.keyset.now c.args.aad.now c.args.draws.now c.write_task.new.draws _ _ _ _ c.args.token c.write_task.new.sink (ap (λ (m : MemoryTaken). m.got) c.requires)
    c.in-Err.e c.unheld.result c.in-Err.ensures.means c.unheld.ensures (ap (λ (m : MemoryTaken). m.room) c.requires) (ap (λ (m : MemoryTaken). m.faults) c.requires)
    (ap (λ (m : MemoryTaken). m.fails) c.requires) c.in-Err.ensures.sink
