use Rattle.std.proofs.Common.{inl, sym}
use Rattle.tink_cli_streams.proofs.FittingLemmas.{done_unsigned}
use Rattle.tink_cli_streams.proofs.fitting.write_fitting.Goals as goal

pub returns-clause-means : goal.returns-clause-means
returns-clause-means g c = inl c.write_task.ensures.means

pub returns-clause-ok : goal.returns-clause-ok
returns-clause-ok g c =
    done_unsigned c.args.task c.args.keyset.now c.args.aad.now c.args.draws.now _ _ _ c.write_task.result (sym c.if-signs.ensures) c.write_task.ensures.ok
