use Rattle.std.proofs.Common.{inl}
use Rattle.tink_cli_jobs.proofs.ProtectingLemmas.{not_for}
use Rattle.tink_cli_jobs.proofs.protecting.keyset_for.Goals as goal

pub returns-in-Ok-clause-refused : goal.returns-in-Ok-clause-refused
returns-in-Ok-clause-refused g c =
    not_for (g.Y.System.state c.args.system.now) c.args.job.now (g.Y.System.faults c.args.system.now) (g.Y.System.faults c.spared_keyset.new.system)
    c.spared_keyset.result c.spared_keyset.ensures.refused

pub returns-in-Err-clause-refused : goal.returns-in-Err-clause-refused
returns-in-Err-clause-refused g c = inl (c.in-Err.ensures.refused, c.in-Err.ensures.cause)
