use Rattle.std.proofs.Common.{ap, inl}
use Rattle.tink_cli_jobs.proofs.ProtectingLemmas.{not_loaded}
use Rattle.tink_cli_jobs.proofs.protecting.spared_keyset.Goals as goal

pub returns-in-Ok-clause-refused : goal.returns-in-Ok-clause-refused
returns-in-Ok-clause-refused g c =
    not_loaded (g.Y.System.state c.args.system.now) (g.Y.System.state c.spare_keys.new.system) c.args.job.now (g.Y.System.faults c.args.system.now)
    (g.Y.System.faults c.spare_keys.new.system) (g.Y.System.faults c.keyset_of.new.system) c.keyset_of.result
    (ap (λ s. g.Y.System.state s) c.spare_keys.ensures.still) (ap (λ s. g.Y.System.faults s) c.spare_keys.ensures.still) c.keyset_of.ensures.refused

pub returns-in-Err-clause-refused : goal.returns-in-Err-clause-refused
returns-in-Err-clause-refused g c = inl (c.in-Err.ensures.refused, c.in-Err.ensures.cause)
