use Rattle.tink_cli_jobs.specs.Loading.{master_of_file, unwrapped_keyset}
use Rattle.tink_cli_jobs.proofs.LoadingLemmas.{fails_chained, refused_unwrapped}
use Rattle.tink_cli_jobs.proofs.keys.wrapped_keyset.Goals as goal

pub returns-in-Ok-clause-refused : goal.returns-in-Ok-clause-refused
returns-in-Ok-clause-refused g c =
    refused_unwrapped (g.Y.System.state c.args.system.now) (g.Y.System.state c.master_in.new.system) c.args.words c.args.master.now
    (g.Y.System.faults c.args.system.now) (g.Y.System.faults c.master_in.new.system) (g.Y.System.faults c.unwrapped_keyset.new.system) c.in-Ok.master
    c.unwrapped_keyset.result c.in-Ok.ensures.state c.in-Ok.ensures.later c.in-Ok.ensures.loaded c.unwrapped_keyset.ensures.refused

pub returns-in-Err-clause-refused : goal.returns-in-Err-clause-refused
returns-in-Err-clause-refused g c =
    let s = g.Y.System.state c.args.system.now in
    fails_chained s (g.Y.System.faults c.args.system.now) (g.Y.System.faults c.master_in.new.system) (unwrapped_keyset s c.args.words)
    (master_of_file s c.args.master.now) c.in-Err.trouble c.in-Err.ensures.refused
