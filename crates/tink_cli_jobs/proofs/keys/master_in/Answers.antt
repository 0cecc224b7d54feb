use Rattle.std.specs.Prelude.{Some}
use Rattle.tink_cli_files.specs.Masters.{master_of}
use Rattle.tink_cli_jobs.specs.Loading.{named, whole_of}
use Rattle.tink_cli_jobs.proofs.LoadingLemmas.{fails_chained}
use Rattle.tink_cli_jobs.proofs.keys.master_in.Goals as goal

pub returns-in-Err-clause-refused : goal.returns-in-Err-clause-refused
returns-in-Err-clause-refused g c =
    let s = g.Y.System.state c.args.system.now in
    fails_chained s (g.Y.System.faults c.args.system.now) (g.Y.System.faults c.read_keys.new.system) master_of (whole_of s (named (Some c.args.name.now)))
    c.in-Err.trouble c.in-Err.ensures.refused
