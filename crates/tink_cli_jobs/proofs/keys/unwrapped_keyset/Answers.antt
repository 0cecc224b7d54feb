use Rattle.std.specs.Prelude.{Some}
use Rattle.tink_cli_files.specs.Wrapping.{unwrapped_file}
use Rattle.tink_keyset_io.specs.declared.key_files.formats.Format.TheVariants.{Binary}
use Rattle.tink_cli_jobs.specs.Loading.{named, whole_of}
use Rattle.tink_cli_jobs.proofs.LoadingLemmas.{fails_chained}
use Rattle.tink_cli_jobs.proofs.keys.unwrapped_keyset.Goals as goal

pub returns-in-Err-clause-refused : goal.returns-in-Err-clause-refused
returns-in-Err-clause-refused g c = λ m is.
    let s = g.Y.System.state c.args.system.now in
    fails_chained s (g.Y.System.faults c.args.system.now) (g.Y.System.faults c.read_keys.new.system)
    (λ file. unwrapped_file m file c.args.words.master_aad.now Binary) (whole_of s (named (Some c.args.words.keys.now))) c.in-Err.trouble c.in-Err.ensures.refused
