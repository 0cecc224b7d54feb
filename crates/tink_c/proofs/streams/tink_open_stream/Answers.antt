use Rattle.std.specs.Prelude.{[]}
use Rattle.tink_run.specs.declared.report.Command.TheVariants.{Open}
use Rattle.tink_c_streams.specs.Streams.{Runs, RunsNot}
use Rattle.tink_c_bytes.proofs.Handing.{hands}
use Rattle.tink_c.proofs.streams.tink_open_stream.Goals as goal

pub returns : goal.returns
returns c =
    hands (Runs Open c.args.keyset.now c.args.associated_data.now [] c.args.stream.now) (RunsNot Open c.args.keyset.now c.args.associated_data.now [] c.args.stream.now)
    c.run_whole.result _ c.run_whole.ensures c.deliver.ensures.puts
