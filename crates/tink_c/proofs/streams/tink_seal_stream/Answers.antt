use Rattle.tink_run.specs.declared.report.Command.TheVariants.{Seal}
use Rattle.tink_c_streams.specs.Streams.{Runs, RunsNot}
use Rattle.tink_c_bytes.proofs.Handing.{hands}
use Rattle.tink_c.proofs.streams.tink_seal_stream.Goals as goal

pub returns : goal.returns
returns c =
    hands (Runs Seal c.args.keyset.now c.args.associated_data.now c.args.random.now c.args.plaintext.now) (RunsNot Seal c.args.keyset.now c.args.associated_data.now c.args.random.now c.args.plaintext.now)
    c.run_whole.result _ c.run_whole.ensures c.deliver.ensures.puts
