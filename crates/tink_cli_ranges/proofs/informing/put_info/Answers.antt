use Rattle.std.proofs.Common.{◌∙◌}
use Rattle.tink_cli_ranges.proofs.InformingLemmas.{unput}
use Rattle.tink_cli_ranges.specs.Informing.{info_lines}
use Rattle.tink_cli_ranges.proofs.informing.put_info.Goals as goal

pub returns-in-Ok-clause-refused : goal.returns-in-Ok-clause-refused
returns-in-Ok-clause-refused g c =
    unput (info_lines c.args.info) _ (g.K.Sink.got c.args.sink.now) (g.K.Sink.got c.put.new.sink) (g.K.Sink.faults c.args.sink.now) (g.K.Sink.faults c.put.new.sink) c.put.result
    (c.as_slice.ensures.value ∙ c.in-Ok.ensures) c.put.ensures.part c.put.ensures.cause c.put.ensures.refused
