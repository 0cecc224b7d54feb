use Rattle.std.proofs.Common.{sym}
use Rattle.tink_cli_streams.proofs.TrimmingLemmas.{gave_held}
use Rattle.tink_cli_streams.proofs.trimming.Trimmed.give_held.Goals as goal

pub returns-clause-bytes : goal.returns-clause-bytes
returns-clause-bytes g c =
    gave_held c.args.self.now.trims c.args.self.now.held _ c.args.buf.now c.args.byte c.requires.held c.requires.room (sym c.if-may_end.ensures)
