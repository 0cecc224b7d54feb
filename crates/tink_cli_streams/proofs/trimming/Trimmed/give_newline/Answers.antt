use Rattle.std.proofs.Common.{arith}
use Rattle.tink_cli_streams.proofs.TrimmingLemmas.{behind, ended}
use Rattle.tink_cli_streams.proofs.trimming.Trimmed.give_newline.Goals as goal

pub returns-in-Ok-eq0-clause-bytes : goal.returns-in-Ok-eq0-clause-bytes
returns-in-Ok-eq0-clause-bytes g c =
    ended c.args.self.now.trims c.args.self.now.held _ _ c.args.buf.now c.read.new.buf c.in-Ok-eq0.field-0 c.requires.trims c.requires.held c.in-Ok-eq0.field-0-test
    (omega (arith, c.read.auto.buf)) c.in-Ok-eq0.ensures.bytes

pub returns-in-Ok-clause-bytes : goal.returns-in-Ok-clause-bytes
returns-in-Ok-clause-bytes g c =
    behind c.args.self.now.trims c.args.self.now.held _ _ c.args.buf.now c.read.new.buf c.in-Ok.field-0 c.requires.trims c.requires.held c.in-Ok.field-0-test.1
    (omega (arith, c.in-Ok.ensures.bound)) (omega (arith, c.read.auto.buf)) c.requires.room c.in-Ok.ensures.bytes.0
