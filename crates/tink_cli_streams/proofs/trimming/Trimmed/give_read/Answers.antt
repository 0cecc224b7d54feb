use Rattle.std.proofs.Common.{arith, sym}
use Rattle.tink_cli_streams.proofs.TrimmingLemmas.{back, kept}
use Rattle.tink_cli_streams.proofs.trimming.Trimmed.give_read.Goals as goal

pub returns-then-not-holds_back-clause-bytes : goal.returns-then-not-holds_back-clause-bytes
returns-then-not-holds_back-clause-bytes g c =
    kept c.args.self.now.trims c.args.self.now.held _ _ c.read.new.buf c.in-Ok.n c.requires.held (omega (arith, c.in-Ok.ensures.bound))
    (sym c.if-not-holds_back.ensures) c.in-Ok.ensures.bytes

pub returns-else-n-eq1-clause-bytes : goal.returns-else-n-eq1-clause-bytes
returns-else-n-eq1-clause-bytes g c =
    back c.args.self.now.trims c.args.self.now.held _ _ c.read.new.buf c.in-Ok.n c.requires.held (omega (arith, c.in-Ok.ensures.bound))
    (sym c.if-not-holds_back.ensures) c.if-n-eq1.false c.in-Ok.ensures.bytes.0
