use Rattle.tink_io.proofs.MemoryLemmas.{moved_from}
use Rattle.tink_io.proofs.memory.SureSourceSource.read.Goals as goal

pub returns-clause-bytes : goal.returns-clause-bytes
returns-clause-bytes c =
    let gave = c.give-n.ensures in
    moved_from _ _ _ c.args.buf.now _ _ _ c.deref.ensures.value c.self.view_is c.give-n.auto.buf gave.moved gave.end
