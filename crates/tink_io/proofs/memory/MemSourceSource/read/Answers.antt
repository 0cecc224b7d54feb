use Rattle.std.proofs.Common.{◌≡◌, length, ap, subst}
use Rattle.tink_io.specs.Memory.{read_len}
use Rattle.tink_io.proofs.MemoryLemmas.{moved_from, read_len-of}
use Rattle.tink_io.proofs.memory.MemSourceSource.read.Goals as goal

pub returns-clause-bytes : goal.returns-clause-bytes
returns-clause-bytes c =
    let gave = c.give-n.ensures in
    moved_from _ _ _ c.args.buf.now _ _ _ c.deref.ensures.value (ap (λ s. s.left) c.self.view_is) c.give-n.auto.buf gave.moved gave.end

pub returns-clause-moved : goal.returns-clause-moved
returns-clause-moved c =
    subst (λ s. c.give-n.result ≡ read_len s (length c.args.buf.now)) c.self.view_is
    (read_len-of c.self.inside.bytes.items _ _ _ _ _ c.deref.ensures.value c.give-n.ensures.count)
