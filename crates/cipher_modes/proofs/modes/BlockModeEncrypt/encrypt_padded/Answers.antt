use Rattle.std.proofs.Common.{take, ap, sym, arith}
use Rattle.cipher.proofs.Parts.{pick-nil}
use Rattle.cipher_modes.specs.Paddings.{padded}
use Rattle.cipher_modes.proofs.BegunLemmas.{begun-ok, begun-encrypted}
use Rattle.cipher_modes.proofs.modes.BlockModeEncrypt.encrypt_padded.Goals as goal

pub first_bytes-requires : goal.first_bytes-requires
first_bytes-requires g c = c.encrypt_message-made.ensures.within

pub returns-clause-ok : goal.returns-clause-ok
returns-clause-ok g c = begun-ok _ _ _ _ c.first_bytes.ensures c.encrypt_message-made.ensures.ok

pub returns-clause-value : goal.returns-clause-value
returns-clause-value g c =
    begun-encrypted g.Self.BlockModeEncrypt.step c.args.self g.row.B _ _ c.args.buffer.now _ _ _ (λ _. ap (padded g.P.Padding.padding g.row.B) (sym (pick-nil (take c.args.len c.args.buffer.now)))) (omega arith) c.first_bytes.ensures c.encrypt_message-made.ensures.value
