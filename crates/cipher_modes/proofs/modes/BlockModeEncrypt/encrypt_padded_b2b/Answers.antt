use Rattle.std.proofs.Common.{ap, sym, arith}
use Rattle.cipher_modes.specs.Paddings.{padded}
use Rattle.cipher_modes.proofs.MessageLemmas.{fits-room, message-read}
use Rattle.cipher_modes.proofs.BegunLemmas.{begun-ok, begun-encrypted}
use Rattle.cipher_modes.proofs.modes.BlockModeEncrypt.encrypt_padded_b2b.Goals as goal

pub first_bytes-requires : goal.first_bytes-requires
first_bytes-requires g c = c.encrypt_message-made.ensures.within

pub returns-clause-ok : goal.returns-clause-ok
returns-clause-ok g c = begun-ok _ _ _ _ c.first_bytes.ensures c.encrypt_message-made.ensures.ok

pub returns-clause-value : goal.returns-clause-value
returns-clause-value g c =
    begun-encrypted g.Self.BlockModeEncrypt.step c.args.self g.row.B _ _ c.args.output.now _ _ _ (λ is. ap (padded g.P.Padding.padding g.row.B) (sym (message-read c.args.message.now c.args.output.now (fits-room _ _ _ (c.encrypt_message-made.ensures.ok.0 is))))) (omega arith) c.first_bytes.ensures
    c.encrypt_message-made.ensures.value
