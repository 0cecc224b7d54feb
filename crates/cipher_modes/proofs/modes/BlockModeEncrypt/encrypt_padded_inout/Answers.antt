use Rattle.std.proofs.Common.{arith, refl}
use Rattle.cipher_modes.proofs.BegunLemmas.{begun-ok, begun-encrypted}
use Rattle.cipher_modes.proofs.modes.BlockModeEncrypt.encrypt_padded_inout.Goals as goal

pub first_bytes-requires : goal.first_bytes-requires
first_bytes-requires g c = c.encrypt_message-made.ensures.within

pub returns-clause-ok : goal.returns-clause-ok
returns-clause-ok g c = begun-ok _ _ _ _ c.first_bytes.ensures c.encrypt_message-made.ensures.ok

pub returns-clause-value : goal.returns-clause-value
returns-clause-value g c =
    begun-encrypted g.Self.BlockModeEncrypt.step c.args.self g.row.B _ _ c.args.bytes.output.now _ _ _ (λ _. refl) (omega arith) c.first_bytes.ensures c.encrypt_message-made.ensures.value
