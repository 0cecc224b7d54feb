use Rattle.std.proofs.Common.{refl}
use Rattle.cipher_modes.proofs.BegunLemmas.{begun-err, begun-message, told-within}
use Rattle.cipher_modes.proofs.modes.BlockModeDecrypt.decrypt_padded_b2b.Goals as goal

pub first_bytes-requires : goal.first_bytes-requires
first_bytes-requires g c = told-within _ _ _ _ _ _ c.decrypt_padded_b2b_len-made.auto.output (λ short. (c.decrypt_padded_b2b_len-made.ensures.short short).0) c.decrypt_padded_b2b_len-made.ensures.told

pub returns-clause-short : goal.returns-clause-short
returns-clause-short g c = λ short. begun-err _ _ _ c.first_bytes.ensures (c.decrypt_padded_b2b_len-made.ensures.short short).0

pub returns-clause-told : goal.returns-clause-told
returns-clause-told g c = λ room. begun-message _ _ _ _ _ _ refl c.first_bytes.ensures (c.decrypt_padded_b2b_len-made.ensures.told room)
