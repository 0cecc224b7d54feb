use Rattle.std.proofs.Common.{le_refl, refl}
use Rattle.cipher_modes.proofs.BegunLemmas.{begun-message, message-within}
use Rattle.cipher_modes.proofs.modes.BlockModeDecrypt.decrypt_padded_inout.Goals as goal

pub first_bytes-requires : goal.first_bytes-requires
first_bytes-requires g c = message-within _ _ _ _ _ c.decrypt_message-made.ensures.told (le_refl _)

pub returns : goal.returns
returns g c = record { told = begun-message _ _ _ _ _ _ refl c.first_bytes.ensures c.decrypt_message-made.ensures.told }
