use Rattle.std.proofs.Common.{ap, sym, le_refl}
use Rattle.cipher.proofs.Parts.{pick-nil}
use Rattle.cipher_modes.specs.Padded.{deciphered, message_in}
use Rattle.cipher_modes.proofs.BegunLemmas.{begun-message, message-within}
use Rattle.cipher_modes.proofs.modes.BlockModeDecrypt.decrypt_padded.Goals as goal

pub first_bytes-requires : goal.first_bytes-requires
first_bytes-requires g c = message-within _ _ _ _ _ c.decrypt_message-made.ensures.told (le_refl _)

pub returns : goal.returns
returns g c =
    record {
      told = begun-message _ _ _ _ _ _ (ap (λ bytes. message_in g.P.Padding.unpadded g.row.B (deciphered g.Self.BlockModeDecrypt.step c.args.self g.row.B bytes)) (sym (pick-nil c.args.buffer.now))) c.first_bytes.ensures
          c.decrypt_message-made.ensures.told;
    }
