use Rattle.std.proofs.Common.{Some, ap, sym, take, ◌∙◌}
use Rattle.std.proofs.lemmas.List.{take_at}
use Rattle.cipher.proofs.Parts.{pick-same}
use Rattle.cipher_modes.specs.Padded.{deciphered, message_in}
use Rattle.cipher_modes.proofs.padded.decrypt_vec.Goals as goal

pub returns-in-Ok-decrypt_message : goal.returns-in-Ok-decrypt_message
returns-in-Ok-decrypt_message g c =
    let same = ap (λ bytes. message_in g.P.Padding.unpadded g.row.B (deciphered g.M.BlockModeDecrypt.step c.args.mode.now g.row.B bytes)) (sym (pick-same c.args.ciphertext.now c.deref_mut.result.now (sym (c.deref_mut.ensures.len ∙ c.in-Ok.ensures.value)))) in
    let front = take_at c.decrypt_message.new.output _ c.in-Ok.output.len (c.decrypt_message.auto.output ∙ c.deref_mut.ensures.len) in
    record { told = same ∙ (c.in-Ok-decrypt_message.ensures.told.1 ∙ ap Some (sym (c.truncate.ensures.items ∙ ap (take c.in-Ok-decrypt_message.n) front))) }

pub returns-in-Err-decrypt_message : goal.returns-in-Err-decrypt_message
returns-in-Err-decrypt_message g c =
    let same = ap (λ bytes. message_in g.P.Padding.unpadded g.row.B (deciphered g.M.BlockModeDecrypt.step c.args.mode.now g.row.B bytes)) (sym (pick-same c.args.ciphertext.now c.deref_mut.result.now (sym (c.deref_mut.ensures.len ∙ c.in-Ok.ensures.value)))) in
    record { told = same ∙ c.in-Err-decrypt_message.ensures.told }
