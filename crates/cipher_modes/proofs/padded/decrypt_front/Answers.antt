use Rattle.std.proofs.Common.{◌≡◌, ap, sym, length, take, le_of_eq, ◌∙◌}
use Rattle.std.proofs.lemmas.List.{take-append-le}
use Rattle.cipher_modes.specs.Padded.{deciphered, message_in}
use Rattle.cipher_modes.proofs.MessageLemmas.{message-read, cut_length}
use Rattle.cipher_modes.proofs.BegunLemmas.{message-behind}
use Rattle.cipher_modes.proofs.padded.decrypt_front.Goals as goal

pub returns-clause-told : goal.returns-clause-told
returns-clause-told g c =
    let front : length (take (length c.args.input.now) c.args.output.now) ≡ length c.args.input.now = cut_length _ _ c.requires in
    let read = message-read c.args.input.now c.args.output.now c.requires in
    message-behind _ _ _ _ c.decrypt_message.new.output _ c.decrypt_message.result (ap (λ bytes. message_in g.P.Padding.unpadded g.row.B (deciphered g.M.BlockModeDecrypt.step c.args.mode.now g.row.B bytes)) (sym read)) (le_of_eq (c.decrypt_message.auto.output ∙ front))
    (λ n within. take-append-le n c.decrypt_message.new.output _ within) c.decrypt_message.ensures.told
