use Rattle.std.proofs.Common.{◌++◌, ◌∙◌, Err, ap, subst, sym, length, le_of_eq, refl}
use Rattle.std.specs.Prelude.{option_map}
use Rattle.cipher_modes.specs.Paddings.{padded}
use Rattle.cipher_modes.specs.Padded.{bytes_run, IsEncrypted}
use Rattle.cipher_modes.proofs.MessageLemmas.{all-encrypted, cannot-pad, fits-room, message-read}
use Rattle.cipher_modes.proofs.padded.encrypt_vec.Goals as goal

pub returns-in-Ok-encrypt_message : goal.returns-in-Ok-encrypt_message
returns-in-Ok-encrypt_message g c =
    let message = c.args.message.now in
    let old = c.deref_mut.result.now in
    let n = c.in-Ok-encrypt_message.field-0 in
    let read = ap (padded g.P.Padding.padding g.row.B) (message-read message old (fits-room _ _ _ (c.in-Ok-encrypt_message.ensures.ok.0 refl))) in
    let made = subst (λ o. IsEncrypted g.M.BlockModeEncrypt.step c.args.mode.now g.row.B o n old c.encrypt_message.new.output) read c.in-Ok-encrypt_message.ensures.value in
    record {
      told = all-encrypted g.M.BlockModeEncrypt.step c.args.mode.now g.row.B (g.P.Padding.padding g.row.B (length message)) message c.encrypt_message.new.output _ old n c.in-Ok.output.len
          (λ tail e. c.in-Ok.ensures.value ∙ (c.in-Some.ensures.told ∙ (g.met.P.Padding.whole g.row.B (length message) tail g.met.M.BlockModeEncrypt.block_size.0 e).1)) c.deref_mut.ensures.len c.encrypt_message.auto.output made;
    }

pub returns-in-Err-encrypt_message : goal.returns-in-Err-encrypt_message
returns-in-Err-encrypt_message g c =
    let message = c.args.message.now in
    let none = cannot-pad (λ tail. message ++ tail) (Err c.in-Err-encrypt_message.field-0) (g.P.Padding.padding g.row.B (length message)) (length message) _ c.in-Err-encrypt_message.ensures.ok
    (λ tail e. le_of_eq (sym (c.deref_mut.ensures.len ∙ (c.in-Ok.ensures.value ∙ (c.in-Some.ensures.told ∙ (g.met.P.Padding.whole g.row.B (length message) tail g.met.M.BlockModeEncrypt.block_size.0 e).1))))) in
    record { told = ap (option_map (bytes_run g.M.BlockModeEncrypt.step c.args.mode.now g.row.B)) none }
