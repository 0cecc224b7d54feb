use Rattle.std.proofs.Common.{ap₂, sym, ◌∙◌}
use Rattle.gcm.specs.Siv.{cipher_of, sealed_under}
use Rattle.gcm.proofs.SivFacts.{gcm_siv_is}
use Rattle.gcm.proofs.siv.GcmSiv.seal_into.Goals as goal

pub returns : goal.returns
returns g c =
    let encrypts = g.C.BlockCipherEncrypt.encrypts in
    let nonce = c.args.nonce.now in
    let aad = c.args.aad.now in
    let text = c.args.text.now in (
      c.in_ok-check_lengths.ensures,
      c.seal.ensures
          ∙ ap₂ (λ k a. sealed_under (encrypts k) a nonce aad text) c.message_keys.ensures.cipher c.message_keys.ensures.authentication
          ∙ sym (gcm_siv_is (cipher_of g.C.KeyInit.keyed encrypts) c.args.self.now.key nonce aad text),
    )
