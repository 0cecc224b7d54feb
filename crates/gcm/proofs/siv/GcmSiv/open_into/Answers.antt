use Rattle.std.proofs.Common.{ap₂, sym, ◌∙◌, arith}
use Rattle.gcm.specs.Siv.{cipher_of, sealed_under}
use Rattle.gcm.proofs.SivFacts.{gcm_siv_is}
use Rattle.gcm.proofs.siv.GcmSiv.open_into.Goals as goal

pub returns-then-not-open : goal.returns-then-not-open
returns-then-not-open g c =
    let encrypts = g.C.BlockCipherEncrypt.encrypts in
    let nonce = c.args.nonce.now in
    let aad = c.args.aad.now in
    let tried = c.if-not-open.ensures in (
      record { aad_fits = c.in_ok-check_lengths.ensures.aad_fits; text_fits = omega (arith, c.in_ok-check_lengths.ensures.text_fits) },
      λ text e.
          tried.0 text
          (ap₂ (λ k a. sealed_under (encrypts k) a nonce aad text) c.message_keys.ensures.cipher c.message_keys.ensures.authentication
          ∙ sym (gcm_siv_is (cipher_of g.C.KeyInit.keyed encrypts) c.args.self.now.key nonce aad text) ∙ e),
      tried.1,
    )

pub returns : goal.returns
returns g c =
    let encrypts = g.C.BlockCipherEncrypt.encrypts in
    let nonce = c.args.nonce.now in
    let aad = c.args.aad.now in
    let text = c.open.new.out in (
      record { aad_fits = c.in_ok-check_lengths.ensures.aad_fits; text_fits = omega (arith, c.in_ok-check_lengths.ensures.text_fits) },
      gcm_siv_is (cipher_of g.C.KeyInit.keyed encrypts) c.args.self.now.key nonce aad text
          ∙ sym (ap₂ (λ k a. sealed_under (encrypts k) a nonce aad text) c.message_keys.ensures.cipher c.message_keys.ensures.authentication)
          ∙ c.if-not-open.ensures,
    )
