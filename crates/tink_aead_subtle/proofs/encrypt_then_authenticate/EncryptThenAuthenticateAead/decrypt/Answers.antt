use Rattle.std.proofs.Common.{◌≡◌, ◌-◌, ℕ, List, length, take, drop, subst, sym, ◌∙◌, arith, length-drop}
use Rattle.std.specs.Prelude.{Result}
use Rattle.std.proofs.lemmas.List.{take_all}
use Rattle.tink_io.specs.Answering.{Answers}
use Rattle.tink_io.specs.declared.error.Kind.{Kind}
use Rattle.tink_aead_subtle.specs.Composed.{authenticated}
use Rattle.tink_aead_subtle.proofs.ComposedExact.{composed_is}
use Rattle.tink_aead_subtle.proofs.encrypt_then_authenticate.EncryptThenAuthenticateAead.decrypt.Goals as goal

pub returns : goal.returns
returns g c =
    let input = c.args.ciphertext.now in
    let aad = c.args.additional_data.now in
    let t = c.args.self.now.tag_size in
    let n = length input - t in
    let tag : List ℕ = take (length input - n) (drop n input) in
    let whole : tag ≡ drop n input = take_all (length input - n) (drop n input) (omega (arith, length-drop n input)) in
    let message = c.deref.result.now in
    let message_is : message ≡ authenticated aad (take n input) = c.deref.ensures.value ∙ c.in_ok-message.ensures in
    let is = composed_is (g.C.IndCpaCipher.decrypts c.args.self.now.ind_cpa_cipher) (g.M.Mac.verifies c.args.self.now.mac) t input aad tag message c.if-ciphertext-self.false c.if-additional_data-ge-TOO_MUCH_DATA.false whole message_is c.in_ok-verify_mac.ensures.answer in
    record { answer = subst (λ (r : Result (List ℕ) Kind). Answers c.decrypt.result r) (sym is) c.decrypt.ensures.answer }
