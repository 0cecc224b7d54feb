use Rattle.std.proofs.Common.{ℕ, List, refl, subst, ◌∙◌, arith}
use Rattle.std.specs.Prelude.{Result}
use Rattle.tink_io.specs.Answering.{Answers}
use Rattle.tink_io.specs.declared.error.Kind.{Kind}
use Rattle.tink_aead_subtle.proofs.Keyed.{siv_decrypts}
use Rattle.tink_aead_subtle.proofs.aes_gcm_siv.AesGcmSivAead.decrypt.Goals as goal

pub returns-in-Some : goal.returns-in-Some
returns-in-Some c = record {
  answer = subst (λ (told : Result (List ℕ) Kind). Answers c.decrypt.result told) (siv_decrypts 16 refl (omega arith) c.args.self.now.key c.new-aead.result.key c.args.ciphertext.now c.args.additional_data.now (c.new-aead.ensures ∙ c.in-Some.ensures.0) c.in-Some.ensures.1) c.decrypt.ensures;
}

pub returns-in-None : goal.returns-in-None
returns-in-None c = record {
  answer = subst (λ (told : Result (List ℕ) Kind). Answers c.decrypt-in-None.result told) (siv_decrypts 32 refl (omega arith) c.args.self.now.key c.new-aead-in-None.result.key c.args.ciphertext.now c.args.additional_data.now (c.new-aead-in-None.ensures ∙ c.large.ensures) c.in-None.ensures) c.decrypt-in-None.ensures;
}
