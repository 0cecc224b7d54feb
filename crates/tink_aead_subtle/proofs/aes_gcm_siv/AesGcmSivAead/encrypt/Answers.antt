use Rattle.std.proofs.Common.{ℕ, List, refl, subst, ◌∙◌, arith}
use Rattle.std.specs.Prelude.{Result}
use Rattle.tink_io.specs.Answering.{Replies}
use Rattle.tink_io.specs.declared.error.Kind.{Kind}
use Rattle.tink_aead_subtle.proofs.Keyed.{siv_encrypts}
use Rattle.tink_aead_subtle.proofs.aes_gcm_siv.AesGcmSivAead.encrypt.Goals as goal

pub returns-in-Some-clause-replies : goal.returns-in-Some-clause-replies
returns-in-Some-clause-replies c =
    subst (λ (told : Result (List ℕ) Kind × List ℕ). Replies c.encrypt.result told c.args.draws.now c.encrypt.new.draws) (siv_encrypts 16 refl (omega arith) c.args.self.now.key c.new-aead.result.key c.args.plaintext.now c.args.additional_data.now c.args.draws.now (c.new-aead.ensures ∙ c.in-Some.ensures.0) c.in-Some.ensures.1) c.encrypt.ensures.replies

pub returns-in-None-clause-replies : goal.returns-in-None-clause-replies
returns-in-None-clause-replies c =
    subst (λ (told : Result (List ℕ) Kind × List ℕ). Replies c.encrypt-in-None.result told c.args.draws.now c.encrypt-in-None.new.draws) (siv_encrypts 32 refl (omega arith) c.args.self.now.key c.new-aead-in-None.result.key c.args.plaintext.now c.args.additional_data.now c.args.draws.now (c.new-aead-in-None.ensures ∙ c.large.ensures) c.in-None.ensures) c.encrypt-in-None.ensures.replies
