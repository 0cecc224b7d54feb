use Rattle.std.proofs.Common.{List, ℕ, [], subst}
use Rattle.std.specs.Prelude.{Ok, Err}
use Rattle.tink_io.specs.Answering.{Replies}
use Rattle.tink_registry.specs.Listed.{registry_makes}
use Rattle.tink_aead.specs.Envelope.{data_key_aead}
use Rattle.tink_registry.specs.ListedLaws.{registry_makes_told}
use Rattle.tink_aead.proofs.EnvelopeSteps.{behind_remote, make_refused, remote_refused}
use Rattle.tink_aead.proofs.kms_envelope_aead.KmsEnvelopeAeadAead.encrypt.Goals as goal

pub returns : goal.returns
returns g c =
    let e = c.args.self.now in
    let managers = e.registry.now.managers in
    record {
      replies = make_refused (registry_makes g.M.KeyManager.url g.M.KeyManager.makes managers e.dek_template) (g.A.Aead.encrypts e.remote)
          (data_key_aead g.M.KeyManager.url g.M.KeyManager.builds managers e.dek_template.type_url) g.M.Family.Aead.Aead.encrypts c.args.plaintext.now c.args.additional_data.now c.args.draws.now
          c.in-Err.e c.new_key.new.draws c.in-Err.ensures.replies;
    }

pub returns-in-Ok : goal.returns-in-Ok
returns-in-Ok g c =
    let e = c.args.self.now in
    let managers = e.registry.now.managers in
    let draws = c.args.draws.now in
    let left = c.new_key.new.draws in
    record {
      replies = remote_refused (registry_makes g.M.KeyManager.url g.M.KeyManager.makes managers e.dek_template) (g.A.Aead.encrypts e.remote)
          (data_key_aead g.M.KeyManager.url g.M.KeyManager.builds managers e.dek_template.type_url) g.M.Family.Aead.Aead.encrypts c.args.plaintext.now c.args.additional_data.now draws
          c.in-Ok.dek left (registry_makes_told g.M.KeyManager.url g.M.KeyManager.makes g.met.M.KeyManager.makes_told managers e.dek_template draws) c.in-Ok.ensures.replies
          c.in-Err-encrypt.e c.encrypt.new.draws (subst (λ d. Replies {T = List ℕ} (Err c.in-Err-encrypt.e) (g.A.Aead.encrypts e.remote d [] left) left c.encrypt.new.draws) c.as_slice.ensures c.in-Err-encrypt.ensures.replies);
    }

pub returns-in-Ok-encrypt : goal.returns-in-Ok-encrypt
returns-in-Ok-encrypt g c =
    let e = c.args.self.now in
    let managers = e.registry.now.managers in
    let draws = c.args.draws.now in
    let key = c.in-Ok.dek in
    let left = c.new_key.new.draws in
    record {
      replies = behind_remote (registry_makes g.M.KeyManager.url g.M.KeyManager.makes managers e.dek_template) (g.A.Aead.encrypts e.remote)
          (data_key_aead g.M.KeyManager.url g.M.KeyManager.builds managers e.dek_template.type_url) g.M.Family.Aead.Aead.encrypts c.args.plaintext.now c.args.additional_data.now draws
          key left (registry_makes_told g.M.KeyManager.url g.M.KeyManager.makes g.met.M.KeyManager.makes_told managers e.dek_template draws) c.in-Ok.ensures.replies
          c.in-Ok-encrypt.encrypted_dek c.encrypt.new.draws c.encrypt_by_key.new.draws c.encrypt_by_key.result (g.met.A.Aead.encrypts_told e.remote key [] left)
          (subst (λ d. Replies {T = List ℕ} (Ok c.in-Ok-encrypt.encrypted_dek) (g.A.Aead.encrypts e.remote d [] left) left c.encrypt.new.draws) c.as_slice.ensures c.in-Ok-encrypt.ensures.replies)
          c.encrypt_by_key.ensures;
    }
