use Rattle.tink_aead.specs.AeadKinds.{kind_decrypts, kind_encrypts}
use Rattle.tink_aead.specs.Rotation.{aead_entries}
use Rattle.tink_aead.specs.Wrapped.{IsAeadOf}
use Rattle.tink_c_primitives.specs.Primitives.{IsAead, aead_keys}
use Rattle.tink_c_primitives.proofs.Building.{built_by, builds, supports, url}
use Rattle.tink_c_primitives.proofs.loading.build_aeads.Goals as goal

pub returns : goal.returns
returns c =
    let ks = c.args.handle.now in
    built_by (λ managers. aead_entries url supports builds managers ks) (aead_keys ks.primary_key_id) (λ es w. IsAeadOf kind_encrypts kind_decrypts ks.primary_key_id es w.ps.primary w.ps.entries) IsAead (λ es w is. is)
    c.in_ok-registry.registry c.new.result c.in_ok-registry.ensures.ok c.new.ensures
