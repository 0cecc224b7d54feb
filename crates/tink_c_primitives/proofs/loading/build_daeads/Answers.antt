use Rattle.tink_daead.specs.AesSiv.{aes_siv_decrypts, aes_siv_encrypts}
use Rattle.tink_daead.specs.Rotation.{daead_entries}
use Rattle.tink_daead.specs.Wrapped.{IsDaeadOf}
use Rattle.tink_c_primitives.specs.Primitives.{IsDaead, daead_keys}
use Rattle.tink_c_primitives.proofs.Building.{built_by, builds, supports, url}
use Rattle.tink_c_primitives.proofs.loading.build_daeads.Goals as goal

pub returns : goal.returns
returns c =
    let ks = c.args.handle.now in
    built_by (λ managers. daead_entries url supports builds managers ks) (daead_keys ks.primary_key_id) (λ es w. IsDaeadOf aes_siv_encrypts aes_siv_decrypts ks.primary_key_id es w.ps.primary w.ps.entries) IsDaead (λ es w is. is)
    c.in_ok-registry.registry c.new.result c.in_ok-registry.ensures.ok c.new.ensures
