use Rattle.tink_mac.specs.MacKinds.{kind_computes, kind_verifies}
use Rattle.tink_mac.specs.Rotation.{mac_entries}
use Rattle.tink_mac.specs.Wrapped.{IsMacOf}
use Rattle.tink_tokens.specs.TokenSteps.{AreLoadedMacs}
use Rattle.tink_tokens.specs.Tokens.{with_id}
use Rattle.tink_c_primitives.proofs.Building.{built_by, builds, supports, url}
use Rattle.tink_c_primitives.proofs.loading.build_macs.Goals as goal

pub returns : goal.returns
returns c =
    let ks = c.args.handle.now in
    built_by (λ managers. mac_entries url supports builds managers ks) (with_id ks.primary_key_id) (λ es w. IsMacOf kind_computes kind_verifies ks.primary_key_id es w.ps.primary w.ps.entries) AreLoadedMacs (λ es w is. is)
    c.in_ok-registry.registry c.new.result c.in_ok-registry.ensures.ok c.new.ensures
