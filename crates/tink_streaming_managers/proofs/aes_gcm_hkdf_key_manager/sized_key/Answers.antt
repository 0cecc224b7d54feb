use Rattle.std.proofs.Common.{sym, ◌∙◌}
use Rattle.tink_streaming_managers.proofs.KeyFacts.{gcm_hkdf_made}
use Rattle.tink_streaming_managers.proofs.aes_gcm_hkdf_key_manager.sized_key.Goals as goal

pub returns : goal.returns
returns c = gcm_hkdf_made c.new-2.result c.args.main.now _ c.args.sizes (sym c.is_streaming.ensures ∙ c.if-not-is_streaming.false) c.type_of.ensures c.new-2.ensures
