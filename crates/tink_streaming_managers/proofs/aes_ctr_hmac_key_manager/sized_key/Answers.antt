use Rattle.std.proofs.Common.{sym, ◌∙◌}
use Rattle.tink_streaming_managers.proofs.KeyFacts.{ctr_hmac_made}
use Rattle.tink_streaming_managers.proofs.aes_ctr_hmac_key_manager.sized_key.Goals as goal

pub returns : goal.returns
returns c = ctr_hmac_made c.new-2.result c.args.main.now _ _ c.args.sizes (sym c.is_streaming.ensures ∙ c.if-not-is_streaming.false) c.type_of.ensures c.type_of-2.ensures c.new-2.ensures
