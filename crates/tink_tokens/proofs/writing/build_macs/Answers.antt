use Rattle.tink_tokens.proofs.TokenCalls.{built_macs}
use Rattle.tink_tokens.proofs.writing.build_macs.Goals as goal

pub returns : goal.returns
returns c = built_macs c.args.handle.now c.in_ok-registry.registry c.new.result c.in_ok-registry.ensures.ok c.new.ensures
