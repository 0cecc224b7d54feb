use Rattle.tink_cli_files.proofs.WrapLemmas.{built_master}
use Rattle.tink_cli_files.proofs.under_master.master.build_master.Goals as goal

pub returns : goal.returns
returns c = built_master c.args.handle.now c.in_ok-registry.registry c.new.result c.in_ok-registry.ensures.ok c.new.ensures
