use Rattle.tink_cli_files.proofs.WrapLemmas.{rest_told}
use Rattle.tink_cli_files.proofs.under_master.encrypting.encrypt.Goals as goal

pub returns-clause-rest : goal.returns-clause-rest
returns-clause-rest g c =
    rest_told c.read_encrypted.result _ c.args.draws.now _ c.in_ok-write_with_associated_data.ensures.rest
