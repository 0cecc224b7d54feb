use Rattle.tink_cli_files.proofs.SavedLemmas.{saved_draws}
use Rattle.tink_cli_files.proofs.wrapping.wrap_keys.Goals as goal

pub returns-clause-rest : goal.returns-clause-rest
returns-clause-rest g c = λ m is.
    saved_draws c.wrap_file-made.result c.save_answer.result _ c.args.draws.now _ c.save_answer.ensures.refused (c.wrap_file-made.ensures.rest m is)
