use Rattle.std.proofs.Common.{None, subst}
use Rattle.tink_keysets.specs.Through.{LeavesDraws}
use Rattle.tink_cli_files.specs.Saved.{left_of_new}
use Rattle.tink_cli_files.proofs.SavedLemmas.{saved_draws}
use Rattle.tink_cli_files.proofs.key_files.new_keys.Goals as goal

pub returns-clause-rest : goal.returns-clause-rest
returns-clause-rest g c =
    let draws = c.args.draws.now in
    saved_draws c.new_file-made.result c.save_answer.result _ draws _ c.save_answer.ensures.refused
    (subst (λ name. LeavesDraws c.new_file-made.result (left_of_new name None draws) draws c.new_file-made.new.draws) c.as_bytes.ensures.value c.new_file-made.ensures.rest)
