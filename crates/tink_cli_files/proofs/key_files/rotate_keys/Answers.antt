use Rattle.std.proofs.Common.{subst}
use Rattle.tink_keysets.specs.Through.{LeavesDraws}
use Rattle.tink_cli_files.specs.Saved.{left_of_growth}
use Rattle.tink_cli_files.specs.declared.made_files.Growth.TheVariants.{RotateToAny}
use Rattle.tink_cli_files.proofs.SavedLemmas.{saved_draws}
use Rattle.tink_cli_files.proofs.key_files.rotate_keys.Goals as goal

pub returns-clause-rest : goal.returns-clause-rest
returns-clause-rest g c =
    let draws = c.args.draws.now in
    saved_draws c.rotated_file-made.result c.save_answer.result _ draws _ c.save_answer.ensures.refused
    (subst (λ name. LeavesDraws c.rotated_file-made.result (left_of_growth RotateToAny c.args.file.items name draws) draws c.rotated_file-made.new.draws) c.as_bytes.ensures.value c.rotated_file-made.ensures.rest)
