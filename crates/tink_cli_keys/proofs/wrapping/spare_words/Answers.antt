use Rattle.std.proofs.Common.{ap}
use Rattle.std.specs.Prelude.{option_map}
use Rattle.tink_cli_keys.proofs.MasterLemmas.{first_unspared, second_unspared}
use Rattle.tink_cli_keys.proofs.wrapping.spare_words.Goals as goal

pub returns-in-Ok-clause-cause : goal.returns-in-Ok-clause-cause
returns-in-Ok-clause-cause g c =
    second_unspared c.args.words (g.Y.System.state c.args.system.now) (g.Y.System.state c.spare_file.new.system) (option_map (λ n. n.now) c.name_of_file-output.result)
    (option_map (λ n. n.now) c.name_of_file-in-Ok.result) c.spare_file-in-Ok.result (ap (λ s. g.Y.System.state s) c.spare_file.ensures.still) c.name_of_file-output.ensures
    c.name_of_file-in-Ok.ensures c.spare_file-in-Ok.ensures.cause

pub returns-in-Err-clause-cause : goal.returns-in-Err-clause-cause
returns-in-Err-clause-cause g c =
    first_unspared c.args.words (g.Y.System.state c.args.system.now) (option_map (λ n. n.now) c.name_of_file-output.result) (option_map (λ n. n.now) c.name_of_file.result)
    c.name_of_file-output.ensures c.name_of_file.ensures c.in-Err.ensures.cause
