use Rattle.std.proofs.Common.{ap}
use Rattle.std.specs.Prelude.{option_map}
use Rattle.tink_cli_jobs.proofs.ProtectingLemmas.{all_spared, keys_unspared, others_unspared}
use Rattle.tink_cli_jobs.proofs.protecting.spare_keys.Goals as goal

pub returns-in-Ok-clause-spared : goal.returns-in-Ok-clause-spared
returns-in-Ok-clause-spared g c =
    all_spared (g.Y.System.state c.args.system.now) (g.Y.System.state c.spare_file.new.system) (option_map (λ n. n.now) c.args.job.now.output)
    (option_map (λ n. n.now) c.name_of_file.result) _ _ _ c.spare_others.result
    (ap (λ s. g.Y.System.state s) c.spare_file.ensures.still) c.name_of_file.ensures c.in-Ok.ensures.spared c.spare_others.ensures.spared

pub returns-in-Ok-clause-cause : goal.returns-in-Ok-clause-cause
returns-in-Ok-clause-cause g c =
    others_unspared (g.Y.System.state c.args.system.now) (g.Y.System.state c.spare_file.new.system) (option_map (λ n. n.now) c.args.job.now.output)
    _ _ _ c.spare_others.result (ap (λ s. g.Y.System.state s) c.spare_file.ensures.still) c.spare_others.ensures.cause

pub returns-in-Err-clause-cause : goal.returns-in-Err-clause-cause
returns-in-Err-clause-cause g c =
    keys_unspared (g.Y.System.state c.args.system.now) (option_map (λ n. n.now) c.args.job.now.output)
    (option_map (λ n. n.now) c.name_of_file.result) _ _ _ c.name_of_file.ensures c.in-Err.ensures.cause
