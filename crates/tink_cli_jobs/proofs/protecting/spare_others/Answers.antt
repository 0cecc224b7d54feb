use Rattle.std.proofs.Common.{ℕ, List, ap, ◌∙◌}
use Rattle.std.specs.Prelude.{Option, option_map}
use Rattle.tink_cli_jobs.specs.Loading.{named}
use Rattle.tink_cli_jobs.proofs.ProtectingLemmas.{both_spared, master_unspared, other_unspared}
use Rattle.tink_cli_jobs.proofs.protecting.spare_others.Goals as goal

pub returns-in-Ok-clause-spared : goal.returns-in-Ok-clause-spared
returns-in-Ok-clause-spared g c =
    both_spared (g.Y.System.state c.args.system.now) (g.Y.System.state c.spare_file.new.system) (option_map (λ n. n.now) c.args.job.now.output)
    (option_map (λ n. n.now) c.name_of_file.result) (option_map (λ n. n.now) c.name_of_file-in-Ok.result) _ _ c.spare_file-in-Ok.result
    (ap (λ s. g.Y.System.state s) c.spare_file.ensures.still) c.name_of_file.ensures
    (c.name_of_file-in-Ok.ensures ∙ ap (λ (o : Option (List ℕ)). named o) c.new_file.ensures) c.in-Ok.ensures.spared c.spare_file-in-Ok.ensures.spared

pub returns-in-Ok-clause-cause : goal.returns-in-Ok-clause-cause
returns-in-Ok-clause-cause g c =
    other_unspared (g.Y.System.state c.args.system.now) (g.Y.System.state c.spare_file.new.system) (option_map (λ n. n.now) c.args.job.now.output)
    (option_map (λ n. n.now) c.name_of_file.result) (option_map (λ n. n.now) c.name_of_file-in-Ok.result) _ _ c.spare_file-in-Ok.result
    (ap (λ s. g.Y.System.state s) c.spare_file.ensures.still)
    (c.name_of_file-in-Ok.ensures ∙ ap (λ (o : Option (List ℕ)). named o) c.new_file.ensures) c.spare_file-in-Ok.ensures.cause

pub returns-in-Err-clause-cause : goal.returns-in-Err-clause-cause
returns-in-Err-clause-cause g c =
    master_unspared (g.Y.System.state c.args.system.now) (option_map (λ n. n.now) c.args.job.now.output)
    (option_map (λ n. n.now) c.name_of_file.result) _ _ c.name_of_file.ensures c.in-Err.ensures.cause
