use Rattle.std.proofs.Common.{List, ap, inl, inr, refl, subst, sym, ℕ}
use Rattle.tink_cli_jobs.specs.Jobs.{IsKeysetOf}
use Rattle.tink_cli_streams.proofs.LineCauseLemmas.{move_cause}
use Rattle.tink_cli_streams.proofs.streams.rewrap_to.Goals as goal

pub returns-in-Err-clause-cause : goal.returns-in-Err-clause-cause
returns-in-Err-clause-cause g c = λ known line is keys new_keys. inr (inl c.in-Err.ensures.refused)

pub returns-in-Err-perform-clause-cause : goal.returns-in-Err-perform-clause-cause
returns-in-Err-perform-clause-cause g c = λ known line is keys new_keys.
    move_cause line c.args.job.now _ c.as_slice-2.result.now c.args.to.now (g.Y.System.state c.args.system.now) (g.Y.System.state c.spare_terminal.new.system)
    (g.Y.System.faults c.args.system.now) (g.Y.System.faults c.spare_terminal.new.system) (g.Y.System.faults c.perform.new.system) c.in-Err-perform.trouble c.blame_new_keys.result
    (ap (λ s. g.Y.System.state s) c.spare_terminal.ensures.still) (ap (λ s. g.Y.System.faults s) c.spare_terminal.ensures.still) c.blame_new_keys.ensures
    (c.as_slice.ensures, refl) c.in-Err-perform.ensures.cause known is
    (subst (λ (k : List ℕ). IsKeysetOf line (g.Y.System.state c.args.system.now) line.keys k) (sym c.as_slice-2.ensures) keys) new_keys
