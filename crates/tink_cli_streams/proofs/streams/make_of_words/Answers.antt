use Rattle.std.proofs.Common.{◌≡◌, ◌≤◌, ◌∙◌, ap, inl, inr, refl, sym, subst, true, ℕ}
use Rattle.std.specs.Prelude.{None, Some}
use Rattle.tink_system.specs.States.{SystemState}
use Rattle.tink_cli_jobs.specs.Protecting.{AreSparedBy}
use Rattle.tink_cli_jobs.proofs.LoadingLemmas.{loaded_by}
use Rattle.tink_cli_streams.proofs.BreakingLemmas.{unmade}
use Rattle.tink_cli_streams.proofs.LineCauseLemmas.{make_cause, make_unready, make_unspelled}
use Rattle.tink_cli_streams.proofs.MovingLemmas.{made_by_words}
use Rattle.tink_cli_streams.proofs.streams.make_of_words.Goals as goal

pub returns-in-Ok-clause-done : goal.returns-in-Ok-clause-done
returns-in-Ok-clause-done g c =
    let task = c.in-Some.task in
    let job = c.in-Some-job_of.job in
    let still = ap (λ s. g.Y.System.state s) c.spare_terminal.ensures.still in
    made_by_words c.args.action c.args.line.now task job c.as_slice.result.now (g.Y.System.state c.args.system.now) (g.Y.System.state c.keyset_for.new.system)
    (g.Y.System.state c.perform.new.system) _ _ c.perform.result (sym c.in-Some.ensures) c.in-Some-job_of.ensures (c.in-Ok.ensures.state ∙ still)
    (loaded_by (g.Y.System.state c.args.system.now) (g.Y.System.state c.spare_terminal.new.system) job.keys c.in-Ok.keyset c.as_slice.result.now still c.as_slice.ensures
    c.in-Ok.ensures.loaded)
    (subst (λ (s : SystemState). s.is_known ≡ true → AreSparedBy s job) still c.in-Ok.ensures.spared) c.in-Ok.ensures.once c.perform.ensures.done

pub returns-in-Ok-clause-broken : goal.returns-in-Ok-clause-broken
returns-in-Ok-clause-broken g c =
    let task = c.in-Some.task in
    let job = c.in-Some-job_of.job in
    let still = ap (λ s. g.Y.System.state s) c.spare_terminal.ensures.still in
    unmade c.args.action c.args.line.now task job c.as_slice.result.now (g.Y.System.state c.args.system.now) (g.Y.System.state c.keyset_for.new.system)
    _ _ c.perform.result (sym c.in-Some.ensures) c.in-Some-job_of.ensures (c.in-Ok.ensures.state ∙ still)
    (loaded_by (g.Y.System.state c.args.system.now) (g.Y.System.state c.spare_terminal.new.system) job.keys c.in-Ok.keyset c.as_slice.result.now still c.as_slice.ensures
    c.in-Ok.ensures.loaded) c.perform.ensures.broken

pub returns-in-Ok-clause-cause : goal.returns-in-Ok-clause-cause
returns-in-Ok-clause-cause g c =
    let old = g.Y.System.state c.args.system.now in
    let still = ap (λ s. g.Y.System.state s) c.spare_terminal.ensures.still in
    make_cause c.args.action c.in-Some.task c.args.line.now c.in-Some-job_of.job c.as_slice.result.now old (g.Y.System.state c.keyset_for.new.system)
    (g.Y.System.faults c.args.system.now) (g.Y.System.faults c.keyset_for.new.system) (g.Y.System.faults c.perform.new.system) c.perform.result
    (sym c.in-Some.ensures) c.in-Some-job_of.ensures (c.in-Ok.ensures.state ∙ still)
    (subst (λ (n : ℕ). n ≤ g.Y.System.faults c.keyset_for.new.system) (ap (λ s. g.Y.System.faults s) c.spare_terminal.ensures.still) c.in-Ok.ensures.later)
    (loaded_by old (g.Y.System.state c.spare_terminal.new.system) c.in-Some-job_of.job.keys c.in-Ok.keyset c.as_slice.result.now still c.as_slice.ensures c.in-Ok.ensures.loaded)
    c.perform.ensures.cause

pub returns-in-Err-clause-cause : goal.returns-in-Err-clause-cause
returns-in-Err-clause-cause g c = λ known. inr (inl c.in-Err.ensures.refused)

pub returns-in-Err-keyset_for-clause-cause : goal.returns-in-Err-keyset_for-clause-cause
returns-in-Err-keyset_for-clause-cause g c =
    make_unready c.args.action c.in-Some.task c.args.line.now c.in-Some-job_of.job (g.Y.System.state c.args.system.now) (g.Y.System.state c.spare_terminal.new.system)
    (g.Y.System.faults c.args.system.now) (g.Y.System.faults c.spare_terminal.new.system) (g.Y.System.faults c.keyset_for.new.system) c.in-Err-keyset_for.trouble
    (sym c.in-Some.ensures) c.in-Some-job_of.ensures (ap (λ s. g.Y.System.state s) c.spare_terminal.ensures.still) (ap (λ s. g.Y.System.faults s) c.spare_terminal.ensures.still)
    c.in-Err-keyset_for.ensures.refused

pub returns-in_default-clause-cause : goal.returns-in_default-clause-cause
returns-in_default-clause-cause g c = λ known.
    make_unspelled c.args.action c.args.line.now (g.Y.System.state c.args.system.now) (g.Y.System.faults c.args.system.now) (g.Y.System.faults c.args.system.now) 2 None
    (sym c.in_default.ensures) (inl refl) refl

pub returns-in_default-job_of-clause-cause : goal.returns-in_default-job_of-clause-cause
returns-in_default-job_of-clause-cause g c = λ known.
    make_unspelled c.args.action c.args.line.now (g.Y.System.state c.args.system.now) (g.Y.System.faults c.args.system.now) (g.Y.System.faults c.args.system.now) 2 (Some c.in-Some.task)
    (sym c.in-Some.ensures) (inr c.in_default-job_of.ensures) refl
