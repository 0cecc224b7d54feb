-- Causes of errors, after calls that may raise the count of faults.
use Rattle.std.proofs.Common.{◌≡◌, ◌⊎◌, ◌≤◌, inl, inr, ℕ, List, Bool, true, false, subst, sym}
use Rattle.std.specs.Prelude.{Option, Some, None, Result, IfErr}
use Rattle.tink_io.specs.declared.error.Kind.{Kind}
use Rattle.tink_io.specs.Faults.{Rose}
use Rattle.tink_io.proofs.FaultLemmas.{Rose-later}
use Rattle.tink_cli_words.specs.declared.commands.Given.{Given}
use Rattle.tink_cli_words.specs.declared.form.Action.{Action}
use Rattle.tink_cli_words.specs.declared.form.Action.TheVariants as actions
use Rattle.tink_cli_words.specs.LineRead.{LineRead}
use Rattle.tink_system.specs.States.{SystemState}
use Rattle.tink_cli_keys.specs.Refusing.{IsCaused, IsRefusedAs, IsRefusedUnder}
use Rattle.tink_cli_ranges.specs.Refusing.{HasPartCause}
use Rattle.tink_cli_streams.specs.Causes.{HasMakeCause}
use Rattle.tink_cli.specs.Lines.{HasCause, HasCauseBy, HasCauseUnless, LeavesAt, LeavesOutputBy}

caused : (W : Type 0) (given : Result (List ℕ) Kind) (before then now status : ℕ) → then ≤ now → IsCaused before then W given status → IsCaused before now W given status
caused W given before then now status le (inl want) = inl want
caused W given before then now status le (inr (inl write)) = inr (inl write)
caused W given before then now status le (inr (inr (inl rose))) = inr (inr (inl (Rose-later before then now rose le)))
caused W given before then now status le (inr (inr (inr by))) = inr (inr (inr by))

refused : (W : Type 0) (given : Option (Result (List ℕ) Kind)) (before then now status : ℕ) → then ≤ now → IsRefusedAs before then W given status → IsRefusedAs before now W given status
refused W None before then now status le is = is
refused W (Some given) before then now status le is = caused W given before then now status le is

under : (W : Type 0) (line : LineRead) (s : SystemState) (given : Option (Result (List ℕ) Kind)) (before then now status : ℕ) → then ≤ now
    → IsRefusedUnder line s before then W given status → IsRefusedUnder line s before now W given status
under W line s None before then now status le is = is
under W line s (Some given) before then now status le (inl bars) = inl bars
under W line s (Some given) before then now status le (inr is) = inr (caused W given before then now status le is)

streamed : (P : Type 0) (before then now status : ℕ) → then ≤ now → (status ≡ 10) ⊎ (status ≡ 12) ⊎ Rose before then ⊎ P → (status ≡ 10) ⊎ (status ≡ 12) ⊎ Rose before now ⊎ P
streamed P before then now status le (inl want) = inl want
streamed P before then now status le (inr (inl write)) = inr (inl write)
streamed P before then now status le (inr (inr (inl rose))) = inr (inr (inl (Rose-later before then now rose le)))
streamed P before then now status le (inr (inr (inr by))) = inr (inr (inr by))

of_part : (lacks unwritten ends : Type 0) (line : LineRead) (s : SystemState) (before then now status : ℕ) → then ≤ now → HasPartCause lacks unwritten ends line s before then status
    → HasPartCause lacks unwritten ends line s before now status
of_part lacks unwritten ends line s before then now status le (inl want) = inl want
of_part lacks unwritten ends line s before then now status le (inr (inl rose)) = inr (inl (Rose-later before then now rose le))
of_part lacks unwritten ends line s before then now status le (inr (inr by)) = inr (inr by)

cause : (action : Action) (line : LineRead) (s : SystemState) (before then now i j status : ℕ) → then ≤ now → HasCause action line s before then i j status
    → HasCause action line s before now i j status
cause actions.New line s before then now i j status le is = refused _ _ before then now status le is
cause actions.Keys line s before then now i j status le is = refused _ _ before then now status le is
cause actions.Add line s before then now i j status le is = refused _ _ before then now status le is
cause actions.Rotate line s before then now i j status le is = refused _ _ before then now status le is
cause actions.Promote line s before then now i j status le is = refused _ _ before then now status le is
cause actions.Enable line s before then now i j status le is = refused _ _ before then now status le is
cause actions.Disable line s before then now i j status le is = refused _ _ before then now status le is
cause actions.Destroy line s before then now i j status le is = refused _ _ before then now status le is
cause actions.Delete line s before then now i j status le is = refused _ _ before then now status le is
cause actions.Convert line s before then now i j status le is = refused _ _ before then now status le is
cause actions.Encrypt line s before then now i j status le is = streamed _ before then now status le is
cause actions.Decrypt line s before then now i j status le is = streamed _ before then now status le is
cause actions.Sign line s before then now i j status le is = streamed _ before then now status le is
cause actions.Verify line s before then now i j status le is = streamed _ before then now status le is
cause actions.Rewrap line s before then now i j status le is = streamed _ before then now status le is
cause actions.Range line s before then now i j status le is = of_part _ _ _ line s before then now status le is
cause actions.Info line s before then now i j status le is = of_part _ _ _ line s before then now status le is
cause actions.Wrap line s before then now i j status le is = under _ line s _ before then now status le is
cause actions.Unwrap line s before then now i j status le is = under _ line s _ before then now status le is
cause actions.Templates line s before then now i j status le is = is
cause actions.Help line s before then now i j status le is = is
cause actions.Version line s before then now i j status le is = is
cause _ line s before then now i j status le is = tt

by_help : (help : Bool) (given : Given) (s : SystemState) (before then now i j status : ℕ) → then ≤ now → HasCauseUnless help given s before then i j status
    → HasCauseUnless help given s before now i j status
by_help true given s before then now i j status le is = is
by_help false given s before then now i j status le is = cause given.action given.line s before then now i j status le is

pub cause_later : (given : Given) (s : SystemState) (before then now i j status : ℕ) → then ≤ now → HasCauseBy given s before then i j status → HasCauseBy given s before now i j status
cause_later given s before then now i j status le is = by_help given.line.help given s before then now i j status le is

-- the cause of an error, from that of the command that the words name
pub by_line : (K : Type 0) (T E : Type 0) (r : Result T E) (given : Given) (s : SystemState) (before now i j : ℕ) (status : E → ℕ) → false ≡ given.line.help
    → IfErr r (λ t. K → HasCause given.action given.line s before now i j (status t)) → IfErr r (λ t. K → HasCauseBy given s before now i j (status t))
by_line K T E r given s before now i j status unhelped is = subst (λ (help : Bool). IfErr r (λ t. K → HasCauseUnless help given s before now i j (status t))) unhelped is

abbrev pub IsOfTask : Action → Type 0
IsOfTask action = (action ≡ actions.Encrypt) ⊎ (action ≡ actions.Decrypt) ⊎ (action ≡ actions.Sign) ⊎ (action ≡ actions.Verify)

-- the same of the error of a task
pub by_task : (K : Type 0) (T E : Type 0) (r : Result T E) (action : Action) (line : LineRead) (s : SystemState) (before now i j : ℕ) (status : E → ℕ) → IsOfTask action
    → IfErr r (λ t. K → HasMakeCause action line s before now (status t)) → IfErr r (λ t. K → HasCause action line s before now i j (status t))
by_task K T E r action line s before now i j status (inl named) is =
    subst (λ (a : Action). IfErr r (λ t. K → HasCause a line s before now i j (status t))) (sym named)
    (subst (λ (a : Action). IfErr r (λ t. K → HasMakeCause a line s before now (status t))) named is)
by_task K T E r action line s before now i j status (inr (inl named)) is =
    subst (λ (a : Action). IfErr r (λ t. K → HasCause a line s before now i j (status t))) (sym named)
    (subst (λ (a : Action). IfErr r (λ t. K → HasMakeCause a line s before now (status t))) named is)
by_task K T E r action line s before now i j status (inr (inr (inl named))) is =
    subst (λ (a : Action). IfErr r (λ t. K → HasCause a line s before now i j (status t))) (sym named)
    (subst (λ (a : Action). IfErr r (λ t. K → HasMakeCause a line s before now (status t))) named is)
by_task K T E r action line s before now i j status (inr (inr (inr named))) is =
    subst (λ (a : Action). IfErr r (λ t. K → HasCause a line s before now i j (status t))) (sym named)
    (subst (λ (a : Action). IfErr r (λ t. K → HasMakeCause a line s before now (status t))) named is)

-- what an error leaves, and its cause, after a call that may raise the count of faults
pub left_at : (given : Given) (s : SystemState) (before then now i j : ℕ) (got got_after : Option (List ℕ)) (status result : ℕ) → then ≤ now → ((status ≡ 0 → ⊥) → result ≡ status)
    → LeavesOutputBy given s got got_after status → HasCauseBy given s before then i j status → LeavesAt given s before now i j got got_after result
left_at given s before then now i j got got_after status result le is leaves cause = record {
  status = status;
  is = is;
  leaves = leaves;
  cause = cause_later given s before then now i j status le cause;
}
