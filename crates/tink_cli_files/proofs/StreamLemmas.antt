-- What is shown where a call was whole.
use Rattle.std.proofs.Common.{◌≡◌, ◌≤◌, ◌∙◌, ℕ, List, Bool, ap, sym, subst}
use Rattle.std.specs.Prelude.{Result, Ok, Err, IfOk}
use Rattle.std.specs.declared.option.Option.{Option}
use Rattle.tink_io.specs.Faults.{Rose}
use Rattle.tink_io.specs.declared.error.TinkError.{TinkError}
use Rattle.tink_io.proofs.FaultLemmas.{Rose-earlier, Rose-later}
use Rattle.tink_io.specs.Places.{Ends, IsShown}
use Rattle.tink_io.specs.Outside.{HasNoFault, Outside}
use Rattle.tink_run.specs.Run.{IsOkOrWant}
use Rattle.tink_run.specs.declared.report.Report.{Report}
use Rattle.tink_rewrap.specs.KeysetRanges.{IsGivenOrWants}
use Rattle.tink_cli_files.specs.Streams.{IsShownWhole, RanAndEnded, Succeeds}

-- a call wrote the draft, which leaves all else of the place, and its answer ended it
pub ran_and_ended : {P V : Type 0} (got : P → Option (List ℕ)) (counted : P → ℕ) (says : P → Result V TinkError → Type 0) (draft : P)
    (replaces drafted : Bool) (before beside after : Option (Option (List ℕ))) (j : ℕ) (answer result : Result V TinkError)
    → drafted ≡ replaces → beside ≡ before → says draft answer → Ends (got draft) drafted beside after (counted draft) j answer result
    → RanAndEnded got counted says replaces before after j result
ran_and_ended got counted says draft replaces drafted before beside after j answer result same_replaces same_shown ran ends =
    let Replaces : Bool → Type 0 = λ r. Ends (got draft) r beside after (counted draft) j answer result in
    let Before : Option (Option (List ℕ)) → Type 0 = λ b. Ends (got draft) replaces b after (counted draft) j answer result in
    record {
      draft = draft;
      answer = answer;
      ran = ran;
      ended = subst Before same_shown (subst Replaces same_replaces ends);
    }

-- an Ok is that of the call, whose draft is shown
pub shown_whole : {P V : Type 0} (got : P → Option (List ℕ)) (is_whole : P → V → Type 0) (draft : P) (i j : ℕ)
    (replaces drafted : Bool) (before beside after : Option (Option (List ℕ))) (answer result : Result V TinkError)
    → drafted ≡ replaces → beside ≡ before → IfOk answer (λ v. is_whole draft v) → Ends (got draft) drafted beside after i j answer result
    → IfOk result (λ v. IsShownWhole got is_whole replaces before after v)
shown_whole got is_whole draft i j replaces drafted before beside after (Ok v) (Ok w) same_replaces same_shown means ends =
    let Replaces : Bool → Type 0 = λ r. IsShown (got draft) r beside after in
    let Before : Option (Option (List ℕ)) → Type 0 = λ b. IsShown (got draft) replaces b after in
    record {
      draft = draft;
      whole = subst (λ u. is_whole draft u) (sym ends.0) means;
      shown = subst Before same_shown (subst Replaces same_replaces ends.1);
    }
shown_whole got is_whole draft i j replaces drafted before beside after (Ok v) (Err e) same_replaces same_shown means ends = tt
shown_whole got is_whole draft i j replaces drafted before beside after (Err e) (Ok w) same_replaces same_shown means ends = absurd ends
shown_whole got is_whole draft i j replaces drafted before beside after (Err e) (Err f) same_replaces same_shown means ends = tt

-- a call that is done where no end fails, and whose draft is then shown
pub succeeded : {V : Type 0} (draft : Option (List ℕ)) (replaces : Bool) (before after : Option (Option (List ℕ))) (reads reads_after writes written writes_after : ℕ) (answer result : Result V TinkError)
    → writes ≤ written → written ≤ writes_after → Ends draft replaces before after written writes_after answer result
    → Succeeds reads reads_after writes written answer → Succeeds reads reads_after writes writes_after result
succeeded draft replaces before after reads reads_after writes written writes_after (Ok v) (Ok w) earlier later ends done = λ unread unwritten. tt
succeeded draft replaces before after reads reads_after writes written writes_after (Ok v) (Err e) earlier later ends done =
    λ unread unwritten. absurd (unwritten (Rose-earlier writes written writes_after earlier ends.cause))
succeeded draft replaces before after reads reads_after writes written writes_after (Err e) (Ok w) earlier later ends done = absurd ends
succeeded draft replaces before after reads reads_after writes written writes_after (Err e) (Err f) earlier later ends done =
    λ unread unwritten. ap (λ (x : TinkError). x.kind) ends.0 ∙ done unread (λ rose. unwritten (Rose-later writes written writes_after rose later))

-- what a call promises where no count rose
pub done_by : (answer : Result Report TinkError) (old new : Outside) → (HasNoFault old new → IsOkOrWant answer)
    → Succeeds old.read_faults new.read_faults old.write_faults new.write_faults answer
done_by (Ok report) old new done = λ unread unwritten. tt
done_by (Err e) old new done = λ unread unwritten. done (record { reads = unread; writes = unwritten })

-- the same of a range
pub range_done : (answer : Result ℕ TinkError) (reads reads_after writes writes_after : ℕ) → ((Rose reads reads_after → ⊥) → (Rose writes writes_after → ⊥) → IsGivenOrWants answer)
    → Succeeds reads reads_after writes writes_after answer
range_done (Ok n) reads reads_after writes writes_after done = λ unread unwritten. tt
range_done (Err e) reads reads_after writes writes_after done = done
