-- What is saved, and what its call leaves.
use Rattle.std.proofs.Common.{◌≡◌, ◌∙◌, ◌⊎◌, inl, inr, ℕ, List, true, None, Result, Ok, Err, ap, sym}
use Rattle.std.specs.Prelude.{IfErr}
use Rattle.std.specs.declared.option.Option.{Option}
use Rattle.tink_io.specs.declared.error.Kind.TheVariants.{WriteFault}
use Rattle.tink_io.specs.declared.error.TinkError.{TinkError}
use Rattle.tink_keysets.specs.Through.{LeavesDraws}
use Rattle.tink_io.specs.Places.{Ends}
use Rattle.tink_keygen.proofs.RotatingSteps.{leaves_told}

-- a refusal ends a draft as it is, whatever the draft has
pub ended_refused : (answer : Result (List ℕ) TinkError) (before after : Option (Option (List ℕ))) (e : TinkError) (result : Result (Unit {0}) TinkError)
    → answer ≡ Err e → Ends None true before after 0 0 (Err e) result → IfErr answer (λ f. result ≡ Err f)
ended_refused answer before after e (Ok done) is ends = absurd ends
ended_refused answer before after e (Err f) is ends = rw is (ap (λ (x : TinkError). Err x) ends.0)

-- a refusal is that of the call
pub refused_by_call : (answer : Result (List ℕ) TinkError) (before after : Option (Option (List ℕ))) (e : TinkError) (result : Result (Unit {0}) TinkError)
    → answer ≡ Err e → Ends None true before after 0 0 (Err e) result → IfErr result (λ f. (answer ≡ Err f) ⊎ (f ≡ record { kind = WriteFault }))
refused_by_call answer before after e (Ok done) is ends = tt
refused_by_call answer before after e (Err f) is ends = inl (is ∙ ap (λ (x : TinkError). Err x) (sym ends.0))

-- or one of the draft
pub refused_by_draft : (answer : Result (List ℕ) TinkError) (result : Result (Unit {0}) TinkError) → IfErr result (λ e. e ≡ record { kind = WriteFault })
    → IfErr result (λ e. (answer ≡ Err e) ⊎ (e ≡ record { kind = WriteFault }))
refused_by_draft answer (Ok done) fault = tt
refused_by_draft answer (Err e) fault = inr fault

-- what a call leaves of the draws is left where its answer is saved
pub saved_draws : (answer : Result (List ℕ) TinkError) (result : Result (Unit {0}) TinkError) (left before now : List ℕ)
    → IfErr answer (λ e. result ≡ Err e) → LeavesDraws answer left before now → LeavesDraws result left before now
saved_draws (Ok bytes) result left before now same leaves = leaves_told result left before now leaves
saved_draws (Err e) result left before now same leaves = rw same leaves
