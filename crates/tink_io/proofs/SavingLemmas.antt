-- How a save is refused.
use Rattle.std.proofs.Common.{◌≡◌, ◌∙◌, ℕ, ◌≤◌, List, Bool}
use Rattle.std.specs.Prelude.{Result, Ok, Err, IfErr, OnErr}
use Rattle.std.specs.declared.option.Option.{Option}
use Rattle.tink_io.specs.Faults.{Rose}
use Rattle.tink_io.specs.declared.error.Kind.TheVariants.{WriteFault}
use Rattle.tink_io.specs.declared.error.TinkError.{TinkError}
use Rattle.tink_io.proofs.FaultLemmas.{Rose-earlier, Rose-later}
use Rattle.tink_io.specs.Places.{Ends}

-- the count rose in the writing, or in the showing
pub refused_by_a_fault : (draft : Option (List ℕ)) (replaces : Bool) (before after : Option (Option (List ℕ))) (i j k : ℕ)
    (written answer : Result (Unit {0}) TinkError) → OnErr written (Rose i j) → i ≤ j → j ≤ k
    → Ends draft replaces before after j k written answer → OnErr answer (Rose i k)
refused_by_a_fault draft replaces before after i j k (Ok v) (Ok w) rose first second ends = tt
refused_by_a_fault draft replaces before after i j k (Ok v) (Err e) rose first second ends = Rose-earlier i j k first ends.cause
refused_by_a_fault draft replaces before after i j k (Err e) (Ok w) rose first second ends = absurd ends
refused_by_a_fault draft replaces before after i j k (Err e) (Err f) rose first second ends = Rose-later i j k rose second

-- what was shown before the writing stays
pub refused_shows_nothing : (draft : Option (List ℕ)) (replaces : Bool) (was before after : Option (Option (List ℕ))) (i j : ℕ)
    (written answer : Result (Unit {0}) TinkError) → before ≡ was → Ends draft replaces before after i j written answer → OnErr answer (after ≡ was)
refused_shows_nothing draft replaces was before after i j (Ok v) (Ok w) same ends = tt
refused_shows_nothing draft replaces was before after i j (Ok v) (Err e) same ends = ends.shown ∙ same
refused_shows_nothing draft replaces was before after i j (Err e) (Ok w) same ends = absurd ends
refused_shows_nothing draft replaces was before after i j (Err e) (Err f) same ends = ends.1 ∙ same

-- the writing and the showing refuse by one kind
pub refused_by_WriteFault : (draft : Option (List ℕ)) (replaces : Bool) (before after : Option (Option (List ℕ))) (i j : ℕ)
    (written answer : Result (Unit {0}) TinkError) → IfErr written (λ e. e ≡ record { kind = WriteFault })
    → Ends draft replaces before after i j written answer → IfErr answer (λ e. e ≡ record { kind = WriteFault })
refused_by_WriteFault draft replaces before after i j (Ok v) (Ok w) refused ends = tt
refused_by_WriteFault draft replaces before after i j (Ok v) (Err e) refused ends = ends.refusal
refused_by_WriteFault draft replaces before after i j (Err e) (Ok w) refused ends = absurd ends
refused_by_WriteFault draft replaces before after i j (Err e) (Err f) refused ends = ends.0 ∙ refused
