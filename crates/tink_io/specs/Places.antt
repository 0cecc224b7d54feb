-- What becomes of a draft and of what stands under its name.
use Rattle.std.specs.Prelude.{◌≡◌, ℕ, ◌++◌, List, Bool, false, Some, None, Result, Ok, Err, IfSome}
use Rattle.std.specs.declared.option.Option.{Option}
use Rattle.tink_io.specs.Faults.{Rose}
use Rattle.tink_io.specs.declared.error.Kind.TheVariants.{WriteFault}
use Rattle.tink_io.specs.declared.error.TinkError.{TinkError}

-- The whole draft stands under the name. Where no file is to be replaced, none stood there.
pub record IsShown (draft : Option (List ℕ)) (replaces : Bool) (before after : Option (Option (List ℕ))) : Type 0 where
  pub whole : IfSome draft (λ bytes. after ≡ Some (Some bytes))
  pub fresh : replaces ≡ false → IfSome before (λ file. file ≡ None)

-- the draft and then these bytes stand under the name
abbrev pub IsSaved : Option (List ℕ) → List ℕ → Bool → Option (Option (List ℕ)) → Option (Option (List ℕ)) → Type 0
IsSaved None bytes replaces before after = IsShown None replaces before after
IsSaved (Some draft) bytes replaces before after = IsShown (Some (draft ++ bytes)) replaces before after

-- the draft could not be shown
pub record IsUnshown (before after : Option (Option (List ℕ))) (faults_before faults_after : ℕ) (e : TinkError) : Type 0 where
  pub refusal : e ≡ record { kind = WriteFault }
  pub cause : Rose faults_before faults_after
  pub shown : after ≡ before

-- how a draft ends, by the answer of what wrote it and the answer that is given
abbrev pub Ends : {T : Type 0} → Option (List ℕ) → Bool → Option (Option (List ℕ)) → Option (Option (List ℕ)) → ℕ → ℕ → Result T TinkError → Result T TinkError → Type 0
Ends draft replaces before after i j (Ok v) (Ok w) = (w ≡ v) × IsShown draft replaces before after
Ends draft replaces before after i j (Ok v) (Err e) = IsUnshown before after i j e
Ends draft replaces before after i j (Err e) (Ok w) = ⊥
Ends draft replaces before after i j (Err e) (Err f) = (f ≡ e) × (after ≡ before)
