-- What stays of an object over calls, and its count of faults.
use Rattle.std.specs.Prelude.{◌≡◌, ◌≤◌, ℕ, List, MatchResult, Result, Ok, Err}
use Rattle.std.specs.declared.option.Option.{Option}
use Rattle.tink_io.specs.Faults.{Rose}
use Rattle.tink_io.specs.declared.error.Kind.{Kind}
use Rattle.tink_io.specs.declared.error.Kind.TheVariants.{ReadFault}
use Rattle.tink_io.specs.declared.error.TinkError.{TinkError}

-- a failure has raised the count of faults, and any other answer leaves it as it was
abbrev pub RisesByFailure : {T E : Type 0} → ℕ → ℕ → Result T E → Type 0
RisesByFailure before now result = MatchResult result (λ _. now ≡ before) (λ _. Rose before now)

-- the same of one read, and the count does not fall
pub record CountsRead {T E : Type 0} (before now : ℕ) (result : Result T E) : Type 0 where
  pub later : before ≤ now
  pub count : RisesByFailure before now result

-- a ReadFault has raised the count of faults, and any other refusal leaves it as it was
abbrev pub RisesByKind : ℕ → ℕ → Kind → Type 0
RisesByKind before now ReadFault = Rose before now
RisesByKind before now _ = now ≡ before

abbrev pub RisesByReadFault : {T : Type 0} → ℕ → ℕ → Result T TinkError → Type 0
RisesByReadFault before now (Ok _) = now ≡ before
RisesByReadFault before now (Err e) = RisesByKind before now e.kind

module _ {A : Type 0} (length_of : A → ℕ) (bytes : A → Option (List ℕ)) (faults : A → ℕ) (old new : A) where
  -- its length and its bytes are as before, and it has failed no less often
  pub record KeepsObject : Type 0 where
    pub length_is : length_of new ≡ length_of old
    pub bytes_are : bytes new ≡ bytes old
    pub later : faults old ≤ faults new

  -- the same after an answer, and where this is no ReadFault it has failed as often as before
  pub record LeavesObject {T : Type 0} (result : Result T TinkError) : Type 0 where
    pub length_is : length_of new ≡ length_of old
    pub bytes_are : bytes new ≡ bytes old
    pub later : faults old ≤ faults new
    pub count : RisesByReadFault (faults old) (faults new) result

module _ {A : Type 0} (length_of : A → ℕ) (bytes : A → Option (List ℕ)) (faults : A → ℕ) (stays : A → A → Type 0) (old new : A) where
  -- what a read leaves: its length and its bytes are as before, it has failed once more where the read failed, and what
  -- stays over calls stays
  pub record ReadsObject {T E : Type 0} (result : Result T E) : Type 0 where
    pub kept : KeepsObject length_of bytes faults old new
    pub count : RisesByFailure (faults old) (faults new) result
    pub same : stays old new
