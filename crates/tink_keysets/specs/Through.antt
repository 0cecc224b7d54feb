-- What calls through a reader or a writer of keysets answer.
use Rattle.std.specs.Prelude.{◌≡◌, ◌⊎◌, ℕ, List, Option, Result, Ok, Err}
use Rattle.tink_io.specs.Answering.{IsShort}
use Rattle.tink_io.specs.declared.error.Kind.{Kind}
use Rattle.tink_io.specs.declared.error.Kind.TheVariants.{OutOfMemory}
use Rattle.tink_io.specs.declared.error.TinkError.{TinkError}
use Rattle.tink_keyset_rules.specs.Ends.{IsAsTold, IsReadRefusal, IsWriteRefusal}

-- What was read gives the answer. Where it is told what is read, it is that.
pub record IsFrom {S T : Type 0} (makes : S → Result T Kind) (told : Option (Result S Kind)) (answer : Result T Kind) : Type 0 where
  pub read : S
  pub is_read : IsAsTold told (Ok read)
  pub made : makes read ≡ answer

-- a call reads, and answers by what was read, or the reader refuses
abbrev pub GivesBy : {S T : Type 0} → (S → Result T Kind) → Result T TinkError → Option (Result S Kind) → ℕ → ℕ → Type 0
GivesBy makes (Ok v) told before now = IsFrom makes told (Ok v)
GivesBy makes (Err e) told before now = IsReadRefusal told e.kind before now ⊎ IsFrom makes told (Err e.kind)

-- A message was made, and the writer took it.
pub record IsTaken {S W : Type 0} (answers : W → S → Option (Result (Unit {0}) Kind)) (writes : W → S → W → Type 0) (made : Result S Kind) (old new : W) : Type 0 where
  pub message : S
  pub is_made : made ≡ Ok message
  pub answer : IsAsTold (answers old message) (Ok tt)
  pub written : writes old message new

-- No message was made, or there is no memory for one, and the writer is as before.
pub record IsUnmade {S W : Type 0} (made : Result S Kind) (kind : Kind) (old new : W) : Type 0 where
  pub cause : (kind ≡ OutOfMemory) ⊎ (made ≡ Err kind)
  pub same : new ≡ old

-- A message was made, and the writer refused it: what it has of it is what it leaves of that message.
pub record IsRefusedByWriter {S W : Type 0} (answers : W → S → Option (Result (Unit {0}) Kind)) (refused : W → S → Kind → W → Type 0) (faults : W → ℕ) (made : Result S Kind) (kind : Kind) (old new : W) : Type 0 where
  pub message : S
  pub is_made : made ≡ Ok message
  pub cause : IsWriteRefusal (answers old message) kind (faults old) (faults new)
  pub left : refused old message kind new

-- a call makes a message and writes it
abbrev pub MakesAndWrites : {S W : Type 0} → (W → S → Option (Result (Unit {0}) Kind)) → (W → S → W → Type 0) → (W → S → Kind → W → Type 0) → (W → ℕ) → Result (Unit {0}) TinkError → Result S Kind → W → W → Type 0
MakesAndWrites answers writes refused faults (Ok _) made old new = IsTaken answers writes made old new
MakesAndWrites answers writes refused faults (Err e) made old new = IsUnmade made e.kind old new ⊎ IsRefusedByWriter answers refused faults made e.kind old new

-- a call leaves the given draws; where there is no memory it may leave any end of what there was
abbrev pub LeavesDraws : {T : Type 0} → Result T TinkError → List ℕ → List ℕ → List ℕ → Type 0
LeavesDraws (Ok _) left before now = now ≡ left
LeavesDraws (Err e) left before now = IsShort e.kind before now ⊎ (now ≡ left)
