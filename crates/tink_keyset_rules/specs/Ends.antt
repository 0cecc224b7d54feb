-- What readers and writers of keysets tell.
use Rattle.std.specs.Prelude.{◌≡◌, ℕ, ⊤, Option, Some, None, Result, Ok, Err}
use Rattle.tink_io.specs.Faults.{Rose}
use Rattle.tink_io.specs.declared.error.Kind.{Kind}
use Rattle.tink_io.specs.declared.error.Kind.TheVariants.{OutOfMemory, ReadFault, WriteFault, NoKeyset}
use Rattle.tink_io.specs.declared.error.TinkError.{TinkError}

-- the given answer is this one; where none is told, any is
abbrev pub IsAsTold : {T : Type 0} → Option (Result T Kind) → Result T Kind → Type 0
IsAsTold None answer = ⊤
IsAsTold (Some told) answer = told ≡ answer

-- a refusal to read: by `OutOfMemory`, by a fault, which raises the count, or by the given kind
abbrev pub IsReadRefusal : {T : Type 0} → Option (Result T Kind) → Kind → ℕ → ℕ → Type 0
IsReadRefusal told OutOfMemory before now = ⊤
IsReadRefusal told ReadFault before now = Rose before now
IsReadRefusal told WriteFault before now = ⊥
IsReadRefusal told kind before now = IsAsTold told (Err kind)

-- a refusal to write, in the same way
abbrev pub IsWriteRefusal : Option (Result (Unit {0}) Kind) → Kind → ℕ → ℕ → Type 0
IsWriteRefusal told OutOfMemory before now = ⊤
IsWriteRefusal told ReadFault before now = ⊥
IsWriteRefusal told WriteFault before now = Rose before now
IsWriteRefusal told kind before now = IsAsTold told (Err kind)

-- a call that reads gives the given value, or refuses
abbrev pub HasRead : {T : Type 0} → Result T TinkError → Option (Result T Kind) → ℕ → ℕ → Type 0
HasRead (Ok v) told before now = IsAsTold told (Ok v)
HasRead (Err e) told before now = IsReadRefusal told e.kind before now

-- a call that writes takes the message where it is given so, or refuses
abbrev pub HasWritten : Result (Unit {0}) TinkError → Option (Result (Unit {0}) Kind) → ℕ → ℕ → Type 0
HasWritten (Ok _) told before now = IsAsTold told (Ok tt)
HasWritten (Err e) told before now = IsWriteRefusal told e.kind before now

-- what a field of a reader in memory gives
abbrev pub held_or : {T : Type 0} → Option T → Result T Kind
held_or None = Err NoKeyset
held_or (Some v) = Ok v

-- what was made stands in a field, or the field is as before and the refusal is passed on, which only the code needs
abbrev pub HasPut : {T : Type 0} → Result T TinkError → Result (Unit {0}) TinkError → Option T → Option T → Type 0
HasPut (Ok v) result old new = (result ≡ Ok tt) × (new ≡ Some v)
HasPut (Err e) result old new = (result ≡ Err e) × (new ≡ old)
