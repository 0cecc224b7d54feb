-- How the answer of a call is told, and what it leaves of the draws. The given answer is a value or a kind.
use Rattle.std.specs.Prelude.{◌≡◌, ◌⊎◌, ◌++◌, ℕ, nat_le, if◌then◌else◌, List, length, drop, Option, Some, None, Result, Ok, Err}
use Rattle.tink_io.specs.declared.error.Kind.{Kind}
use Rattle.tink_io.specs.declared.error.Kind.TheVariants.{OutOfMemory, RandomFault}
use Rattle.tink_io.specs.declared.error.TinkError.{TinkError}

-- what is made of a value, or its refusal
abbrev pub made_of : {S T : Type 0} → (S → T) → Result S Kind → Result T Kind
made_of f (Ok v) = Ok (f v)
made_of f (Err kind) = Err kind

-- what there is, or a refusal where there is nothing
abbrev pub or_refused : {T : Type 0} → Kind → Option T → Result T Kind
or_refused kind None = Err kind
or_refused kind (Some v) = Ok v

-- what a second step tells of the value of a first one
abbrev pub and_then : {S T : Type 0} → Result S Kind → (S → Result T Kind) → Result T Kind
and_then (Ok v) f = f v
and_then (Err k) f = Err k

-- a call that draws nothing gives the given value, or refuses by the given kind, or there is no memory
abbrev pub Answers : {T : Type 0} → Result T TinkError → Result T Kind → Type 0
Answers (Ok v) told = told ≡ Ok v
Answers (Err e) told = (e.kind ≡ OutOfMemory) ⊎ (told ≡ Err e.kind)

-- a call that needs no memory gives the given value, or refuses by the given kind
abbrev pub Tells : {T : Type 0} → Result T TinkError → Result T Kind → Type 0
Tells (Ok v) told = told ≡ Ok v
Tells (Err e) told = told ≡ Err e.kind

-- there is no memory, or the kind is this one and the fact holds
abbrev pub OutOfMemoryOr : Kind → Kind → Type 0 → Type 0
OutOfMemoryOr refusal kind fact = (kind ≡ OutOfMemory) ⊎ ((kind ≡ refusal) × fact)

-- there is no memory, and the draws that are left are an end of what there was
pub record IsShort (k : Kind) (before now : List ℕ) : Type 0 where
  pub kind : k ≡ OutOfMemory
  pub ends : (taken : List ℕ) × (before ≡ taken ++ now)

-- a call that draws gives the given answer and leaves the given draws, or there is no memory
abbrev pub Replies : {T : Type 0} → Result T TinkError → Result T Kind × List ℕ → List ℕ → List ℕ → Type 0
Replies (Ok v) told before now = (told.0 ≡ Ok v) × (now ≡ told.1)
Replies (Err e) told before now = IsShort e.kind before now ⊎ ((told.0 ≡ Err e.kind) × (now ≡ told.1))

-- what a take of n bytes tells: it is whole or nothing
abbrev pub takes : ℕ → List ℕ → Result (Unit {0}) Kind × List ℕ
takes n draws = if nat_le n (length draws) then (Ok tt, drop n draws) else (Err RandomFault, draws)
