-- What the caller's buffer, the length and the status are after a call.
use Rattle.std.specs.Prelude.{◌≡◌, ◌⊎◌, ◌≤◌, ◌<◌, ◌++◌, ℕ, List, length, drop, Result, Ok, Err}
use Rattle.tink_io.specs.declared.error.Kind.{Kind}
use Rattle.tink_io.specs.declared.error.Kind.TheVariants.{OutOfMemory}
use Rattle.tink_io.specs.declared.error.TinkError.{TinkError}
use Rattle.tink_c_bytes.specs.Statuses.{c_status, ok, out_of_memory, too_little_room}

-- the buffer before a call and after it, the length that the call wrote, and its status
pub record Handed : Type 0 where
  pub before : List ℕ
  pub after : List ℕ
  pub written : ℕ
  pub status : ℕ

abbrev pub handed : List ℕ → List ℕ → ℕ → ℕ → Handed
handed before after written status = record { before = before; after = after; written = written; status = status }

-- the output stands at the beginning of the buffer, and the rest of the buffer is unchanged
pub record IsGiven (Gives : List ℕ → Type 0) (h : Handed) : Type 0 where
  pub bytes : List ℕ
  pub gives : Gives bytes
  pub status : h.status ≡ ok
  pub fits : length bytes ≤ length h.before
  pub filled : h.after ≡ bytes ++ drop (length bytes) h.before
  pub counted : h.written ≡ length bytes

-- the output is longer than the buffer, which is unchanged, and its length was written
pub record NeedsRoom (Gives : List ℕ → Type 0) (h : Handed) : Type 0 where
  pub bytes : List ℕ
  pub gives : Gives bytes
  pub status : h.status ≡ too_little_room
  pub longer : length h.before < length bytes
  pub unchanged : h.after ≡ h.before
  pub counted : h.written ≡ length bytes

-- there is no output, for this reason: the buffer is unchanged, and 0 was written as the length
pub record IsRefused (Refuses : Kind → Type 0) (h : Handed) : Type 0 where
  pub kind : Kind
  pub refuses : Refuses kind
  pub status : h.status ≡ c_status kind
  pub unchanged : h.after ≡ h.before
  pub counted : h.written ≡ 0

-- there was no memory: the buffer is unchanged, and 0 was written as the length
pub record HasNoMemory (h : Handed) : Type 0 where
  pub status : h.status ≡ out_of_memory
  pub unchanged : h.after ≡ h.before
  pub counted : h.written ≡ 0

-- a call gives some output, or is refused for some reason, or there is no memory
abbrev pub Hands : (List ℕ → Type 0) → (Kind → Type 0) → Handed → Type 0
Hands Gives Refuses h = IsGiven Gives h ⊎ NeedsRoom Gives h ⊎ IsRefused Refuses h ⊎ HasNoMemory h

-- a call gives exactly this output, or is refused by exactly this error, or there is no memory
abbrev pub Delivers : Result (List ℕ) Kind → Handed → Type 0
Delivers told h = Hands (λ bytes. told ≡ Ok bytes) (λ kind. told ≡ Err kind) h

-- the same of a call that gives no output
pub record IsAccepted (told : Result (Unit {0}) Kind) (status : ℕ) : Type 0 where
  pub told_ok : told ≡ Ok tt
  pub status_ok : status ≡ ok

pub record IsNotAccepted (told : Result (Unit {0}) Kind) (status : ℕ) : Type 0 where
  pub kind : Kind
  pub told_err : told ≡ Err kind
  pub status_err : status ≡ c_status kind

abbrev pub Reports : Result (Unit {0}) Kind → ℕ → Type 0
Reports told status = IsAccepted told status ⊎ IsNotAccepted told status ⊎ (status ≡ out_of_memory)

-- what stands after a call that made bytes, or that was refused
pub record IsUnmade (kind : Kind) (h : Handed) : Type 0 where
  pub status : h.status ≡ c_status kind
  pub unchanged : h.after ≡ h.before
  pub counted : h.written ≡ 0

abbrev pub Puts : Result (List ℕ) TinkError → Handed → Type 0
Puts (Ok made) h = IsGiven (λ bytes. bytes ≡ made) h ⊎ NeedsRoom (λ bytes. bytes ≡ made) h
Puts (Err e) h = IsUnmade e.kind h

-- a call makes bytes of which this holds, or is refused for that reason, or there is no memory
abbrev pub MadeBy : (List ℕ → Type 0) → (Kind → Type 0) → Result (List ℕ) TinkError → Type 0
MadeBy Gives Refuses (Ok bytes) = Gives bytes
MadeBy Gives Refuses (Err e) = (e.kind ≡ OutOfMemory) ⊎ Refuses e.kind
