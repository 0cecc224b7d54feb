-- What the commands need of the system at one moment, and how a call may change it.
use Rattle.std.specs.Prelude.{◌≡◌, ◌⊎◌, ◌<◌, ℕ, List, [], Bool, true, false, Option, Some, None, IsSome, length, take, drop}
use Rattle.tink_io.specs.Faults.{Rose}
use Rattle.tink_system.specs.Statuses.{trouble_status}
use Rattle.tink_system.specs.declared.system.How.{How}
use Rattle.tink_system.specs.declared.system.How.TheVariants.{Change, Fresh, Replace}
use Rattle.tink_system.specs.declared.trouble.Trouble.{Trouble}

-- The files by their names, standard input, and the random bytes to come. If the bytes are not known, as of a real system, the
-- other fields say nothing.
pub record SystemState : Type 0 where
  pub is_known : Bool
  pub file : List ℕ → Option (List ℕ)
  -- whether two names are of one file
  pub are_one : List ℕ → List ℕ → Bool
  -- whether a name is of a pipe or a device, which is written as it comes
  pub is_stream : List ℕ → Bool
  pub input : List ℕ
  pub random : List ℕ

-- a value, if the bytes are known
abbrev pub known_if : {T : Type 0} → Bool → T → Option T
known_if true v = Some v
known_if false v = None

abbrev pub known_bytes : Bool → Option (List ℕ) → Option (List ℕ)
known_bytes true bytes = bytes
known_bytes false bytes = None

-- the bytes under a name, and those of standard input if there is no name
abbrev pub content : SystemState → Option (List ℕ) → Option (List ℕ)
content s (Some name) = s.file name
content s None = Some s.input

-- the same, if they are known
abbrev pub known_content : SystemState → Option (List ℕ) → Option (List ℕ)
known_content s name = known_bytes s.is_known (content s name)

-- if the bytes are known, these are under the name
abbrev pub HasContent : SystemState → Option (List ℕ) → List ℕ → Type 0
HasContent s name bytes = s.is_known ≡ true → content s name ≡ Some bytes

-- if the bytes are known, there are some under the name
abbrev pub IsThere : SystemState → Option (List ℕ) → Type 0
IsThere s name = s.is_known ≡ true → IsSome (content s name)

-- if the bytes are known, no file has the name
abbrev pub IsAbsent : SystemState → Option (List ℕ) → Type 0
IsAbsent s name = s.is_known ≡ true → content s name ≡ None

-- if the bytes are known, those under the name are more than may be
abbrev pub IsLonger : SystemState → Option (List ℕ) → ℕ → Type 0
IsLonger s name most = s.is_known ≡ true → (bytes : List ℕ) × (content s name ≡ Some bytes) × (most < length bytes)

-- whether the draft replaces a file
abbrev pub replaces_by : How → Bool
replaces_by Replace = true
replaces_by Change = true
replaces_by Fresh = false

-- a draft of no bytes is there for this name, under which the file is still shown
pub record HasBegun (s : SystemState) (name : List ℕ) (how : How) (has_draft replaces : Bool) (got : Option (List ℕ)) (shown : Option (Option (List ℕ))) : Type 0 where
  pub draft : has_draft ≡ true
  pub replacing : replaces ≡ replaces_by how
  pub empty : got ≡ known_if s.is_known []
  pub shows : shown ≡ known_if s.is_known (s.file name)

-- all but the files stays
pub record KeepsSystem (old new : SystemState) : Type 0 where
  pub known : new.is_known ≡ old.is_known
  pub names : new.are_one ≡ old.are_one
  pub streams : new.is_stream ≡ old.is_stream
  pub input : new.input ≡ old.input

-- The file under a name is what is shown there. Every other file stays, and all else.
pub record IsSettled (old new : SystemState) (name : List ℕ) (shown : Option (Option (List ℕ))) : Type 0 where
  pub file : (file : Option (List ℕ)) → shown ≡ Some file → new.file name ≡ file
  pub others : (other : List ℕ) → old.are_one name other ≡ false → new.file other ≡ old.file other
  pub system : KeepsSystem old new
  pub random : new.random ≡ old.random

-- there is no memory, or the status has its cause
abbrev pub IsOfCause : ℕ → Type 0 → Trouble → Type 0
IsOfCause status cause trouble = (trouble_status trouble ≡ 10) ⊎ ((trouble_status trouble ≡ status) × cause)

-- why nothing is read of a name: no file has it, it is none that can be read, or a call of the system failed
abbrev pub IsUnopened : SystemState → Option (List ℕ) → ℕ → ℕ → Trouble → Type 0
IsUnopened s name before now trouble = IsOfCause 11 (IsAbsent s name ⊎ Rose before now) trouble

-- why the whole is not read: for the same reason, or it is too long
abbrev pub IsUnread : SystemState → Option (List ℕ) → ℕ → ℕ → ℕ → Trouble → Type 0
IsUnread s name most before now trouble = IsUnopened s name before now trouble ⊎ IsOfCause 13 (IsLonger s name most) trouble

-- why there is no draft: a file has the name and none is to be replaced, none has it and one is to be changed, or a call of
-- the system failed
abbrev pub HindersDraft : SystemState → List ℕ → How → Type 0
HindersDraft s name Fresh = IsThere s (Some name)
HindersDraft s name Replace = s.is_known ≡ true → s.is_stream name ≡ true
HindersDraft s name Change = IsAbsent s (Some name)

abbrev pub IsUnbegun : SystemState → List ℕ → How → ℕ → ℕ → Trouble → Type 0
IsUnbegun s name how before now trouble = IsOfCause 12 (HindersDraft s name how ⊎ Rose before now) trouble

-- these are the next random bytes, and they are spent
pub record IsDrawnFrom (old new : SystemState) (n : ℕ) (drawn : List ℕ) : Type 0 where
  pub many : length drawn ≡ n
  pub next : old.is_known ≡ true → drawn ≡ take n old.random
  pub left : new ≡ record old { random = drop n old.random }
