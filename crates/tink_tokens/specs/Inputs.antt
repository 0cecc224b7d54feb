-- A call that loads a keyset and holds its input whole: what it reads, and why it is refused.
use Rattle.std.specs.Prelude.{◌≡◌, ◌≤◌, ◌<◌, ◌^◌, ℕ, List, [], length, Option, Some, Result, Ok, Err, IfSome}
use Rattle.std.specs.Io.KnownBytes.{Consumes, IsAtEnd}
use Rattle.tink_io.specs.Faults.{Rose}
use Rattle.tink_io.specs.declared.error.Kind.{Kind}
use Rattle.tink_io.specs.declared.error.Kind.TheVariants.{OutOfMemory, ReadFault, WriteFault, BadKeyset, InvalidKeyset, UnsupportedKeyType, InvalidKey, NoPrimary, WrongPrimitive, InputTooLong}
use Rattle.tink_io.specs.Outside.{Outside}

-- so many bytes of input are read at most
abbrev pub input_limit : ℕ
input_limit = 2 ^ 24

-- the source was read to its end, and had this input
pub record ReadsInput (old new : Option (List ℕ)) (input : List ℕ) : Type 0 where
  pub read : Consumes old new input
  pub at_end : IsAtEnd new
  pub fits : length input ≤ input_limit

abbrev pub HasInput : Outside → Outside → List ℕ → Type 0
HasInput old new input = ReadsInput old.left new.left input

-- the source has more, where it tells it
abbrev pub ExceedsLimit : Option (List ℕ) → Type 0
ExceedsLimit left = IfSome left (λ input. input_limit < length input)

-- nothing was written, and the sink did not fail
pub record LeavesSink (old new : Outside) : Type 0 where
  pub got : new.got ≡ old.got
  pub faults : new.write_faults ≡ old.write_faults

module _ {L : Type 0} (loading : Result L Kind) where
  -- the keyset loads
  abbrev pub Loads : Type 0
  Loads = (loaded : L) × (loading ≡ Ok loaded)

  -- it does not: nothing was read or written
  pub record IsNotLoaded (old new : Outside) (kind : Kind) : Type 0 where
    pub cause : loading ≡ Err kind
    pub untouched : new ≡ old

  -- it loads, the input was read, and this holds of both
  pub record IsOfInput (old new : Outside) (P : L → List ℕ → Type 0) : Type 0 where
    pub loaded : L
    pub loads : loading ≡ Ok loaded
    pub input : List ℕ
    pub has : HasInput old new input
    pub then : P loaded input

  -- of known bytes: it loads, the whole input fits and was read, and this holds of both
  pub record IsReadWhole (P : L → List ℕ → Type 0) (T : List ℕ) (new : Outside) : Type 0 where
    pub loaded : L
    pub loads : loading ≡ Ok loaded
    pub fits : length T ≤ input_limit
    pub then : P loaded T
    pub at_end : new.left ≡ Some []

  -- it loads, and the input is too long
  pub record HasTooMuch (T : List ℕ) : Type 0 where
    pub loads : Loads
    pub long : input_limit < length T

  -- why the call is refused, and what stands after it: of an input that was read `Refuses` says it. `OutOfMemory` is free.
  abbrev pub InputRefused : (L → List ℕ → Kind → Type 0) → Outside → Outside → Kind → Type 0
  InputRefused Refuses old new OutOfMemory = LeavesSink old new
  InputRefused Refuses old new BadKeyset = IsNotLoaded old new BadKeyset
  InputRefused Refuses old new InvalidKeyset = IsNotLoaded old new InvalidKeyset
  InputRefused Refuses old new UnsupportedKeyType = IsNotLoaded old new UnsupportedKeyType
  InputRefused Refuses old new InvalidKey = IsNotLoaded old new InvalidKey
  InputRefused Refuses old new NoPrimary = IsNotLoaded old new NoPrimary
  InputRefused Refuses old new WrongPrimitive = IsNotLoaded old new WrongPrimitive
  InputRefused Refuses old new ReadFault = Loads × LeavesSink old new × Rose old.read_faults new.read_faults
  InputRefused Refuses old new InputTooLong = Loads × LeavesSink old new × ExceedsLimit old.left
  InputRefused Refuses old new kind = IsOfInput old new (λ loaded input. Refuses loaded input kind)

-- ---- what is left as it was

-- kinds by which a keyset does not load, so that nothing is read
abbrev pub IsUnloadable : Kind → Type 0
IsUnloadable BadKeyset = Unit {0}
IsUnloadable InvalidKeyset = Unit {0}
IsUnloadable UnsupportedKeyType = Unit {0}
IsUnloadable InvalidKey = Unit {0}
IsUnloadable NoPrimary = Unit {0}
IsUnloadable WrongPrimitive = Unit {0}
IsUnloadable _ = ⊥

-- kinds by which nothing is written
abbrev pub IsUnwritten : Kind → Type 0
IsUnwritten WriteFault = ⊥
IsUnwritten _ = Unit {0}
