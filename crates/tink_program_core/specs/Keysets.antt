-- The two commands that make keysets: what they are asked for, what they write, and by what they are refused.
use Rattle.std.specs.Prelude.{◌≡◌, ℕ, List, Option, Result, Ok, Err, Vec}
use Rattle.std.specs.Io.KnownBytes.{Appends}
use Rattle.tink_io.specs.Faults.{Rose}
use Rattle.tink_io.specs.Written.{AppendsPrefix}
use Rattle.tink_io.specs.declared.error.Kind.{Kind}
use Rattle.tink_io.specs.declared.error.Kind.TheVariants.{OutOfMemory, WriteFault, BadKeyset, InvalidKeyset, UnknownTemplate, NoFreshId}
use Rattle.tink_io.specs.declared.error.TinkError.{TinkError}
use Rattle.tink_proto.specs.declared.messages.keys.Keyset.{Keyset}
use Rattle.tink_keysets.specs.Managed.{no_keys}
use Rattle.tink_keysets.specs.Valid.{valid_keyset}
use Rattle.tink_keygen.specs.Rotating.{key_line, rotated_by, IsNotRotated}
use Rattle.tink_program_core.specs.Draws.{draws_in}
use Rattle.tink_io.specs.Outside.{Outside, IsUntouched}
use Rattle.tink_program_core.specs.Streams.{IsDoneOrWant}
use Rattle.tink_program_core.specs.declared.outcomes.Outcome.{Outcome}
use Rattle.tink_program_core.specs.declared.outcomes.Outcome.TheVariants.{Done, Usage, Refused}

-- a keyset, or its refusal, and the template and the seed of the key that is to be its primary one
pub record Rotation : Type 0 where
  pub start : Result Keyset Kind
  pub template : List ℕ
  pub seed : List ℕ

-- a new keyset starts from one without keys
abbrev pub of_no_keys : List ℕ → List ℕ → Rotation
of_no_keys template seed = record { start = Ok no_keys; template = template; seed = seed }

abbrev pub of_keyset : List ℕ → List ℕ → List ℕ → Rotation
of_keyset keyset template seed = record { start = valid_keyset keyset; template = template; seed = seed }

-- the keyset that is made with the seed's first 256 words as draws, or why there is none
abbrev pub made_keyset : Rotation → Result Keyset Kind
made_keyset r = rotated_by r.template r.start (draws_in r.seed 256)

-- the line of the keyset that is made
pub record IsLine (r : Rotation) (text : List ℕ) : Type 0 where
  pub keyset : Keyset
  pub made : made_keyset r ≡ Ok keyset
  pub text_is : text ≡ key_line keyset

-- there is none, by this kind
pub record IsUnmadeBy (r : Rotation) (kind : Kind) : Type 0 where
  pub made : made_keyset r ≡ Err kind
  pub cause : IsNotRotated r.template r.start kind

-- a refusal before anything is written. The seed's draws always suffice; `OutOfMemory` is free.
abbrev pub RefusesRotation : Rotation → Kind → Type 0
RefusesRotation r OutOfMemory = Unit {0}
RefusesRotation r BadKeyset = IsUnmadeBy r BadKeyset
RefusesRotation r InvalidKeyset = IsUnmadeBy r InvalidKeyset
RefusesRotation r UnknownTemplate = IsUnmadeBy r UnknownTemplate
RefusesRotation r NoFreshId = IsUnmadeBy r NoFreshId
RefusesRotation r _ = ⊥

-- a call gives the line, or refuses
abbrev pub GivesLine : {G : Type 0} → Rotation → Result (Vec ℕ G) TinkError → Type 0
GivesLine r (Ok text) = IsLine r text.items
GivesLine r (Err e) = RefusesRotation r e.kind

-- a call writes the line, or refuses: after a fault a prefix of it is written, before that nothing
abbrev pub RefusesLine : Rotation → Option (List ℕ) → Option (List ℕ) → ℕ → ℕ → Kind → Type 0
RefusesLine r old new before now WriteFault =
    (text : List ℕ) × IsLine r text × AppendsPrefix old new text × Rose before now
RefusesLine r old new before now kind = RefusesRotation r kind × (new ≡ old) × (now ≡ before)

abbrev pub WritesLine : Rotation → Option (List ℕ) → Option (List ℕ) → ℕ → ℕ → Result (Unit {0}) TinkError → Type 0
WritesLine r old new before now (Ok _) = (text : List ℕ) × IsLine r text × Appends old new text
WritesLine r old new before now (Err e) = RefusesLine r old new before now e.kind

-- a text was written, and the source is as before
pub record WroteText (old new : Outside) (text : List ℕ) : Type 0 where
  pub left : new.left ≡ old.left
  pub read_faults : new.read_faults ≡ old.read_faults
  pub written : Appends old.got new.got text

-- a prefix of it was written before a fault
pub record WrotePrefix (old new : Outside) (text : List ℕ) : Type 0 where
  pub left : new.left ≡ old.left
  pub read_faults : new.read_faults ≡ old.read_faults
  pub written : AppendsPrefix old.got new.got text
  pub rose : Rose old.write_faults new.write_faults

-- what stands after each outcome of a command that makes a keyset, and why it came
abbrev pub KeysetMeans : Rotation → Outside → Outside → Outcome → Type 0
KeysetMeans r old new Done = (text : List ℕ) × IsLine r text × WroteText old new text
KeysetMeans r old new Usage = ⊥
KeysetMeans r old new (Refused OutOfMemory) = IsUntouched old new
KeysetMeans r old new (Refused WriteFault) = (text : List ℕ) × IsLine r text × WrotePrefix old new text
KeysetMeans r old new (Refused kind) = RefusesRotation r kind × IsUntouched old new

-- what 0 and 12 promise of a keyset that is made, and when it is: exactly its line was written, or a prefix of it
pub record MakesKeyset (r : Rotation) (old new : Outside) (status : ℕ) : Type 0 where
  pub whole : status ≡ 0 → (text : List ℕ) × IsLine r text × WroteText old new text
  pub prefix : status ≡ 12 → (text : List ℕ) × IsLine r text × WrotePrefix old new text
  pub succeeds : (keyset : Keyset) → made_keyset r ≡ Ok keyset → (Rose old.write_faults new.write_faults → ⊥)
      → IsDoneOrWant status
