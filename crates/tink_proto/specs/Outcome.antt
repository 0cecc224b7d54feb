-- What a call answers that reads bytes or a text, where the answer is a function of them. Out of memory says nothing. The
-- first argument is the error by which it refuses what it cannot read.
use Rattle.std.specs.Prelude.{◌≡◌, Option, Some, None, Result, Ok, Err}
use Rattle.tink_proto.specs.declared.error.ProtoError.{ProtoError}
use Rattle.tink_proto.specs.declared.error.ProtoError.TheVariants.{BadMessage, BadJson, OutOfMemory}

-- an error: the refusal where nothing is read, and no other one
abbrev pub Fails : {Y : Type 0} → ProtoError → ProtoError → Option Y → Type 0
Fails BadMessage BadMessage read = read ≡ None
Fails BadJson BadJson read = read ≡ None
Fails _ OutOfMemory read = Unit {0}
Fails _ _ read = ⊥

-- the value, seen by view, is what is read
abbrev pub ReadsAs : {X Y : Type 0} → ProtoError → (X → Y) → Result X ProtoError → Option Y → Type 0
ReadsAs refusal view (Ok x) read = read ≡ Some (view x)
ReadsAs refusal view (Err e) read = Fails refusal e read

-- the value is what is read
abbrev pub Reads : {M : Type 0} → ProtoError → Result M ProtoError → Option M → Type 0
Reads refusal r read = ReadsAs refusal (λ m. m) r read

-- what stands after the call is what is read
abbrev pub Becomes : {X Y : Type 0} → ProtoError → Result X ProtoError → Y → Option Y → Type 0
Becomes refusal (Ok x) new read = read ≡ Some new
Becomes refusal (Err e) new read = Fails refusal e read
