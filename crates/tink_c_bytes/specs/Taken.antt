-- What a sink in memory got.
use Rattle.std.specs.Prelude.{◌≡◌, ◌⊎◌, ℕ, List, Result, Ok, Err}
use Rattle.tink_io.specs.declared.error.Kind.TheVariants.{OutOfMemory}
use Rattle.tink_io.specs.declared.error.TinkError.{TinkError}
use Rattle.tink_c_bytes.specs.declared.growing.Growing.{Growing}

-- what a call answers of what a sink got: its bytes, or why it did not get all. A sink that failed had no memory.
abbrev pub IsTaken : {T : Type 0} → Result T TinkError → Growing → Result (List ℕ) TinkError → Type 0
IsTaken (Ok v) sink (Ok output) = (sink.faults ≡ 0) × (output ≡ sink.bytes.items)
IsTaken (Err e) sink (Ok output) = ⊥
IsTaken (Ok v) sink (Err f) = f.kind ≡ OutOfMemory
IsTaken (Err e) sink (Err f) = (f.kind ≡ OutOfMemory) ⊎ ((sink.faults ≡ 0) × (f ≡ e))
