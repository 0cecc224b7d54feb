-- What a master key answers where a keyset is decrypted or encrypted.
use Rattle.std.specs.Prelude.{ℕ, List, Result, Ok, Err}
use Rattle.tink_io.specs.declared.error.Kind.{Kind}
use Rattle.tink_io.specs.declared.error.Kind.TheVariants.{MasterFailed, OutOfMemory}

-- what a master answers: each kind that it refuses by is `MasterFailed`
abbrev pub by_master : {T : Type 0} → Result T Kind → Result T Kind
by_master (Ok v) = Ok v
by_master (Err kind) = Err MasterFailed

-- the same of a call that draws
abbrev pub drawn_by_master : {T : Type 0} → Result T Kind × List ℕ → Result T Kind × List ℕ
drawn_by_master made = (by_master made.0, made.1)

-- how a call is refused of which a master's is a part: `OutOfMemory` stays
abbrev pub master_kind : Kind → Kind
master_kind OutOfMemory = OutOfMemory
master_kind kind = MasterFailed
