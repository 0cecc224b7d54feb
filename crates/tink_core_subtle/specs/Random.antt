-- What a take of random bytes does.
use Rattle.std.specs.Prelude.{ℕ, nat_le, if◌then◌else◌, List, length, take, drop, Result, Ok, Err}
use Rattle.tink_io.specs.declared.error.Kind.{Kind}
use Rattle.tink_io.specs.declared.error.Kind.TheVariants.{RandomFault}

-- a take of n bytes: it is whole or nothing
abbrev pub takes_bytes : ℕ → List ℕ → Result (List ℕ) Kind × List ℕ
takes_bytes n draws = if nat_le n (length draws) then (Ok (take n draws), drop n draws) else (Err RandomFault, draws)
