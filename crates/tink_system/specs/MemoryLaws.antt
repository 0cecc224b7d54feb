-- The laws of a system over memory.
use Rattle.std.proofs.Common.{◌≡◌, ℕ, List, true, ap, arith}
use Rattle.std.specs.Cmp.Lexicographic.{bytes_decides}
use Rattle.tink_io.specs.Faults.{Rose}
use Rattle.tink_system.specs.Memory.{file_at, state_of, target_of}
use Rattle.tink_system.specs.declared.mem_system.MemSystem.{MemSystem}

-- names of one file have the same bytes
pub one-content : (m : MemSystem) (name other : List ℕ) → (state_of m).are_one name other ≡ true
    → (state_of m).file name ≡ (state_of m).file other
one-content m name other same =
    let decides = bytes_decides (target_of m.links.items name) (target_of m.links.items other) in
    ap (file_at m.files.items) (decides.0 same)

-- a count that stays 0 did not rise
pub no-rise : Rose 0 0 → ⊥
no-rise rise = omega (arith, rise)
