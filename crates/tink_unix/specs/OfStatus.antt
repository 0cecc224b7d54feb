-- The statuses of refusals.
use Rattle.std.specs.Prelude.{◌≡◌, ◌⊎◌, ℕ}
use Rattle.tink_system.specs.Statuses.{trouble_status}
use Rattle.tink_system.specs.declared.trouble.Trouble.{Trouble}

-- a refusal of this status, or for want of memory
abbrev pub IsOfStatus : ℕ → Trouble → Type 0
IsOfStatus status trouble = (trouble_status trouble ≡ 10) ⊎ (trouble_status trouble ≡ status)

-- a refusal to read the whole: it cannot be read, or it is too long
abbrev pub IsOfReading : Trouble → Type 0
IsOfReading trouble = IsOfStatus 11 trouble ⊎ (trouble_status trouble ≡ 13)
