-- What a sink that gathers pieces tells of the sink behind it.
use Rattle.std.specs.Prelude.{◌≡◌, ◌≤◌, ℕ, List, length, take, drop}
use Rattle.std.specs.declared.option.Option.{Option}
use Rattle.std.specs.Io.KnownBytes.{Appends, Keeps, append_known}

-- known bytes stay at the front
abbrev pub OnlyGrows : Option (List ℕ) → Option (List ℕ) → Type 0
OnlyGrows old new = (more : List ℕ) × Appends old new more

-- what was told is what the sink behind has got, and bytes that were not handed on
abbrev pub IsCutShort : Option (List ℕ) → Option (List ℕ) → Type 0
IsCutShort told got = (waits : List ℕ) × Keeps told (append_known got waits)

-- the first bytes of what waited were handed on, and exactly the rest waits
abbrev pub HandsOn : Option (List ℕ) → Option (List ℕ) → List ℕ → List ℕ → Type 0
HandsOn old new before after = (n : ℕ) × (n ≤ length before) × Appends old new (take n before) × (after ≡ drop n before)
