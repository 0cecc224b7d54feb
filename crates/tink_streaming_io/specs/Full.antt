-- Full chunks.
use Rattle.std.specs.Prelude.{◌≡◌, ℕ, List, [], ◌∷◌, length}

-- the first chunk has a bytes, and each later one b
abbrev pub AreFull : ℕ → ℕ → List (List ℕ) → Type 0
AreFull first room [] = Unit {0}
AreFull first room (t ∷ ts) = (length t ≡ first) × AreFull room room ts
