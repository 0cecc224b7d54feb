-- Bytes without the newline that they end by.
use Rattle.std.specs.Prelude.{◌==◌, ◌&&◌, ℕ, zero, suc, List, [], ◌∷◌, Bool, true, false, Option, Some, None, option_map, slice_index, if◌then◌else◌}

-- without one newline at the end
unfoldable pub without_newline : List ℕ → List ℕ
without_newline [] = []
without_newline (b ∷ []) = if b == 10 then [] else (b ∷ [])
without_newline (b ∷ c ∷ bs) = b ∷ without_newline (c ∷ bs)

abbrev pub trimmed_if : Bool → List ℕ → List ℕ
trimmed_if true bytes = without_newline bytes
trimmed_if false bytes = bytes

-- a byte that is held stands before the others
abbrev pub held_before : Option ℕ → List ℕ → List ℕ
held_before None bytes = bytes
held_before (Some byte) bytes = byte ∷ bytes

-- the bytes that are still given, where they are known
abbrev pub unread : Bool → Option ℕ → Option (List ℕ) → Option (List ℕ)
unread trims held left = option_map (λ bytes. trimmed_if trims (held_before held bytes)) left

-- whether the nth byte is a newline
abbrev pub ends_at : List ℕ → ℕ → Bool
ends_at bytes zero = false
ends_at bytes (suc n) = slice_index bytes n == 10

-- whether the last of so many bytes is a newline that may be the last of all
abbrev pub holds_back : Bool → List ℕ → ℕ → Bool
holds_back trims bytes n = trims && ends_at bytes n
