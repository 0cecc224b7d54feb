-- What fills a message up to whole blocks of B bytes, and how it comes off again.
use Rattle.std.specs.Prelude.{◌≡◌, ◌≢◌, ℕ, ◌+◌, ◌-◌, ◌%◌, ◌≤◌, ◌&&◌, List, [], ◌∷◌, ◌++◌, Option, None, Some, option_map, length, take, drop, replicate, slice_index, ◌==◌, nat_lt, if◌then◌else◌}
use Rattle.std.specs.List.{list_all}

-- the bytes that a message of n is short of more blocks, from 1 to B
abbrev pub missing : ℕ → ℕ → ℕ
missing B n = B - n % B

-- What is added to a message of n bytes, or nothing where it cannot be padded.
-- PKCS #7 (RFC 5652, section 6.3): as many bytes as are missing, each of that value
abbrev pub pkcs7_padding : ℕ → ℕ → Option (List ℕ)
pkcs7_padding B n = Some (replicate (missing B n) (missing B n))

-- zeros up to the end of the last block
abbrev pub zero_padding : ℕ → ℕ → Option (List ℕ)
zero_padding B n = Some (replicate (missing B n % B) 0)

-- nothing, and only whole blocks are taken
abbrev pub no_padding : ℕ → ℕ → Option (List ℕ)
no_padding B n = if n % B == 0 then Some [] else None

-- a message with its padding, or nothing where it has none
abbrev pub padded : (ℕ → ℕ → Option (List ℕ)) → ℕ → List ℕ → Option (List ℕ)
padded padding B message = option_map (λ tail. message ++ tail) (padding B (length message))

-- The message of padded bytes, or nothing where they are malformed: all want whole blocks.
-- PKCS #7: the last byte says how many there are, from 1 to B, and all of them are alike
abbrev pub pkcs7_unpadded : ℕ → List ℕ → Option (List ℕ)
pkcs7_unpadded B bytes =
    let count = slice_index bytes (length bytes - 1) in
    let end = length bytes - count in
    if length bytes % B == 0 && nat_lt 0 count && nat_lt count (B + 1) && list_all (λ x. x == count) (drop end bytes) then Some (take end bytes) else None

-- a list but for the zeros that end it
abbrev pub without_zeros : List ℕ → List ℕ
without_zeros [] = []
without_zeros (x ∷ xs) = if list_all (λ y. y == 0) (x ∷ xs) then [] else x ∷ without_zeros xs

-- the zeros that end the last block come off
abbrev pub zero_unpadded : ℕ → List ℕ → Option (List ℕ)
zero_unpadded B bytes =
    let front = length bytes - B in
    if length bytes % B == 0 then Some (take front bytes ++ without_zeros (drop front bytes)) else None

abbrev pub no_unpadded : ℕ → List ℕ → Option (List ℕ)
no_unpadded B bytes = if length bytes % B == 0 then Some bytes else None

-- a padding fits behind a message of len bytes in a buffer of room bytes
abbrev pub Fits : Option (List ℕ) → ℕ → ℕ → Type 0
Fits None len room = ⊥
Fits (Some tail) len room = len + length tail ≤ room

-- a padding stands behind a message of len bytes, n bytes in all, and the rest of the buffer is as before
abbrev pub IsPadded : Option (List ℕ) → ℕ → ℕ → List ℕ → List ℕ → Type 0
IsPadded None len n old new = ⊥
IsPadded (Some tail) len n old new = (n ≡ len + length tail) × (new ≡ take len old ++ tail ++ drop n old)

-- a list is empty or ends in another byte than zero
abbrev pub EndsInNoZero : List ℕ → Type 0
EndsInNoZero [] = Unit {0}
EndsInNoZero (x ∷ []) = x ≢ 0
EndsInNoZero (x ∷ y ∷ xs) = EndsInNoZero (y ∷ xs)
