-- Eight blocks of 16 bytes, and round keys, by their bit planes.
use Rattle.std.specs.Prelude.{◌≡◌, ◌<◌, ◌≤◌, ℕ, List, [], ◌∷◌, ◌+◌, ◌++◌, map, length, get_or, slice_index, bit_xor}
use Rattle.standards.specs.Aes.{times}
use Rattle.aes_block.specs.declared.planes.KeyPlanes.{KeyPlanes}
use Rattle.aes_block.specs.Wires.{ArePlanes}

-- byte k of block i
abbrev pub byte_of : List (List ℕ) → ℕ → ℕ → ℕ
byte_of b k i = get_or (get_or b i []) k 0

pub record AreBlocks (b q : List (List ℕ)) : Type 0 where
  pub count : length b ≡ 8
  pub size : (i : ℕ) → i < 8 → length (get_or b i []) ≡ 16
  pub planes : ArePlanes (byte_of b) q

-- the planes of a round key, which is the same for each block
pub record IsKey (key : List ℕ) (k : List (List ℕ)) : Type 0 where
  pub size : length key ≡ 16
  pub planes : ArePlanes (λ k i. get_or key k 0) k

abbrev pub planes_at : List KeyPlanes → ℕ → List (List ℕ)
planes_at keys n = (get_or keys n (record { planes = [] })).planes

-- those of the first round keys, one more than there are rounds
abbrev pub AreKeys : ℕ → List (List ℕ) → List KeyPlanes → Type 0
AreKeys rounds ks keys = (n : ℕ) → n ≤ rounds → IsKey (get_or ks n []) (planes_at keys n)

-- the bytes at these places
abbrev pub picked_at : List ℕ → List ℕ → List ℕ
picked_at v at = map (λ k. slice_index v k) at

abbrev pub AT_SHIFT : List ℕ
AT_SHIFT = 0 ∷ 5 ∷ 10 ∷ 15 ∷ 4 ∷ 9 ∷ 14 ∷ 3 ∷ 8 ∷ 13 ∷ 2 ∷ 7 ∷ 12 ∷ 1 ∷ 6 ∷ 11 ∷ []

abbrev pub AT_FIRST : List ℕ
AT_FIRST = 1 ∷ 2 ∷ 3 ∷ 0 ∷ 5 ∷ 6 ∷ 7 ∷ 4 ∷ 9 ∷ 10 ∷ 11 ∷ 8 ∷ 13 ∷ 14 ∷ 15 ∷ 12 ∷ []

abbrev pub AT_SECOND : List ℕ
AT_SECOND = 2 ∷ 3 ∷ 0 ∷ 1 ∷ 6 ∷ 7 ∷ 4 ∷ 5 ∷ 10 ∷ 11 ∷ 8 ∷ 9 ∷ 14 ∷ 15 ∷ 12 ∷ 13 ∷ []

abbrev pub AT_INV_SHIFT : List ℕ
AT_INV_SHIFT = 0 ∷ 13 ∷ 10 ∷ 7 ∷ 4 ∷ 1 ∷ 14 ∷ 11 ∷ 8 ∷ 5 ∷ 2 ∷ 15 ∷ 12 ∷ 9 ∷ 6 ∷ 3 ∷ []

-- a and 4 times its sum with c
abbrev pub spread_byte : ℕ → ℕ → ℕ
spread_byte a c = bit_xor a (times 4 (bit_xor a c))

abbrev pub spread_at : List ℕ → ℕ → List ℕ
spread_at s i =
    let a = slice_index s i in
    let b = slice_index s (i + 1) in
    let c = slice_index s (i + 2) in
    let d = slice_index s (i + 3) in
    spread_byte a c ∷ spread_byte b d ∷ spread_byte c a ∷ spread_byte d b ∷ []

-- the circulant 5, 0, 4, 0 on each column
abbrev pub spread : List ℕ → List ℕ
spread s = spread_at s 0 ++ spread_at s 4 ++ spread_at s 8 ++ spread_at s 12
