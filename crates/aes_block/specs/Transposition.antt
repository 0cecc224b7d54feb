-- Bits that change places between vectors of 16 bytes.
use Rattle.std.specs.Prelude.{◌≡◌, ◌<◌, ◌+◌, ◌-◌, ◌/◌, ◌%◌, ◌==◌, ℕ, List, [], cond, length, get_or}
use Rattle.std.specs.Int.{bit_at}

pub record IsVector (v : List ℕ) : Type 0 where
  pub size : length v ≡ 16
  pub below : (k : ℕ) → k < 16 → get_or v k 0 < 256

-- c has the bits of a whose number has no 2 ^ m, n being 2 ^ m, and bits of b where it has it; d has the others
pub record IsSwap (n : ℕ) (a b c d : List ℕ) : Type 0 where
  pub from_first : IsVector a
  pub from_second : IsVector b
  pub is_first : IsVector c
  pub is_second : IsVector d
  pub first : (k i : ℕ) → k < 16 → i < 8 → bit_at (get_or c k 0) i ≡ cond (i / n % 2 == 1) (bit_at (get_or b k 0) (i - n)) (bit_at (get_or a k 0) i)
  pub second : (k i : ℕ) → k < 16 → i < 8 → bit_at (get_or d k 0) i ≡ cond (i / n % 2 == 1) (bit_at (get_or b k 0) i) (bit_at (get_or a k 0) (i + n))

-- bit i of vector j is bit j of vector i
pub record IsTransposed (q r : List (List ℕ)) : Type 0 where
  pub count : length r ≡ 8
  pub vectors : (j : ℕ) → j < 8 → IsVector (get_or r j [])
  pub from : (i : ℕ) → i < 8 → IsVector (get_or q i [])
  pub bits : (j k i : ℕ) → j < 8 → k < 16 → i < 8 → bit_at (get_or (get_or r j []) k 0) i ≡ bit_at (get_or (get_or q i []) k 0) j
