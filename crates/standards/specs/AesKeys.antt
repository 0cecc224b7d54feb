-- The key expansion of AES (FIPS 197, 2001, 5.2). A word is a list of four bytes, and n is the number of words in the key.
use Rattle.std.specs.Prelude.{◌≡◌, ℕ, zero, suc, ◌+◌, ◌-◌, ◌*◌, ◌/◌, ◌%◌, ◌⊎◌, ◌&&◌, cond, eqb, List, [], ◌∷◌, ◌++◌, map, bit_xor, get_or, slice_index, length}
use lib.Lanes.{zip2}
use Rattle.standards.specs.Aes.{sub_byte, times, cipher}

-- x to the power k: Rcon [k + 1] (5.2)
unfoldable pub power_of_x : ℕ → ℕ
power_of_x zero = 1
power_of_x (suc k) = times 2 (power_of_x k)

-- SubWord (5.2)
abbrev pub sub_word : List ℕ → List ℕ
sub_word w = map sub_byte w

-- RotWord (5.2)
abbrev pub rot_word : List ℕ → List ℕ
rot_word w = slice_index w 1 ∷ slice_index w 2 ∷ slice_index w 3 ∷ slice_index w 0 ∷ []

-- the sum of two words
abbrev pub xor_word : List ℕ → List ℕ → List ℕ
xor_word v w = zip2 bit_xor v w

-- what word i - 1, w, gives to word i
abbrev pub mixed : ℕ → List ℕ → ℕ → List ℕ
mixed n w i =
    cond (eqb (i % n) 0) (xor_word (sub_word (rot_word w)) (power_of_x (i / n - 1) ∷ 0 ∷ 0 ∷ 0 ∷ []))
    (cond (eqb n 8 && eqb (i % 8) 4) (sub_word w) w)

-- word i, from word i - n and word i - 1
abbrev pub next_word : ℕ → List ℕ → List ℕ → ℕ → List ℕ
next_word n far near i = xor_word far (mixed n near i)

-- the word of the key that begins at byte i
abbrev pub word_at : List ℕ → ℕ → List ℕ
word_at key i = slice_index key i ∷ slice_index key (i + 1) ∷ slice_index key (i + 2) ∷ slice_index key (i + 3) ∷ []

-- the first m words of the key
unfoldable pub key_words : List ℕ → ℕ → List (List ℕ)
key_words key zero = []
key_words key (suc m) = key_words key m ++ word_at key (4 * m) ∷ []

-- word i, where ws has the words before it
abbrev pub word_after : ℕ → List (List ℕ) → ℕ → List ℕ
word_after n ws i = next_word n (get_or ws (i - n) []) (get_or ws (i - 1) []) i

-- the first n + m words
unfoldable pub schedule : ℕ → List ℕ → ℕ → List (List ℕ)
schedule n key zero = key_words key n
schedule n key (suc m) = schedule n key m ++ word_after n (schedule n key m) (n + m) ∷ []

-- the numbers of words in a key (5, figure 4)
abbrev pub IsSize : ℕ → Type 0
IsSize n = (n ≡ 4) ⊎ (n ≡ 6) ⊎ (n ≡ 8)

-- round key r: four words of the schedule
abbrev pub round_key : List (List ℕ) → ℕ → List ℕ
round_key ws r = get_or ws (4 * r) [] ++ get_or ws (4 * r + 1) [] ++ get_or ws (4 * r + 2) [] ++ get_or ws (4 * r + 3) []

-- round keys 0 to r - 1
unfoldable pub round_keys : List (List ℕ) → ℕ → List (List ℕ)
round_keys ws zero = []
round_keys ws (suc r) = round_keys ws r ++ round_key ws r ∷ []

-- the round keys of a key of n words: one for each of its n + 6 rounds, and one before them (5, figure 4)
unfoldable pub keys_of : List ℕ → List (List ℕ)
keys_of key = let n = length key / 4 in round_keys (schedule n key (4 * (n + 7) - n)) (n + 7)

-- the block enciphered under the key, of 16, 24 or 32 bytes (5.1)
unfoldable pub aes : List ℕ → List ℕ → List ℕ
aes key block = cipher (length key / 4 + 6) (keys_of key) block
