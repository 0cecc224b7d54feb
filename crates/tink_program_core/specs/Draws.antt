-- The draws of a seed: words of ChaCha20's stream 0 from place 0 on, each as four bytes, the low one first.
use Rattle.std.specs.Prelude.{ℕ, zero, suc, List, [], ◌++◌}
use Rattle.std.specs.Int.{w32, to_le_bytes}
use Rattle.rand_chacha.specs.ChaCha.{word_at, key_of}

-- the bytes of the first n words
unfoldable pub draws_in : List ℕ → ℕ → List ℕ
draws_in seed zero = []
draws_in seed (suc n) = draws_in seed n ++ to_le_bytes w32 (word_at 10 (key_of seed) 0 n)
