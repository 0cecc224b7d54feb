-- Round keys as they are held.
use Rattle.std.specs.Prelude.{◌≡◌, ◌⊎◌, ◌+◌, ◌-◌, ◌*◌, ℕ, List, [], ◌++◌, length, take, get_or}
use Rattle.standards.specs.AesKeys.{keys_of}
use Rattle.aes_block.specs.declared.planes.KeyPlanes.{KeyPlanes}
use Rattle.aes_block.specs.BitPlanes.{AreKeys}

-- the key, which stands in the first two round keys: four bytes for each round beyond the sixth
abbrev pub cipher_key : List (List ℕ) → ℕ → List ℕ
cipher_key round_keys rounds = take (4 * (rounds - 6)) (get_or round_keys 0 [] ++ get_or round_keys 1 [])

-- the round keys of that key, one for each round and one before them
pub record IsSchedule (round_keys : List (List ℕ)) (rounds : ℕ) : Type 0 where
  pub size : length (cipher_key round_keys rounds) ≡ 4 * (rounds - 6)
  pub count : (rounds ≡ 10) ⊎ (rounds ≡ 12) ⊎ (rounds ≡ 14)
  pub keys : take (rounds + 1) round_keys ≡ keys_of (cipher_key round_keys rounds)

-- and their planes
pub record IsHeld (round_keys : List (List ℕ)) (planes : List KeyPlanes) (rounds : ℕ) : Type 0 where
  pub schedule : IsSchedule round_keys rounds
  pub of_keys : AreKeys rounds round_keys planes
