-- What a prepared key of AES-GCM keeps beside its bytes.
use Rattle.std.specs.Prelude.{◌≡◌, ℕ, List, length}
use Rattle.tink_aead_subtle.specs.declared.gcm_key.KeyedGcm.{KeyedGcm}
use Rattle.tink_aead_subtle.specs.declared.gcm_key.KeyedGcm.TheVariants.{Short, Long}

-- the cipher is under this key, which has the cipher's size
abbrev pub IsKeyedBy : KeyedGcm → List ℕ → Type 0
IsKeyedBy (Short aead) key = (aead.cipher ≡ key) × (length key ≡ 16)
IsKeyedBy (Long aead) key = (aead.cipher ≡ key) × (length key ≡ 32)
