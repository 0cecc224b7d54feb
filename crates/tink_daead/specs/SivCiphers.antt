-- What AES-SIV holds: the ciphers of a key's two halves.
use Rattle.std.specs.Prelude.{◌≡◌, ◌++◌, ℕ, List, length}
use Rattle.tink_daead.specs.declared.subtle.aes_siv.SivCiphers.{SivCiphers}
use Rattle.tink_daead.specs.declared.subtle.aes_siv.SivCiphers.TheVariants.{Aes128, Aes256}

-- the key
abbrev pub whole_key : SivCiphers → List ℕ
whole_key (Aes128 pair) = pair.mac ++ pair.counter
whole_key (Aes256 pair) = pair.mac ++ pair.counter

-- each half has the size of its cipher
abbrev pub FitsCiphers : SivCiphers → Type 0
FitsCiphers (Aes128 pair) = (length pair.mac ≡ 16) × (length pair.counter ≡ 16)
FitsCiphers (Aes256 pair) = (length pair.mac ≡ 32) × (length pair.counter ≡ 32)

-- the ciphers are under this key
pub record AreKeyed (ciphers : SivCiphers) (key : List ℕ) : Type 0 where
  pub same : whole_key ciphers ≡ key
  pub sized : FitsCiphers ciphers
