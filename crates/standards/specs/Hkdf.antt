-- HKDF (RFC 5869, 2010), over a hash H with blocks of B bytes and digests of D bytes.
use Rattle.std.specs.Prelude.{ℕ, zero, suc, ◌+◌, ◌-◌, ◌/◌, List, [], ◌∷◌, ◌++◌, take}
use Rattle.standards.specs.Hmac.{hmac}

-- T (i) = HMAC (PRK, T (i - 1) ++ info ++ i), T (0) being empty; the document has no block past 255 (2.3)
unfoldable pub expand_block : (List ℕ → List ℕ) → ℕ → List ℕ → List ℕ → ℕ → List ℕ
expand_block H B prk info zero = []
expand_block H B prk info (suc i) = hmac H B prk (expand_block H B prk info i ++ info ++ (i + 1) ∷ [])

-- T (1) ++ .. ++ T (n) (2.3)
unfoldable pub expand : (List ℕ → List ℕ) → ℕ → List ℕ → List ℕ → ℕ → List ℕ
expand H B prk info zero = []
expand H B prk info (suc n) = expand H B prk info n ++ expand_block H B prk info (suc n)

-- the first len bytes of ceil (len / D) blocks, under PRK = HMAC (salt, ikm) (2.2, 2.3)
unfoldable pub hkdf : (List ℕ → List ℕ) → ℕ → ℕ → List ℕ → List ℕ → List ℕ → ℕ → List ℕ
hkdf H B D ikm salt info len = take len (expand H B (hmac H B salt ikm) info ((len + D - 1) / D))
