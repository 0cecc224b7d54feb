-- GCM (SP 800-38D, 2007), over a one-block map E on 16 bytes, with a nonce of 12 bytes and a tag of 16.
use Rattle.std.specs.Prelude.{ℕ, List, [], ◌∷◌, ◌++◌, replicate}
use Rattle.std.specs.Int.{w32}
use Rattle.standards.specs.Lists.{xor_bytes}
use Rattle.standards.specs.Counter.{ctr, plus_be}
use Rattle.standards.specs.Ghash.{ghash}

-- J 0 (7.1, step 2)
abbrev pub first_block : List ℕ → List ℕ
first_block nonce = nonce ++ 0 ∷ 0 ∷ 0 ∷ 1 ∷ []

-- the text under the counter blocks that follow J 0 (7.1, step 3)
abbrev pub gcm_text : (List ℕ → List ℕ) → List ℕ → List ℕ → List ℕ
gcm_text E nonce text = ctr E (plus_be w32) (plus_be w32 (first_block nonce) 1) text

-- T: GHASH under E of the zero block, xor E (J 0) (7.1, steps 1 and 4 to 6)
unfoldable pub gcm_tag : (List ℕ → List ℕ) → List ℕ → List ℕ → List ℕ → List ℕ
gcm_tag E nonce aad ciphertext = xor_bytes (ghash (E (replicate 16 0)) aad ciphertext) (E (first_block nonce))

-- the ciphertext and its tag (7.1)
unfoldable pub gcm : (List ℕ → List ℕ) → List ℕ → List ℕ → List ℕ → List ℕ
gcm E nonce aad text =
    let ciphertext = gcm_text E nonce text in
    ciphertext ++ gcm_tag E nonce aad ciphertext
