-- The memory for a nonce and a text.
use Rattle.std.specs.Prelude.{◌≡◌, ℕ, Vec, vec_len, vec_capacity}

-- the buffers of a nonce and of a text have the memory that they had, and that of a nonce its length
pub record KeepsNonceAndText {Z : Type 0} (nonce_before nonce opened_before opened : Vec ℕ Z) : Type 0 where
  pub nonce_len : vec_len nonce ≡ vec_len nonce_before
  pub nonce_capacity : vec_capacity nonce ≡ vec_capacity nonce_before
  pub capacity : vec_capacity opened ≡ vec_capacity opened_before
