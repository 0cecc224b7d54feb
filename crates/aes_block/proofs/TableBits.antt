-- What the truth tables of the first and last wires say of each byte, computed at 0 to 255.
use Rattle.std.proofs.Common.{◌≡◌, ℕ, ◌<◌, Bool, T, eqb, ltb, List, get_or, eqb→eq, ltb→lt}
use Rattle.std.specs.Int.{bit_at}
use Rattle.standards.specs.Aes.{affine_bit, affine_bits, inverse, power, sub_byte, times, times_terms}
use Rattle.standards.specs.AesInverse.{inv_affine_bit, inv_affine_bits, inv_sub_byte}
use Rattle.standards.proofs.Bytes.{agree, all_below, every_below}
use Rattle.aes_block.specs.TruthTables.{BITS, SUBSTITUTED, UNDONE}

-- table j has bit j of y at place x
abbrev has_bits : List ℕ → ℕ → ℕ → Bool
has_bits ts x y = all_below (λ j. eqb (bit_at (get_or ts j 0) x) (bit_at y j)) 8

pub tables_of : (ts : List ℕ) (f : ℕ → ℕ) → T (all_below (λ x. has_bits ts x (f x)) 256) → (j x : ℕ) → j < 8 → x < 256 → bit_at (get_or ts j 0) x ≡ bit_at (f x) j
tables_of ts f h j x l m = eqb→eq _ _ (every_below (λ j. eqb (bit_at (get_or ts j 0) x) (bit_at (f x) j)) 8 (every_below (λ x. has_bits ts x (f x)) 256 h x m) j l)

-- the first wires have the bits of the byte
pub bits_are : (j x : ℕ) → j < 8 → x < 256 → bit_at (get_or BITS j 0) x ≡ bit_at x j
bits_are = tables_of BITS (λ x. x) tt

-- the last have those of SubBytes
pub substituted_are : (j x : ℕ) → j < 8 → x < 256 → bit_at (get_or SUBSTITUTED j 0) x ≡ bit_at (sub_byte x) j
unfolding sub_byte affine_bits affine_bit inverse power times times_terms
substituted_are = tables_of SUBSTITUTED sub_byte tt

-- the inverse of the affine map
pub undone_are : (j x : ℕ) → j < 8 → x < 256 → bit_at (get_or UNDONE j 0) x ≡ bit_at (inv_affine_bits x 8) j
unfolding inv_affine_bits inv_affine_bit
undone_are = tables_of UNDONE (λ x. inv_affine_bits x 8) tt

pub undone_below : (x : ℕ) → x < 256 → inv_affine_bits x 8 < 256
unfolding inv_affine_bits inv_affine_bit
undone_below x h = ltb→lt _ _ (every_below (λ x. ltb (inv_affine_bits x 8) 256) 256 tt x h)

-- before and after SubBytes it makes InvSubBytes
pub undone_around : (x : ℕ) → x < 256 → inv_affine_bits (sub_byte (inv_affine_bits x 8)) 8 ≡ inv_sub_byte x
unfolding inv_sub_byte inv_affine_bits inv_affine_bit sub_byte affine_bits affine_bit inverse power times times_terms
undone_around = agree (λ x. inv_affine_bits (sub_byte (inv_affine_bits x 8)) 8) inv_sub_byte tt
