-- The tables, each computed at 0 to 255 from its rule.
use Rattle.std.proofs.Common.{◌≡◌, ℕ, ◌+◌, ◌<◌, eqb, get_or, eqb→eq}
use Rattle.standards.specs.Aes.{affine_bit, affine_bits, inverse, power, sub_byte, times, times_terms}
use Rattle.standards.specs.AesInverse.{inv_affine_bit, inv_affine_bits, inv_sub_byte}
use Rattle.standards.specs.AesKeys.{power_of_x}
use Rattle.standards.proofs.Bytes.{every_below, table_entry}
use Rattle.aes_block.specs.declared.tables.TheConstants.{INV_SUB_BYTES, POWERS, SUB_BYTES, SUB_TIMES_THREE, SUB_TIMES_TWO, TIMES_ELEVEN, TIMES_FOURTEEN, TIMES_NINE, TIMES_THIRTEEN}

pub entry-SUB_BYTES : (x : ℕ) → x < 256 → get_or SUB_BYTES x 0 ≡ sub_byte x
unfolding sub_byte affine_bits affine_bit inverse power times times_terms
entry-SUB_BYTES = table_entry sub_byte SUB_BYTES tt

pub entry-INV_SUB_BYTES : (x : ℕ) → x < 256 → get_or INV_SUB_BYTES x 0 ≡ inv_sub_byte x
unfolding inv_sub_byte inv_affine_bits inv_affine_bit inverse power times times_terms
entry-INV_SUB_BYTES = table_entry inv_sub_byte INV_SUB_BYTES tt

pub entry-SUB_TIMES_TWO : (x : ℕ) → x < 256 → get_or SUB_TIMES_TWO x 0 ≡ times 2 (sub_byte x)
unfolding sub_byte affine_bits affine_bit inverse power times times_terms
entry-SUB_TIMES_TWO = table_entry (λ x. times 2 (sub_byte x)) SUB_TIMES_TWO tt

pub entry-SUB_TIMES_THREE : (x : ℕ) → x < 256 → get_or SUB_TIMES_THREE x 0 ≡ times 3 (sub_byte x)
unfolding sub_byte affine_bits affine_bit inverse power times times_terms
entry-SUB_TIMES_THREE = table_entry (λ x. times 3 (sub_byte x)) SUB_TIMES_THREE tt

pub entry-TIMES_NINE : (x : ℕ) → x < 256 → get_or TIMES_NINE x 0 ≡ times 9 x
unfolding times times_terms
entry-TIMES_NINE = table_entry (times 9) TIMES_NINE tt

pub entry-TIMES_ELEVEN : (x : ℕ) → x < 256 → get_or TIMES_ELEVEN x 0 ≡ times 11 x
unfolding times times_terms
entry-TIMES_ELEVEN = table_entry (times 11) TIMES_ELEVEN tt

pub entry-TIMES_THIRTEEN : (x : ℕ) → x < 256 → get_or TIMES_THIRTEEN x 0 ≡ times 13 x
unfolding times times_terms
entry-TIMES_THIRTEEN = table_entry (times 13) TIMES_THIRTEEN tt

pub entry-TIMES_FOURTEEN : (x : ℕ) → x < 256 → get_or TIMES_FOURTEEN x 0 ≡ times 14 x
unfolding times times_terms
entry-TIMES_FOURTEEN = table_entry (times 14) TIMES_FOURTEEN tt

pub entry-POWERS : (k : ℕ) → k < 10 → get_or POWERS (k + 1) 0 ≡ power_of_x k
unfolding power_of_x times times_terms
entry-POWERS k h = eqb→eq _ _ (every_below (λ k. eqb (get_or POWERS (k + 1) 0) (power_of_x k)) 10 tt k h)
