-- AES at the vectors of its documents, computed.
use Rattle.std.proofs.Common.{◌≡◌, [], ◌∷◌, refl}
use Rattle.std.specs.Int.{w128}
use Rattle.standards.specs.Aes.{state_after, sub_byte, affine_bits, affine_bit, inverse, power, times, times_terms}
use Rattle.standards.specs.AesKeys.{aes, keys_of, round_keys, schedule, key_words, power_of_x}
use Rattle.standards.specs.AesInverse.{aes_inverse, inv_state_after, inv_sub_byte, inv_affine_bits, inv_affine_bit}
use Rattle.standards.specs.Counter.{ctr, keystream, plus_be}

-- FIPS 197, C.1
pub aes_128 : aes (0 ∷ 1 ∷ 2 ∷ 3 ∷ 4 ∷ 5 ∷ 6 ∷ 7 ∷ 8 ∷ 9 ∷ 10 ∷ 11 ∷ 12 ∷ 13 ∷ 14 ∷ 15 ∷ []) (0 ∷ 17 ∷ 34 ∷ 51 ∷ 68 ∷ 85 ∷ 102 ∷ 119 ∷ 136 ∷ 153 ∷ 170 ∷ 187 ∷ 204 ∷ 221 ∷ 238 ∷ 255 ∷ []) ≡ 105 ∷ 196 ∷ 224 ∷ 216 ∷ 106 ∷ 123 ∷ 4 ∷ 48 ∷ 216 ∷ 205 ∷ 183 ∷ 128 ∷ 112 ∷ 180 ∷ 197 ∷ 90 ∷ []
unfolding aes keys_of round_keys schedule key_words power_of_x state_after sub_byte affine_bits affine_bit inverse power times times_terms
aes_128 = refl

-- FIPS 197, C.2
pub aes_192 : aes (0 ∷ 1 ∷ 2 ∷ 3 ∷ 4 ∷ 5 ∷ 6 ∷ 7 ∷ 8 ∷ 9 ∷ 10 ∷ 11 ∷ 12 ∷ 13 ∷ 14 ∷ 15 ∷ 16 ∷ 17 ∷ 18 ∷ 19 ∷ 20 ∷ 21 ∷ 22 ∷ 23 ∷ []) (0 ∷ 17 ∷ 34 ∷ 51 ∷ 68 ∷ 85 ∷ 102 ∷ 119 ∷ 136 ∷ 153 ∷ 170 ∷ 187 ∷ 204 ∷ 221 ∷ 238 ∷ 255 ∷ []) ≡ 221 ∷ 169 ∷ 124 ∷ 164 ∷ 134 ∷ 76 ∷ 223 ∷ 224 ∷ 110 ∷ 175 ∷ 112 ∷ 160 ∷ 236 ∷ 13 ∷ 113 ∷ 145 ∷ []
unfolding aes keys_of round_keys schedule key_words power_of_x state_after sub_byte affine_bits affine_bit inverse power times times_terms
aes_192 = refl

-- FIPS 197, C.3
pub aes_256 : aes (0 ∷ 1 ∷ 2 ∷ 3 ∷ 4 ∷ 5 ∷ 6 ∷ 7 ∷ 8 ∷ 9 ∷ 10 ∷ 11 ∷ 12 ∷ 13 ∷ 14 ∷ 15 ∷ 16 ∷ 17 ∷ 18 ∷ 19 ∷ 20 ∷ 21 ∷ 22 ∷ 23 ∷ 24 ∷ 25 ∷ 26 ∷ 27 ∷ 28 ∷ 29 ∷ 30 ∷ 31 ∷ []) (0 ∷ 17 ∷ 34 ∷ 51 ∷ 68 ∷ 85 ∷ 102 ∷ 119 ∷ 136 ∷ 153 ∷ 170 ∷ 187 ∷ 204 ∷ 221 ∷ 238 ∷ 255 ∷ []) ≡ 142 ∷ 162 ∷ 183 ∷ 202 ∷ 81 ∷ 103 ∷ 69 ∷ 191 ∷ 234 ∷ 252 ∷ 73 ∷ 144 ∷ 75 ∷ 73 ∷ 96 ∷ 137 ∷ []
unfolding aes keys_of round_keys schedule key_words power_of_x state_after sub_byte affine_bits affine_bit inverse power times times_terms
aes_256 = refl

-- FIPS 197, C.1, the other way
pub aes_inverse_128 : aes_inverse (0 ∷ 1 ∷ 2 ∷ 3 ∷ 4 ∷ 5 ∷ 6 ∷ 7 ∷ 8 ∷ 9 ∷ 10 ∷ 11 ∷ 12 ∷ 13 ∷ 14 ∷ 15 ∷ []) (105 ∷ 196 ∷ 224 ∷ 216 ∷ 106 ∷ 123 ∷ 4 ∷ 48 ∷ 216 ∷ 205 ∷ 183 ∷ 128 ∷ 112 ∷ 180 ∷ 197 ∷ 90 ∷ []) ≡ 0 ∷ 17 ∷ 34 ∷ 51 ∷ 68 ∷ 85 ∷ 102 ∷ 119 ∷ 136 ∷ 153 ∷ 170 ∷ 187 ∷ 204 ∷ 221 ∷ 238 ∷ 255 ∷ []
unfolding aes_inverse inv_state_after inv_sub_byte inv_affine_bits inv_affine_bit keys_of round_keys schedule key_words power_of_x state_after sub_byte affine_bits affine_bit inverse power times times_terms
aes_inverse_128 = refl

-- FIPS 197, C.2, the other way
pub aes_inverse_192 : aes_inverse (0 ∷ 1 ∷ 2 ∷ 3 ∷ 4 ∷ 5 ∷ 6 ∷ 7 ∷ 8 ∷ 9 ∷ 10 ∷ 11 ∷ 12 ∷ 13 ∷ 14 ∷ 15 ∷ 16 ∷ 17 ∷ 18 ∷ 19 ∷ 20 ∷ 21 ∷ 22 ∷ 23 ∷ []) (221 ∷ 169 ∷ 124 ∷ 164 ∷ 134 ∷ 76 ∷ 223 ∷ 224 ∷ 110 ∷ 175 ∷ 112 ∷ 160 ∷ 236 ∷ 13 ∷ 113 ∷ 145 ∷ []) ≡ 0 ∷ 17 ∷ 34 ∷ 51 ∷ 68 ∷ 85 ∷ 102 ∷ 119 ∷ 136 ∷ 153 ∷ 170 ∷ 187 ∷ 204 ∷ 221 ∷ 238 ∷ 255 ∷ []
unfolding aes_inverse inv_state_after inv_sub_byte inv_affine_bits inv_affine_bit keys_of round_keys schedule key_words power_of_x state_after sub_byte affine_bits affine_bit inverse power times times_terms
aes_inverse_192 = refl

-- FIPS 197, C.3, the other way
pub aes_inverse_256 : aes_inverse (0 ∷ 1 ∷ 2 ∷ 3 ∷ 4 ∷ 5 ∷ 6 ∷ 7 ∷ 8 ∷ 9 ∷ 10 ∷ 11 ∷ 12 ∷ 13 ∷ 14 ∷ 15 ∷ 16 ∷ 17 ∷ 18 ∷ 19 ∷ 20 ∷ 21 ∷ 22 ∷ 23 ∷ 24 ∷ 25 ∷ 26 ∷ 27 ∷ 28 ∷ 29 ∷ 30 ∷ 31 ∷ []) (142 ∷ 162 ∷ 183 ∷ 202 ∷ 81 ∷ 103 ∷ 69 ∷ 191 ∷ 234 ∷ 252 ∷ 73 ∷ 144 ∷ 75 ∷ 73 ∷ 96 ∷ 137 ∷ []) ≡ 0 ∷ 17 ∷ 34 ∷ 51 ∷ 68 ∷ 85 ∷ 102 ∷ 119 ∷ 136 ∷ 153 ∷ 170 ∷ 187 ∷ 204 ∷ 221 ∷ 238 ∷ 255 ∷ []
unfolding aes_inverse inv_state_after inv_sub_byte inv_affine_bits inv_affine_bit keys_of round_keys schedule key_words power_of_x state_after sub_byte affine_bits affine_bit inverse power times times_terms
aes_inverse_256 = refl

-- SP 800-38A, F.5.1, the first two blocks
pub aes_ctr : ctr (aes (43 ∷ 126 ∷ 21 ∷ 22 ∷ 40 ∷ 174 ∷ 210 ∷ 166 ∷ 171 ∷ 247 ∷ 21 ∷ 136 ∷ 9 ∷ 207 ∷ 79 ∷ 60 ∷ [])) (plus_be w128) (240 ∷ 241 ∷ 242 ∷ 243 ∷ 244 ∷ 245 ∷ 246 ∷ 247 ∷ 248 ∷ 249 ∷ 250 ∷ 251 ∷ 252 ∷ 253 ∷ 254 ∷ 255 ∷ []) (107 ∷ 193 ∷ 190 ∷ 226 ∷ 46 ∷ 64 ∷ 159 ∷ 150 ∷ 233 ∷ 61 ∷ 126 ∷ 17 ∷ 115 ∷ 147 ∷ 23 ∷ 42 ∷ 174 ∷ 45 ∷ 138 ∷ 87 ∷ 30 ∷ 3 ∷ 172 ∷ 156 ∷ 158 ∷ 183 ∷ 111 ∷ 172 ∷ 69 ∷ 175 ∷ 142 ∷ 81 ∷ []) ≡ 135 ∷ 77 ∷ 97 ∷ 145 ∷ 182 ∷ 32 ∷ 227 ∷ 38 ∷ 27 ∷ 239 ∷ 104 ∷ 100 ∷ 153 ∷ 13 ∷ 182 ∷ 206 ∷ 152 ∷ 6 ∷ 246 ∷ 107 ∷ 121 ∷ 112 ∷ 253 ∷ 255 ∷ 134 ∷ 23 ∷ 24 ∷ 123 ∷ 185 ∷ 255 ∷ 253 ∷ 255 ∷ []
unfolding ctr keystream aes keys_of round_keys schedule key_words power_of_x state_after sub_byte affine_bits affine_bit inverse power times times_terms
aes_ctr = refl
