-- CMAC, GCM, GCM-SIV and SIV with AES at the vectors of their documents, computed.
use Rattle.std.proofs.Common.{◌≡◌, [], ◌∷◌, refl}
use Rattle.std.specs.Prelude.{replicate}
use Rattle.standards.specs.Aes.{state_after, sub_byte, affine_bits, affine_bit, inverse, power, times, times_terms}
use Rattle.standards.specs.AesKeys.{aes, keys_of, round_keys, schedule, key_words, power_of_x}
use Rattle.standards.specs.Counter.{ctr, keystream}
use Rattle.standards.specs.Blocks.{over_blocks}
use Rattle.standards.specs.Cmac.{cmac, double_block}
use Rattle.standards.specs.Ghash.{ghash, product_low, times_x}
use Rattle.standards.specs.Gcm.{gcm, gcm_tag}
use Rattle.standards.specs.Polyval.{polyval, dot_low, over_x}
use Rattle.standards.specs.GcmSiv.{gcm_siv, gcm_siv_tag, gcm_siv_text, tag_input, derived}
use Rattle.standards.specs.Siv.{siv, s2v, s2v_data}

-- SP 800-38B, AES-128, example 1
pub cmac_empty : cmac (aes (43 ∷ 126 ∷ 21 ∷ 22 ∷ 40 ∷ 174 ∷ 210 ∷ 166 ∷ 171 ∷ 247 ∷ 21 ∷ 136 ∷ 9 ∷ 207 ∷ 79 ∷ 60 ∷ [])) [] ≡ 187 ∷ 29 ∷ 105 ∷ 41 ∷ 233 ∷ 89 ∷ 55 ∷ 40 ∷ 127 ∷ 163 ∷ 125 ∷ 18 ∷ 155 ∷ 117 ∷ 103 ∷ 70 ∷ []
unfolding cmac over_blocks double_block aes keys_of round_keys schedule key_words power_of_x state_after sub_byte affine_bits affine_bit inverse power times times_terms
cmac_empty = refl

-- the GCM specification, test case 1
pub gcm_nothing : gcm (aes (replicate 16 0)) (replicate 12 0) [] [] ≡ 88 ∷ 226 ∷ 252 ∷ 206 ∷ 250 ∷ 126 ∷ 48 ∷ 97 ∷ 54 ∷ 127 ∷ 29 ∷ 87 ∷ 164 ∷ 231 ∷ 69 ∷ 90 ∷ []
unfolding gcm gcm_tag ghash over_blocks product_low times_x ctr keystream aes keys_of round_keys schedule key_words power_of_x state_after sub_byte affine_bits affine_bit inverse power times times_terms
gcm_nothing = refl

-- the GCM specification, test case 4
pub gcm_with_data : gcm (aes (254 ∷ 255 ∷ 233 ∷ 146 ∷ 134 ∷ 101 ∷ 115 ∷ 28 ∷ 109 ∷ 106 ∷ 143 ∷ 148 ∷ 103 ∷ 48 ∷ 131 ∷ 8 ∷ [])) (202 ∷ 254 ∷ 186 ∷ 190 ∷ 250 ∷ 206 ∷ 219 ∷ 173 ∷ 222 ∷ 202 ∷ 248 ∷ 136 ∷ []) (254 ∷ 237 ∷ 250 ∷ 206 ∷ 222 ∷ 173 ∷ 190 ∷ 239 ∷ 254 ∷ 237 ∷ 250 ∷ 206 ∷ 222 ∷ 173 ∷ 190 ∷ 239 ∷ 171 ∷ 173 ∷ 218 ∷ 210 ∷ []) (217 ∷ 49 ∷ 50 ∷ 37 ∷ 248 ∷ 132 ∷ 6 ∷ 229 ∷ 165 ∷ 89 ∷ 9 ∷ 197 ∷ 175 ∷ 245 ∷ 38 ∷ 154 ∷ 134 ∷ 167 ∷ 169 ∷ 83 ∷ 21 ∷ 52 ∷ 247 ∷ 218 ∷ 46 ∷ 76 ∷ 48 ∷ 61 ∷ 138 ∷ 49 ∷ 138 ∷ 114 ∷ 28 ∷ 60 ∷ 12 ∷ 149 ∷ 149 ∷ 104 ∷ 9 ∷ 83 ∷ 47 ∷ 207 ∷ 14 ∷ 36 ∷ 73 ∷ 166 ∷ 181 ∷ 37 ∷ 177 ∷ 106 ∷ 237 ∷ 245 ∷ 170 ∷ 13 ∷ 230 ∷ 87 ∷ 186 ∷ 99 ∷ 123 ∷ 57 ∷ []) ≡ 66 ∷ 131 ∷ 30 ∷ 194 ∷ 33 ∷ 119 ∷ 116 ∷ 36 ∷ 75 ∷ 114 ∷ 33 ∷ 183 ∷ 132 ∷ 208 ∷ 212 ∷ 156 ∷ 227 ∷ 170 ∷ 33 ∷ 47 ∷ 44 ∷ 2 ∷ 164 ∷ 224 ∷ 53 ∷ 193 ∷ 126 ∷ 35 ∷ 41 ∷ 172 ∷ 161 ∷ 46 ∷ 33 ∷ 213 ∷ 20 ∷ 178 ∷ 84 ∷ 102 ∷ 147 ∷ 28 ∷ 125 ∷ 143 ∷ 106 ∷ 90 ∷ 172 ∷ 132 ∷ 170 ∷ 5 ∷ 27 ∷ 163 ∷ 11 ∷ 57 ∷ 106 ∷ 10 ∷ 172 ∷ 151 ∷ 61 ∷ 88 ∷ 224 ∷ 145 ∷ 91 ∷ 201 ∷ 79 ∷ 188 ∷ 50 ∷ 33 ∷ 165 ∷ 219 ∷ 148 ∷ 250 ∷ 233 ∷ 90 ∷ 231 ∷ 18 ∷ 26 ∷ 71 ∷ []
unfolding gcm gcm_tag ghash over_blocks product_low times_x ctr keystream aes keys_of round_keys schedule key_words power_of_x state_after sub_byte affine_bits affine_bit inverse power times times_terms
gcm_with_data = refl

-- RFC 8452, C.1, the first
pub gcm_siv_nothing : gcm_siv aes (1 ∷ replicate 15 0) (3 ∷ replicate 11 0) [] [] ≡ 220 ∷ 32 ∷ 226 ∷ 216 ∷ 63 ∷ 37 ∷ 112 ∷ 91 ∷ 180 ∷ 158 ∷ 67 ∷ 158 ∷ 202 ∷ 86 ∷ 222 ∷ 37 ∷ []
unfolding gcm_siv gcm_siv_tag gcm_siv_text tag_input derived polyval over_blocks dot_low over_x ctr keystream aes keys_of round_keys schedule key_words power_of_x state_after sub_byte affine_bits affine_bit inverse power times times_terms
gcm_siv_nothing = refl

-- RFC 8452, C.2, 8 bytes under 1 byte of data
pub gcm_siv_256 : gcm_siv aes (1 ∷ replicate 31 0) (3 ∷ replicate 11 0) (1 ∷ []) (2 ∷ replicate 7 0) ≡ 29 ∷ 226 ∷ 41 ∷ 103 ∷ 35 ∷ 122 ∷ 129 ∷ 50 ∷ 145 ∷ 33 ∷ 63 ∷ 38 ∷ 126 ∷ 59 ∷ 69 ∷ 47 ∷ 2 ∷ 208 ∷ 26 ∷ 227 ∷ 62 ∷ 78 ∷ 200 ∷ 84 ∷ []
unfolding gcm_siv gcm_siv_tag gcm_siv_text tag_input derived polyval over_blocks dot_low over_x ctr keystream aes keys_of round_keys schedule key_words power_of_x state_after sub_byte affine_bits affine_bit inverse power times times_terms
gcm_siv_256 = refl

-- RFC 5297, A.1
pub siv_deterministic : siv (aes (255 ∷ 254 ∷ 253 ∷ 252 ∷ 251 ∷ 250 ∷ 249 ∷ 248 ∷ 247 ∷ 246 ∷ 245 ∷ 244 ∷ 243 ∷ 242 ∷ 241 ∷ 240 ∷ [])) (aes (240 ∷ 241 ∷ 242 ∷ 243 ∷ 244 ∷ 245 ∷ 246 ∷ 247 ∷ 248 ∷ 249 ∷ 250 ∷ 251 ∷ 252 ∷ 253 ∷ 254 ∷ 255 ∷ [])) (16 ∷ 17 ∷ 18 ∷ 19 ∷ 20 ∷ 21 ∷ 22 ∷ 23 ∷ 24 ∷ 25 ∷ 26 ∷ 27 ∷ 28 ∷ 29 ∷ 30 ∷ 31 ∷ 32 ∷ 33 ∷ 34 ∷ 35 ∷ 36 ∷ 37 ∷ 38 ∷ 39 ∷ []) (17 ∷ 34 ∷ 51 ∷ 68 ∷ 85 ∷ 102 ∷ 119 ∷ 136 ∷ 153 ∷ 170 ∷ 187 ∷ 204 ∷ 221 ∷ 238 ∷ []) ≡ 133 ∷ 99 ∷ 45 ∷ 7 ∷ 198 ∷ 232 ∷ 243 ∷ 127 ∷ 149 ∷ 10 ∷ 205 ∷ 50 ∷ 10 ∷ 46 ∷ 204 ∷ 147 ∷ 64 ∷ 192 ∷ 43 ∷ 150 ∷ 144 ∷ 196 ∷ 220 ∷ 4 ∷ 218 ∷ 239 ∷ 127 ∷ 106 ∷ 254 ∷ 92 ∷ []
unfolding siv s2v s2v_data cmac over_blocks double_block ctr keystream aes keys_of round_keys schedule key_words power_of_x state_after sub_byte affine_bits affine_bit inverse power times times_terms
siv_deterministic = refl

-- OpenSSL 3.0, AES-SIV with empty data and a text of more than a block
pub siv_whole_block : siv (aes (255 ∷ 254 ∷ 253 ∷ 252 ∷ 251 ∷ 250 ∷ 249 ∷ 248 ∷ 247 ∷ 246 ∷ 245 ∷ 244 ∷ 243 ∷ 242 ∷ 241 ∷ 240 ∷ [])) (aes (240 ∷ 241 ∷ 242 ∷ 243 ∷ 244 ∷ 245 ∷ 246 ∷ 247 ∷ 248 ∷ 249 ∷ 250 ∷ 251 ∷ 252 ∷ 253 ∷ 254 ∷ 255 ∷ [])) [] (17 ∷ 34 ∷ 51 ∷ 68 ∷ 85 ∷ 102 ∷ 119 ∷ 136 ∷ 153 ∷ 170 ∷ 187 ∷ 204 ∷ 221 ∷ 238 ∷ 255 ∷ 0 ∷ 17 ∷ 34 ∷ 51 ∷ []) ≡ 184 ∷ 1 ∷ 254 ∷ 143 ∷ 164 ∷ 110 ∷ 197 ∷ 31 ∷ 156 ∷ 241 ∷ 208 ∷ 171 ∷ 12 ∷ 46 ∷ 111 ∷ 179 ∷ 198 ∷ 206 ∷ 82 ∷ 236 ∷ 220 ∷ 138 ∷ 150 ∷ 194 ∷ 246 ∷ 71 ∷ 101 ∷ 250 ∷ 220 ∷ 140 ∷ 194 ∷ 111 ∷ 227 ∷ 152 ∷ 24 ∷ []
unfolding siv s2v s2v_data cmac over_blocks double_block ctr keystream aes keys_of round_keys schedule key_words power_of_x state_after sub_byte affine_bits affine_bit inverse power times times_terms
siv_whole_block = refl
