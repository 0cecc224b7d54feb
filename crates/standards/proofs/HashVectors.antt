-- HMAC and HKDF at the vectors of their documents, computed.
use Rattle.std.proofs.Common.{◌≡◌, [], ◌∷◌, refl}
use Rattle.std.specs.Prelude.{codes, replicate}
use Rattle.sha1.specs.Sha1.{sha1}
use Rattle.sha1.specs.Sha1
use Rattle.sha2.specs.Sha256.{sha256}
use Rattle.sha2.specs.Sha256
use Rattle.sha2.specs.Sha512.{sha512}
use Rattle.sha2.specs.Sha512
use Rattle.standards.specs.Hmac.{hmac}
use Rattle.standards.specs.Hkdf.{hkdf, expand, expand_block}

-- RFC 2202, 3, test case 1
pub hmac_sha1 : hmac sha1 64 (replicate 20 0x0b) (codes "Hi There") ≡ 182 ∷ 23 ∷ 49 ∷ 134 ∷ 85 ∷ 5 ∷ 114 ∷ 100 ∷ 226 ∷ 139 ∷ 192 ∷ 182 ∷ 251 ∷ 55 ∷ 140 ∷ 142 ∷ 241 ∷ 70 ∷ 190 ∷ 0 ∷ []
unfolding hmac sha1 Sha1.first_words Sha1.schedule Sha1.rounds Sha1.compress Sha1.hash_after Sha1.digest_bytes
hmac_sha1 = refl

-- RFC 4231, 4.2
pub hmac_sha256 : hmac sha256 64 (replicate 20 0x0b) (codes "Hi There") ≡ 176 ∷ 52 ∷ 76 ∷ 97 ∷ 216 ∷ 219 ∷ 56 ∷ 83 ∷ 92 ∷ 168 ∷ 175 ∷ 206 ∷ 175 ∷ 11 ∷ 241 ∷ 43 ∷ 136 ∷ 29 ∷ 194 ∷ 0 ∷ 201 ∷ 131 ∷ 61 ∷ 167 ∷ 38 ∷ 233 ∷ 55 ∷ 108 ∷ 46 ∷ 50 ∷ 207 ∷ 247 ∷ []
unfolding hmac sha256 Sha256.first_words Sha256.schedule Sha256.rounds Sha256.compress Sha256.hash_after Sha256.digest_bytes
hmac_sha256 = refl

-- RFC 4231, 4.2
pub hmac_sha512 : hmac sha512 128 (replicate 20 0x0b) (codes "Hi There") ≡ 135 ∷ 170 ∷ 124 ∷ 222 ∷ 165 ∷ 239 ∷ 97 ∷ 157 ∷ 79 ∷ 240 ∷ 180 ∷ 36 ∷ 26 ∷ 29 ∷ 108 ∷ 176 ∷ 35 ∷ 121 ∷ 244 ∷ 226 ∷ 206 ∷ 78 ∷ 194 ∷ 120 ∷ 122 ∷ 208 ∷ 179 ∷ 5 ∷ 69 ∷ 225 ∷ 124 ∷ 222 ∷ 218 ∷ 168 ∷ 51 ∷ 183 ∷ 214 ∷ 184 ∷ 167 ∷ 2 ∷ 3 ∷ 139 ∷ 39 ∷ 78 ∷ 174 ∷ 163 ∷ 244 ∷ 228 ∷ 190 ∷ 157 ∷ 145 ∷ 78 ∷ 235 ∷ 97 ∷ 241 ∷ 112 ∷ 46 ∷ 105 ∷ 108 ∷ 32 ∷ 58 ∷ 18 ∷ 104 ∷ 84 ∷ []
unfolding hmac sha512 Sha512.first_words Sha512.schedule Sha512.rounds Sha512.compress Sha512.hash_after Sha512.digest_bytes
hmac_sha512 = refl

-- RFC 5869, A.1
pub hkdf_sha256 : hkdf sha256 64 32 (replicate 22 0x0b) (0 ∷ 1 ∷ 2 ∷ 3 ∷ 4 ∷ 5 ∷ 6 ∷ 7 ∷ 8 ∷ 9 ∷ 10 ∷ 11 ∷ 12 ∷ []) (240 ∷ 241 ∷ 242 ∷ 243 ∷ 244 ∷ 245 ∷ 246 ∷ 247 ∷ 248 ∷ 249 ∷ []) 42 ≡ 60 ∷ 178 ∷ 95 ∷ 37 ∷ 250 ∷ 172 ∷ 213 ∷ 122 ∷ 144 ∷ 67 ∷ 79 ∷ 100 ∷ 208 ∷ 54 ∷ 47 ∷ 42 ∷ 45 ∷ 45 ∷ 10 ∷ 144 ∷ 207 ∷ 26 ∷ 90 ∷ 76 ∷ 93 ∷ 176 ∷ 45 ∷ 86 ∷ 236 ∷ 196 ∷ 197 ∷ 191 ∷ 52 ∷ 0 ∷ 114 ∷ 8 ∷ 213 ∷ 184 ∷ 135 ∷ 24 ∷ 88 ∷ 101 ∷ []
unfolding hkdf expand expand_block hmac sha256 Sha256.first_words Sha256.schedule Sha256.rounds Sha256.compress Sha256.hash_after Sha256.digest_bytes
hkdf_sha256 = refl
