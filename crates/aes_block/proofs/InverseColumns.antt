-- InvMixColumns is MixColumns of the circulant 5, 0, 4, 0.
use Rattle.std.proofs.Common.{◌≡◌, ℕ, ◌<◌, List, [], ◌∷◌, ◌++◌, map, get_or, bit_xor, sym, ap, ap₂, ◌∙◌, subst, arith, lit<}
use Rattle.std.proofs.lemmas.Nat.{xor_comm}
use Rattle.std.specs.Int.Bits.{xor_assoc}
use Rattle.standards.specs.Aes.{mix_byte, mix_columns, times, times_terms}
use Rattle.standards.specs.AesInverse.{inv_mix_byte, inv_mix_columns}
use Rattle.standards.proofs.AesUndo.{times_linear}
use Rattle.standards.proofs.Bytes.{agree}
use Rattle.standards.proofs.Xor.{exchange}
use Rattle.aes_block.specs.BitPlanes.{AreBlocks, spread, spread_byte}
use Rattle.aes_block.proofs.EachBlock.{map_same_at}
use Rattle.aes_block.proofs.LinearSteps.{both}

abbrev sum3 : ℕ → ℕ → ℕ → ℕ
sum3 a b c = bit_xor a (bit_xor b c)

abbrev sum4 : ℕ → ℕ → ℕ → ℕ → ℕ
sum4 a b c d = bit_xor (bit_xor (bit_xor a b) c) d

pairs : (a b c d p q r s : ℕ) → bit_xor (sum4 a b c d) (sum4 p q r s) ≡ sum4 (bit_xor a p) (bit_xor b q) (bit_xor c r) (bit_xor d s)
pairs a b c d p q r s =
    exchange (bit_xor (bit_xor a b) c) d (bit_xor (bit_xor p q) r) s
    ∙ ap (λ v. bit_xor v (bit_xor d s)) (exchange (bit_xor a b) c (bit_xor p q) r ∙ ap (λ v. bit_xor v (bit_xor c r)) (exchange a b p q))

triples : (a b c d p q r s w x y z : ℕ) → bit_xor (sum4 a b c d) (bit_xor (sum4 p q r s) (sum4 w x y z)) ≡ sum4 (sum3 a p w) (sum3 b q x) (sum3 c r y) (sum3 d s z)
triples a b c d p q r s w x y z = ap (bit_xor (sum4 a b c d)) (pairs p q r s w x y z) ∙ pairs a b c d (bit_xor p w) (bit_xor q x) (bit_xor r y) (bit_xor s z)

halves : (a b c d : ℕ) → sum4 a b c d ≡ sum4 c d a b
halves a b c d = xor_assoc (bit_xor a b) c d ∙ xor_comm (bit_xor a b) (bit_xor c d) ∙ sym (xor_assoc (bit_xor c d) a b)

fourteen : (x : ℕ) → x < 256 → times 14 x ≡ sum3 (times 2 x) (times 2 (times 4 x)) (times 4 x)
unfolding times times_terms
fourteen = agree (times 14) (λ x. sum3 (times 2 x) (times 2 (times 4 x)) (times 4 x)) tt

eleven : (x : ℕ) → x < 256 → times 11 x ≡ sum3 (times 3 x) (times 3 (times 4 x)) (times 4 x)
unfolding times times_terms
eleven = agree (times 11) (λ x. sum3 (times 3 x) (times 3 (times 4 x)) (times 4 x)) tt

thirteen : (x : ℕ) → x < 256 → times 13 x ≡ sum3 x (times 4 x) (times 2 (times 4 x))
unfolding times times_terms
thirteen = agree (times 13) (λ x. sum3 x (times 4 x) (times 2 (times 4 x))) tt

nine : (x : ℕ) → x < 256 → times 9 x ≡ sum3 x (times 4 x) (times 3 (times 4 x))
unfolding times times_terms
nine = agree (times 9) (λ x. sum3 x (times 4 x) (times 3 (times 4 x))) tt

-- n times a byte and 4 times its sum with another
multiple : (n a c : ℕ) → times n (spread_byte a c) ≡ sum3 (times n a) (times n (times 4 a)) (times n (times 4 c))
multiple n a c =
    times_linear n a (times 4 (bit_xor a c))
    ∙ ap (λ v. bit_xor (times n a) v) (ap (times n) (times_linear 4 a c) ∙ times_linear n (times 4 a) (times 4 c))

plain : (a c : ℕ) → spread_byte a c ≡ sum3 a (times 4 a) (times 4 c)
plain a c = ap (bit_xor a) (times_linear 4 a c)

pub inverse_byte : (a b c d : ℕ) → a < 256 → b < 256 → c < 256 → d < 256 → mix_byte (spread_byte a c) (spread_byte b d) (spread_byte c a) (spread_byte d b) ≡ inv_mix_byte a b c d
inverse_byte a b c d A B C D =
    let first = sum4 (times 2 a) (times 3 b) c d in
    let near = sum4 (times 2 (times 4 a)) (times 3 (times 4 b)) (times 4 c) (times 4 d) in
    ap₂ bit_xor (ap₂ bit_xor (ap₂ bit_xor (multiple 2 a c) (multiple 3 b d)) (plain c a)) (plain d b)
    ∙ sym (triples (times 2 a) (times 3 b) c d (times 2 (times 4 a)) (times 3 (times 4 b)) (times 4 c) (times 4 d) (times 2 (times 4 c)) (times 3 (times 4 d)) (times 4 a) (times 4 b))
    ∙ ap (λ v. bit_xor first (bit_xor near v)) (halves (times 2 (times 4 c)) (times 3 (times 4 d)) (times 4 a) (times 4 b))
    ∙ triples (times 2 a) (times 3 b) c d (times 2 (times 4 a)) (times 3 (times 4 b)) (times 4 c) (times 4 d) (times 4 a) (times 4 b) (times 2 (times 4 c)) (times 3 (times 4 d))
    ∙ sym (ap₂ bit_xor (ap₂ bit_xor (ap₂ bit_xor (fourteen a A) (eleven b B)) (thirteen c C)) (nine d D))

four : (a b c d p q r s : ℕ) → a ≡ p → b ≡ q → c ≡ r → d ≡ s → a ∷ b ∷ c ∷ d ∷ [] ≡ p ∷ q ∷ r ∷ s ∷ []
four a b c d p q r s e f g h = cc

joined4 : (a b c d p q r s : List ℕ) → a ≡ p → b ≡ q → c ≡ r → d ≡ s → a ++ b ++ c ++ d ≡ p ++ q ++ r ++ s
joined4 a b c d p q r s e f g h = cc

inverse_columns : (s : List ℕ) → ((k : ℕ) → k < 16 → get_or s k 0 < 256) → mix_columns (spread s) ≡ inv_mix_columns s
inverse_columns s low =
    let at = λ (m n o p : ℕ) (M : m < 16) (N : n < 16) (O : o < 16) (P : p < 16). inverse_byte (get_or s m 0) (get_or s n 0) (get_or s o 0) (get_or s p 0) (low m M) (low n N) (low o O) (low p P) in
    let column = λ (m n o p : ℕ) (M : m < 16) (N : n < 16) (O : o < 16) (P : p < 16).
    four _ _ _ _ _ _ _ _ (at m n o p M N O P) (at n o p m N O P M) (at o p m n O P M N) (at p m n o P M N O) in
    joined4 _ _ _ _ _ _ _ _ (column 0 1 2 3 (lit< tt) (lit< tt) (lit< tt) (lit< tt)) (column 4 5 6 7 (lit< tt) (lit< tt) (lit< tt) (lit< tt))
    (column 8 9 10 11 (lit< tt) (lit< tt) (lit< tt) (lit< tt)) (column 12 13 14 15 (lit< tt) (lit< tt) (lit< tt) (lit< tt))

-- blocks, their planes, and those of MixColumns of the circulant
pub inverse_blocks : (b q r : List (List ℕ)) → AreBlocks b q → AreBlocks (map mix_columns (map spread b)) r → AreBlocks (map inv_mix_columns b) r
inverse_blocks b q r h z =
    subst (λ l. AreBlocks l r) (map_same_at (λ v. mix_columns (spread v)) inv_mix_columns b (λ i l. inverse_columns (get_or b i []) (λ k m. h.planes.below k i m (omega (arith, l, h.count)))))
    (both spread mix_columns b r z)
