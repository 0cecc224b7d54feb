-- The laws of stream ciphers.
use Rattle.std.proofs.Common.{◌≡◌, ℕ, zero, suc, ◌+◌, List, [], ◌∷◌, take, drop, ap, sym, ◌∙◌, refl, arith, bit_xor}
use Rattle.std.specs.Int.Bits.{xor_assoc, xor_self, xor_zero_r}
use Rattle.cipher_stream.specs.Keystream.{applied}
use Rattle.cipher_stream.specs.Laws.{ApplyingTwice, SeekingInto}
use Rattle.cipher_stream.proofs.Applied.{applied-same}

pub drop-applied : {X Y : Type 0} (op : X → Y → X) (s : ℕ → Y) (n : ℕ) (xs : List X) → drop n (applied op s xs) ≡ applied op (λ j. s (n + j)) (drop n xs)
drop-applied op s zero xs = applied-same op s (λ j. s (0 + j)) xs (λ j _. let z : j ≡ 0 + j = omega arith in ap s z)
drop-applied op s (suc n) [] = refl
drop-applied op s (suc n) (x ∷ xs) =
    drop-applied op (λ j. s (1 + j)) n xs ∙ applied-same op (λ j. s (1 + (n + j))) (λ j. s (suc n + j)) (drop n xs) (λ j _. let e : 1 + (n + j) ≡ suc n + j = omega arith in ap s e)

pub take-applied : {X Y : Type 0} (op : X → Y → X) (s : ℕ → Y) (n : ℕ) (xs : List X) → take n (applied op s xs) ≡ applied op s (take n xs)
take-applied op s zero xs = refl
take-applied op s (suc n) [] = refl
take-applied op s (suc n) (x ∷ xs) = ap (λ l. op x (s 0) ∷ l) (take-applied op (λ j. s (1 + j)) n xs)

xor_twice : (x k : ℕ) → bit_xor (bit_xor x k) k ≡ x
xor_twice x k = xor_assoc x k k ∙ (ap (bit_xor x) (xor_self k) ∙ xor_zero_r x)

twice : (s : ℕ → ℕ) (xs : List ℕ) → applied bit_xor s (applied bit_xor s xs) ≡ xs
twice s [] = refl
twice s (x ∷ xs) = ap (λ y. y ∷ applied bit_xor (λ j. s (1 + j)) (applied bit_xor (λ j. s (1 + j)) xs)) (xor_twice x (s 0)) ∙ ap (λ l. x ∷ l) (twice (λ j. s (1 + j)) xs)

pub applying_twice : ApplyingTwice
applying_twice s s1 s2 s3 s4 p xs ys zs seek first again second =
    let same : (j : ℕ) → (s2.byte_at (p + j)) ≡ s.byte_at (p + j) = λ j. first.moved.same.same_bytes (p + j) ∙ seek.same.same_bytes (p + j) in
    second.value ∙ (applied-same bit_xor _ _ ys (λ j _. again.ahead j ∙ (same j ∙ sym (seek.ahead j))) ∙ (ap (applied bit_xor _) first.value ∙ twice _ xs))

pub seeking_into : SeekingInto
seeking_into s s1 s2 s3 s4 p xs ys zs start first again second =
    let same : (j : ℕ) → s2.byte_at (p + j) ≡ s.byte_at (0 + (p + j)) = λ j.
    first.moved.same.same_bytes (p + j) ∙ (start.same.same_bytes (p + j) ∙ (let z : p + j ≡ 0 + (p + j) = omega arith in ap s.byte_at z)) in
    second.value ∙ (applied-same bit_xor _ _ (drop p xs) (λ j _. again.ahead j ∙ (same j ∙ sym (start.ahead (p + j)))) ∙ (sym (drop-applied bit_xor _ p xs) ∙ ap (drop p) (sym first.value)))
