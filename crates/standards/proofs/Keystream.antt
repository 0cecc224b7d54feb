-- The keystream and counter mode by their places. E gives 16 bytes at each counter block.
use Rattle.std.proofs.Common.{◌≡◌, ◌≤◌, ◌<◌, ◌+◌, ◌-◌, ◌*◌, ◌/◌, ◌%◌, ℕ, zero, suc, List, length, get_or, bit_xor, refl, ap, sym, ◌∙◌, arith, length-append, inl, inr, ◌⊎◌}
use Rattle.std.proofs.lemmas.List.{get_or_append_left, get_or-append_right}
use Rattle.std.proofs.Math.Nat.{eq-or-lt_of_le}
use Rattle.standards.proofs.ListFacts.{get_or-xor_bytes, length-xor_bytes, xor_bytes_twice}
use Rattle.standards.specs.Counter.{ctr, keystream}
use Rattle.standards.specs.Lists.{xor_bytes}

-- n blocks of keystream have 16 n bytes
pub length-keystream : (E : List ℕ → List ℕ) (plus : List ℕ → ℕ → List ℕ) (b : List ℕ) (n : ℕ) → ((i : ℕ) → length (E (plus b i)) ≡ 16) → length (keystream E plus b n) ≡ 16 * n
unfolding keystream
length-keystream E plus b zero size = refl
length-keystream E plus b (suc n) size = omega (arith, length-keystream E plus b n size, size n, length-append (keystream E plus b n) (E (plus b n)))

before_or_in : (n k : ℕ) → k < 16 * suc n → (n ≡ k / 16) ⊎ (k < 16 * n)
before_or_in n k h = let le : k / 16 ≤ n = omega arith in elim (eq-or-lt_of_le le) [ inl e ↦ inl (sym e) | inr l ↦ inr (omega arith) ]

-- byte k of the keystream is byte k % 16 of block k / 16
pub get_or-keystream : (E : List ℕ → List ℕ) (plus : List ℕ → ℕ → List ℕ) (b : List ℕ) (n k : ℕ) → ((i : ℕ) → length (E (plus b i)) ≡ 16) → k < 16 * n
    → get_or (keystream E plus b n) k 0 ≡ get_or (E (plus b (k / 16))) (k % 16) 0
unfolding keystream
get_or-keystream E plus b zero k size h = absurd (omega arith)
get_or-keystream E plus b (suc n) k size h = elim (before_or_in n k h) [
  | inr below ↦ get_or_append_left (keystream E plus b n) (E (plus b n)) 0 k (rw (length-keystream E plus b n size) below) ∙ get_or-keystream E plus b n k size below
  | inl e ↦
      let at : k - 16 * n ≡ k % 16 = omega arith in
      get_or-append_right (keystream E plus b n) (E (plus b n)) (16 * n) k 0 (length-keystream E plus b n size) (omega arith)
      ∙ ap (λ i. get_or (E (plus b n)) i 0) at ∙ ap (λ i. get_or (E (plus b i)) (k % 16) 0) e
]

-- counter mode keeps the length
pub length-ctr : (E : List ℕ → List ℕ) (plus : List ℕ → ℕ → List ℕ) (b text : List ℕ) → length (ctr E plus b text) ≡ length text
unfolding ctr
length-ctr E plus b text = length-xor_bytes text _

-- byte k is the text's xor byte k % 16 of block k / 16
pub get_or-ctr : (E : List ℕ → List ℕ) (plus : List ℕ → ℕ → List ℕ) (b text : List ℕ) (k : ℕ) → ((i : ℕ) → length (E (plus b i)) ≡ 16) → k < length text
    → get_or (ctr E plus b text) k 0 ≡ bit_xor (get_or text k 0) (get_or (E (plus b (k / 16))) (k % 16) 0)
unfolding ctr
get_or-ctr E plus b text k size h =
    let n = (length text + 15) / 16 in
    let in_stream : k < 16 * n = omega arith in
    get_or-xor_bytes text (keystream E plus b n) k h ∙ ap (bit_xor (get_or text k 0)) (get_or-keystream E plus b n k size in_stream)

-- counter mode twice, from the same block, gives the text back
pub ctr_twice : (E : List ℕ → List ℕ) (plus : List ℕ → ℕ → List ℕ) (b text : List ℕ) → ctr E plus b (ctr E plus b text) ≡ text
unfolding ctr
ctr_twice E plus b text =
    let ks = λ (n : ℕ). keystream E plus b ((n + 15) / 16) in
    ap (λ n. xor_bytes (xor_bytes text (ks (length text))) (ks n)) (length-xor_bytes text (ks (length text))) ∙ xor_bytes_twice text (ks (length text))

-- texts that counter mode from the same block makes equal are equal
pub ctr_same : (E : List ℕ → List ℕ) (plus : List ℕ → ℕ → List ℕ) (b xs ys : List ℕ) → ctr E plus b xs ≡ ctr E plus b ys → xs ≡ ys
ctr_same E plus b xs ys e = sym (ctr_twice E plus b xs) ∙ ap (ctr E plus b) e ∙ ctr_twice E plus b ys
