-- Each gate's wire has the table that the gate makes of its inputs' tables.
use Rattle.std.proofs.Common.{◌≡◌, ℕ, zero, suc, ◌+◌, ◌-◌, ◌%◌, ◌^◌, ◌<◌, List, [], ◌∷◌, length, get_or, min, bit_and, bit_xor, map, replicate, subst, sym, ap, ◌∙◌, arith}
use Rattle.std.specs.Int.{bit_at}
use Rattle.std.proofs.lemmas.Nat.Bits.{bit_at_and, bit_at_xor, bit_at_ones}
use Rattle.std.proofs.lemmas.List.{get_or-map, length-map}
use Rattle.std.proofs.lemmas.Simd.{get_or-zip2, length-zip2, get_or-replicate, length-replicate}
use lib.Lanes.{zip2}
use Rattle.aes_block.specs.Wires.{AreBelow, AreWires, IsWire}

pub xor_wire : (X : ℕ → ℕ → ℕ) (s t : ℕ) (a b : List ℕ) → IsWire X s a → IsWire X t b → IsWire X (bit_xor s t) (zip2 bit_xor a b)
xor_wire X s t a b p q =
    record {
      size = length-zip2 bit_xor a b (p.size ∙ sym q.size) ∙ p.size;
      bits = λ k i h l.
          ap (λ n. bit_at n i) (get_or-zip2 bit_xor a b k 0 0 0 (omega (arith, p.size)) (omega (arith, q.size)))
          ∙ bit_at_xor (get_or a k 0) (get_or b k 0) i
          ∙ ap (λ n. (n + bit_at (get_or b k 0) i) % 2) (p.bits k i h l)
          ∙ ap (λ n. (bit_at s (X k i) + n) % 2) (q.bits k i h l)
          ∙ sym (bit_at_xor s t (X k i));
    }

pub and_wire : (X : ℕ → ℕ → ℕ) (s t : ℕ) (a b : List ℕ) → IsWire X s a → IsWire X t b → IsWire X (bit_and s t) (zip2 bit_and a b)
and_wire X s t a b p q =
    record {
      size = length-zip2 bit_and a b (p.size ∙ sym q.size) ∙ p.size;
      bits = λ k i h l.
          ap (λ n. bit_at n i) (get_or-zip2 bit_and a b k 0 0 0 (omega (arith, p.size)) (omega (arith, q.size)))
          ∙ bit_at_and (get_or a k 0) (get_or b k 0) i
          ∙ ap (λ n. min n (bit_at (get_or b k 0) i)) (p.bits k i h l)
          ∙ ap (λ n. min (bit_at s (X k i)) n) (q.bits k i h l)
          ∙ sym (bit_at_and s t (X k i));
    }

pub ones_wire : (X : ℕ → ℕ → ℕ) → AreBelow X → IsWire X (2 ^ 256 - 1) (replicate 16 255)
ones_wire X low =
    record {
      size = length-replicate {A = ℕ} 16 255;
      bits = λ k i h l. ap (λ n. bit_at n i) (get_or-replicate 16 k 255 0 h) ∙ bit_at_ones 8 i l ∙ sym (bit_at_ones 256 (X k i) (low k i h l));
    }

pub length-wires : (X : ℕ → ℕ → ℕ) (ts : List ℕ) (vs : List (List ℕ)) → AreWires X ts vs → length vs ≡ length ts
length-wires X [] vs h = ap length h
length-wires X (t ∷ ts) [] h = absurd h
length-wires X (t ∷ ts) (v ∷ vs) h = ap (λ n. suc n) (length-wires X ts vs h.1)

pub wire_at : (X : ℕ → ℕ → ℕ) (ts : List ℕ) (vs : List (List ℕ)) → AreWires X ts vs → (n : ℕ) → n < length ts → IsWire X (get_or ts n 0) (get_or vs n [])
wire_at X [] vs h n l = absurd (omega arith)
wire_at X (t ∷ ts) [] h n l = absurd h
wire_at X (t ∷ ts) (v ∷ vs) h zero l = h.0
wire_at X (t ∷ ts) (v ∷ vs) h (suc n) l = wire_at X ts vs h.1 n (omega arith)

-- a vector that is what a gate makes of two wires
pub xor_gate : (X : ℕ → ℕ → ℕ) (s t : ℕ) (a b r : List ℕ) → IsWire X s a → IsWire X t b → r ≡ zip2 bit_xor a b → IsWire X (bit_xor s t) r
xor_gate X s t a b r p q is = subst (IsWire X (bit_xor s t)) (sym is) (xor_wire X s t a b p q)

pub and_gate : (X : ℕ → ℕ → ℕ) (s t : ℕ) (a b r : List ℕ) → IsWire X s a → IsWire X t b → r ≡ zip2 bit_and a b → IsWire X (bit_and s t) r
and_gate X s t a b r p q is = subst (IsWire X (bit_and s t)) (sym is) (and_wire X s t a b p q)

pub ones_gate : (X : ℕ → ℕ → ℕ) (r : List ℕ) → AreBelow X → r ≡ replicate 16 255 → IsWire X (2 ^ 256 - 1) r
ones_gate X r low is = subst (IsWire X (2 ^ 256 - 1)) (sym is) (ones_wire X low)

-- a wire that is a part of a plane
pub part_wire : {A : Type 0} (part : A → List ℕ) (X : ℕ → ℕ → ℕ) (ts : List ℕ) (vs : List A) → AreWires X ts (map part vs) → (n : ℕ) → n < length ts → (d : A) → IsWire X (get_or ts n 0) (part (get_or vs n d))
part_wire part X ts vs h n l d =
    let e : length vs ≡ length ts = sym (length-map vs part) ∙ length-wires X ts (map part vs) h in
    subst (IsWire X (get_or ts n 0)) (get_or-map part vs n d [] (omega (arith, l, e))) (wire_at X ts (map part vs) h n l)
