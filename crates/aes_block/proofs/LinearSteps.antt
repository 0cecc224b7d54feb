-- The linear steps, bit by bit.
use Rattle.std.proofs.Common.{◌≡◌, ℕ, ◌+◌, ◌-◌, ◌%◌, ◌<◌, ◌≤◌, T, ltb, ltb→lt, List, [], ◌∷◌, refl, length, map, get_or, slice_index, bit_xor, sym, ap, ◌∙◌, subst, arith}
use Rattle.std.specs.Int.{bit_at}
use Rattle.std.proofs.lemmas.List.{ext_get_or, get_or-map, length-map}
use Rattle.std.proofs.lemmas.Nat.{xor_lt}
use Rattle.std.proofs.lemmas.Nat.Bits.{bit_at_xor, same_from_bits_below}
use Rattle.std.proofs.lemmas.Simd.{get_or-zip2, length-zip2, map-map}
use lib.Lanes.{zip2}
use Rattle.standards.specs.Aes.{add_round_key, key_at, mix_columns, shift_rows, state_after, sub_bytes}
use Rattle.standards.specs.AesInverse.{inv_mix_columns, inv_shift_rows, inv_state_after, inv_sub_bytes}
use Rattle.aes_block.specs.BitPlanes.{AreBlocks, IsKey, byte_of, picked_at}
use Rattle.aes_block.specs.Transposition.{IsTransposed}
use Rattle.aes_block.specs.Wires.{AreBelow, ArePlanes}
use Rattle.standards.proofs.Bytes.{all_below, every_below}
use Rattle.aes_block.proofs.Cases.{below_8}
use Rattle.aes_block.proofs.EachBlock.{map_same}
use Rattle.aes_block.proofs.Rounds.{inv_state_step, state_step}

-- bit i of byte k of a vector
pub record IsBit (v : List ℕ) (f : ℕ → ℕ → ℕ) : Type 0 where
  pub size : length v ≡ 16
  pub bits : (k i : ℕ) → k < 16 → i < 8 → bit_at (get_or v k 0) i ≡ f k i

pub plane_bit : (X : ℕ → ℕ → ℕ) (q : List (List ℕ)) → ArePlanes X q → (j : ℕ) → j < 8 → IsBit (get_or q j []) (λ k i. bit_at (X k i) j)
plane_bit X q h j l = record { size = h.size j l; bits = λ k i m n. h.bits j k i l m n }

pub xor_bit : (a b : List ℕ) (f g : ℕ → ℕ → ℕ) → IsBit a f → IsBit b g → IsBit (zip2 bit_xor a b) (λ k i. (f k i + g k i) % 2)
xor_bit a b f g p q =
    record {
      size = length-zip2 bit_xor a b (p.size ∙ sym q.size) ∙ p.size;
      bits = λ k i h l.
          ap (λ n. bit_at n i) (get_or-zip2 bit_xor a b k 0 0 0 (omega (arith, p.size)) (omega (arith, q.size)))
          ∙ bit_at_xor (get_or a k 0) (get_or b k 0) i
          ∙ ap (λ n. (n + bit_at (get_or b k 0) i) % 2) (p.bits k i h l)
          ∙ ap (λ n. (f k i + n) % 2) (q.bits k i h l);
    }

pub xor_bit_is : (a b r : List ℕ) (f g : ℕ → ℕ → ℕ) → IsBit a f → IsBit b g → r ≡ zip2 bit_xor a b → IsBit r (λ k i. (f k i + g k i) % 2)
xor_bit_is a b r f g p q is = subst (λ v. IsBit v (λ k i. (f k i + g k i) % 2)) (sym is) (xor_bit a b f g p q)

pub places : (at : List ℕ) → T (all_below (λ k. ltb (get_or at k 0) 16) 16) → (k : ℕ) → k < 16 → get_or at k 0 < 16
places at h k l = ltb→lt _ _ (every_below (λ k. ltb (get_or at k 0) 16) 16 h k l)

pub picked_bit : (at : List ℕ) → length at ≡ 16 → T (all_below (λ k. ltb (get_or at k 0) 16) 16) → (v r : List ℕ) (f : ℕ → ℕ → ℕ) → r ≡ picked_at v at → IsBit v f → IsBit r (λ k i. f (get_or at k 0) i)
picked_bit at e t v r f is h =
    record {
      size = ap length is ∙ length-map at (λ k. slice_index v k) ∙ e;
      bits = λ k i l m.
          ap (λ w. bit_at (get_or w k 0) i) is
          ∙ ap (λ n. bit_at n i) (get_or-map (λ k. slice_index v k) at k 0 0 (omega (arith, e)))
          ∙ h.bits (get_or at k 0) i (places at t k l) m;
    }

pub same_bit : (v : List ℕ) (f g : ℕ → ℕ → ℕ) → ((k i : ℕ) → k < 16 → i < 8 → f k i ≡ g k i) → IsBit v f → IsBit v g
same_bit v f g e h = record { size = h.size; bits = λ k i l m. h.bits k i l m ∙ e k i l m }

pub planes_of : (Z : ℕ → ℕ → ℕ) (r : List (List ℕ)) → AreBelow Z → length r ≡ 8 → ((j : ℕ) → j < 8 → IsBit (get_or r j []) (λ k i. bit_at (Z k i) j)) → ArePlanes Z r
planes_of Z r low e h = record { below = low; count = e; size = λ j l. (h j l).size; bits = λ j k i l m n. (h j l).bits k i m n }

-- planes of equal bytes
pub same_planes : (X Y : ℕ → ℕ → ℕ) (q : List (List ℕ)) → ((k i : ℕ) → k < 16 → i < 8 → X k i ≡ Y k i) → ArePlanes X q → ArePlanes Y q
same_planes X Y q same h =
    record {
      below = λ k i l m. subst (λ n. n < 256) (same k i l m) (h.below k i l m);
      count = h.count;
      size = h.size;
      bits = λ j k i n l m. h.bits j k i n l m ∙ ap (λ x. bit_at x j) (same k i l m);
    }

-- a step f of each block, whose bytes are Z
pub mapped : (b r : List (List ℕ)) (f : List ℕ → List ℕ) (Z : ℕ → ℕ → ℕ) → length b ≡ 8 → ((i : ℕ) → i < 8 → length (get_or b i []) ≡ 16) → ((s : List ℕ) → length s ≡ 16 → length (f s) ≡ 16)
    → ((k i : ℕ) → k < 16 → i < 8 → get_or (f (get_or b i [])) k 0 ≡ Z k i) → ArePlanes Z r → AreBlocks (map f b) r
mapped b r f Z count size keeps same h =
    let at = λ (i : ℕ) (m : i < 8). get_or-map f b i [] [] (omega (arith, count)) in
    record {
      count = length-map b f ∙ count;
      size = λ i m. ap length (at i m) ∙ keeps (get_or b i []) (size i m);
      planes = same_planes Z (byte_of (map f b)) r (λ k i l m. sym (ap (λ s. get_or s k 0) (at i m) ∙ same k i l m)) h;
    }

-- a step g of each byte
pub substituted : (g : ℕ → ℕ) (b q r : List (List ℕ)) → AreBlocks b q → ArePlanes (λ k i. g (byte_of b k i)) r → AreBlocks (map (map g) b) r
substituted g b q r h z =
    mapped b r (map g) (λ k i. g (byte_of b k i)) h.count h.size (λ s e. length-map s g ∙ e)
    (λ k i l m. get_or-map g (get_or b i []) k 0 0 (omega (arith, l, h.size i m))) z

-- bytes that are moved alike in each plane
pub moved_bytes : (at : List ℕ) → length at ≡ 16 → T (all_below (λ k. ltb (get_or at k 0) 16) 16) → (b q r : List (List ℕ)) → AreBlocks b q → length r ≡ 8
    → ((j : ℕ) → j < 8 → get_or r j [] ≡ picked_at (get_or q j []) at) → AreBlocks (map (λ s. picked_at s at) b) r
moved_bytes at sixteen t b q r h e each =
    let Z : ℕ → ℕ → ℕ = λ k i. byte_of b (get_or at k 0) i in
    mapped b r (λ s. picked_at s at) Z h.count h.size (λ s e. length-map at (λ k. slice_index s k) ∙ sixteen)
    (λ k i l m. get_or-map (λ k. slice_index (get_or b i []) k) at k 0 0 (omega (arith, l, sixteen)))
    (planes_of Z r (λ k i l m. h.planes.below (get_or at k 0) i (places at t k l) m) e
    (λ j n. picked_bit at sixteen t (get_or q j []) (get_or r j []) _ (each j n) (plane_bit (byte_of b) q h.planes j n)))

-- each plane and that of its place added
abbrev pub plane_sums : List (List ℕ) → List (List ℕ) → List (List ℕ)
plane_sums q k =
    let sum = λ (j : ℕ). zip2 bit_xor (get_or q j []) (get_or k j []) in
    sum 0 ∷ sum 1 ∷ sum 2 ∷ sum 3 ∷ sum 4 ∷ sum 5 ∷ sum 6 ∷ sum 7 ∷ []

pub added : (b q k : List (List ℕ)) (key : List ℕ) → AreBlocks b q → IsKey key k → AreBlocks (map (λ v. add_round_key v key) b) (plane_sums q k)
added b q ks key h g =
    let r = plane_sums q ks in
    let each = below_8 (λ j. get_or r j [] ≡ zip2 bit_xor (get_or q j []) (get_or ks j [])) refl refl refl refl refl refl refl refl in
    let Z : ℕ → ℕ → ℕ = λ k i. bit_xor (byte_of b k i) (get_or key k 0) in
    mapped b r (λ v. add_round_key v key) Z h.count h.size (λ s f. length-zip2 bit_xor s key (f ∙ sym g.size) ∙ f)
    (λ k i l m. get_or-zip2 bit_xor (get_or b i []) key k 0 0 0 (omega (arith, l, h.size i m)) (omega (arith, l, g.size)))
    (planes_of Z r (λ k i l m. xor_lt 8 (byte_of b k i) (get_or key k 0) (h.planes.below k i l m) (g.planes.below k i l m)) refl
    (λ j n. same_bit (get_or r j []) (λ k i. (bit_at (byte_of b k i) j + bit_at (get_or key k 0) j) % 2) (λ k i. bit_at (Z k i) j)
    (λ k i l m. sym (bit_at_xor (byte_of b k i) (get_or key k 0) j))
    (subst (λ v. IsBit v (λ k i. (bit_at (byte_of b k i) j + bit_at (get_or key k 0) j) % 2)) (sym (each j n))
    (xor_bit (get_or q j []) (get_or ks j []) _ _ (plane_bit (byte_of b) q h.planes j n) (plane_bit (λ k i. get_or key k 0) ks g.planes j n)))))

pub same_eight : (a b c d e f g h p q r s t u v w : List ℕ) → a ≡ p → b ≡ q → c ≡ r → d ≡ s → e ≡ t → f ≡ u → g ≡ v → h ≡ w
    → a ∷ b ∷ c ∷ d ∷ e ∷ f ∷ g ∷ h ∷ [] ≡ p ∷ q ∷ r ∷ s ∷ t ∷ u ∷ v ∷ w ∷ []
same_eight a b c d e f g h p q r s t u v w z0 z1 z2 z3 z4 z5 z6 z7 = rw (z0, z1, z2, z3, z4, z5, z6, z7) refl

-- two steps are one
pub both : (f g : List ℕ → List ℕ) (b r : List (List ℕ)) → AreBlocks (map g (map f b)) r → AreBlocks (map (λ v. g (f v)) b) r
both f g b r h = subst (λ l. AreBlocks l r) (map-map g f b) h

-- blocks, and their planes
pub planes_of_transposed : (b q : List (List ℕ)) → length b ≡ 8 → IsTransposed b q → AreBlocks b q
planes_of_transposed b q e h =
    record {
      count = e;
      size = λ i m. (h.from i m).size;
      planes = record {
        below = λ k i l m. (h.from i m).below k l;
        count = h.count;
        size = λ j n. (h.vectors j n).size;
        bits = h.bits;
      };
    }

pub transposed_back : (b q r : List (List ℕ)) → AreBlocks b q → IsTransposed q r → r ≡ b
transposed_back b q r h t =
    ext_get_or [] r b (t.count ∙ sym h.count) (λ i l.
    let m : i < 8 = omega (arith, t.count) in
    let v = t.vectors i m in
    ext_get_or 0 (get_or r i []) (get_or b i []) (v.size ∙ sym (h.size i m)) (λ k o.
    let n : k < 16 = omega (arith, v.size) in
    same_from_bits_below 8 (get_or (get_or r i []) k 0) (get_or (get_or b i []) k 0) (v.below k n) (h.planes.below k i n m) (λ j p. t.bits i k j m n p ∙ h.planes.bits j k i p n m)))

-- one whole round more of each block
pub step_all : (ks b : List (List ℕ)) (i : ℕ) → 1 ≤ i
    → map (λ v. add_round_key (mix_columns (shift_rows (sub_bytes (state_after ks v (i - 1))))) (key_at ks i)) b ≡ map (λ v. state_after ks v (i + 1 - 1)) b
step_all ks b i h = map_same _ _ (λ v. state_step ks v i h) b

pub inv_step_all : (r : ℕ) (ks b : List (List ℕ)) (i : ℕ) → 1 ≤ i
    → map (λ v. inv_mix_columns (add_round_key (inv_sub_bytes (inv_shift_rows (inv_state_after r ks v (i - 1)))) (key_at ks (r - i)))) b ≡ map (λ v. inv_state_after r ks v (i + 1 - 1)) b
inv_step_all r ks b i h = map_same _ _ (λ v. inv_state_step r ks v i h) b
