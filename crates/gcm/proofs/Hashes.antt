-- GHASH and POLYVAL from the states after their parts.
use Rattle.std.proofs.Common.{◌≡◌, ◌+◌, ◌/◌, ℕ, zero, suc, List, length, bit_xor, ap, refl, sym, ◌∙◌, arith}
use Rattle.std.specs.Int.{w128, from_be_bytes, from_le_bytes, to_be_bytes, to_le_bytes}
use Rattle.standards.specs.Blocks.{block_at, over_blocks, zero_padded}
use Rattle.standards.specs.Ghash.{ghash, times_x}
use Rattle.standards.specs.Polyval.{length_block_le, polyval}
use Rattle.standards.specs.Polyval as P
use Rattle.standards.proofs.BlockFacts.{ghash_in_parts, polyval_in_parts}
use Rattle.standards.proofs.Products.{dot_is_product}
use Rattle.gcm.specs.declared.order.ByteOrder.TheVariants.{BigEndian, LittleEndian}
use Rattle.gcm.specs.Orders.{absorb, block_of, hash_of}

-- two steps that agree lead to the same state
pub over_blocks_same : {A : Type 0} (f g : A → List ℕ → A) (a : A) (m : List ℕ) (n : ℕ) → ((s : A) (b : List ℕ) → f s b ≡ g s b) → over_blocks f a m n ≡ over_blocks g a m n
unfolding over_blocks
over_blocks_same f g a m zero same = refl
over_blocks_same f g a m (suc n) same = same (over_blocks f a m n) (block_at m n) ∙ ap (λ s. g s (block_at m n)) (over_blocks_same f g a m n same)

-- the state over padded data and then over padded text
abbrev pub over_both : (ℕ → List ℕ → ℕ) → List ℕ → List ℕ → ℕ
over_both f aad text = over_blocks f (over_blocks f 0 (zero_padded aad) ((length aad + 15) / 16)) (zero_padded text) ((length text + 15) / 16)

-- four blocks more
pub four_more : (f : ℕ → List ℕ → ℕ) (y s : ℕ) (m : List ℕ) (n : ℕ) → s ≡ over_blocks f y m n
    → f (f (f (f s (block_at m n)) (block_at m (n + 1))) (block_at m (n + 2))) (block_at m (n + 3)) ≡ over_blocks f y m (n + 4)
unfolding over_blocks
four_more f y s m n s_is =
    let one : n + 1 ≡ suc n = omega arith in
    let two : n + 2 ≡ suc (suc n) = omega arith in
    let three : n + 3 ≡ suc (suc (suc n)) = omega arith in
    let all : suc (suc (suc (suc n))) ≡ n + 4 = omega arith in
    ap (λ a. f (f (f (f a (block_at m n)) (block_at m (n + 1))) (block_at m (n + 2))) (block_at m (n + 3))) s_is
    ∙ ap (λ k. f (f (f (over_blocks f y m (suc n)) (block_at m k)) (block_at m (n + 2))) (block_at m (n + 3))) one
    ∙ ap (λ k. f (f (over_blocks f y m (suc (suc n))) (block_at m k)) (block_at m (n + 3))) two
    ∙ ap (λ k. f (over_blocks f y m (suc (suc (suc n)))) (block_at m k)) three
    ∙ ap (over_blocks f y m) all

-- GHASH by the element of its key
pub ghash_of : (key aad text : List ℕ) (h : ℕ) → h ≡ from_be_bytes w128 key → block_of BigEndian (hash_of BigEndian h aad text) ≡ ghash key aad text
ghash_of key aad text h h_is = ap (λ k. to_be_bytes w128 (hash_of BigEndian k aad text)) h_is ∙ sym (ghash_in_parts key aad text)

-- POLYVAL's step is a product with x times its key
step_is : (h s : ℕ) (b : List ℕ) → absorb LittleEndian (times_x h) s b ≡ P.absorb h s b
step_is h s b = sym (dot_is_product (bit_xor s (from_le_bytes w128 b)) h)

pub over_both_le : (h : ℕ) (aad text : List ℕ) → over_both (absorb LittleEndian (times_x h)) aad text ≡ over_both (P.absorb h) aad text
over_both_le h aad text =
    let f = absorb LittleEndian (times_x h) in
    let g = P.absorb h in
    let n = (length aad + 15) / 16 in
    let m = (length text + 15) / 16 in
    over_blocks_same f g (over_blocks f 0 (zero_padded aad) n) (zero_padded text) m (step_is h)
    ∙ ap (λ s. over_blocks g s (zero_padded text) m) (over_blocks_same f g 0 (zero_padded aad) n (step_is h))

-- POLYVAL by x times the element of its key
pub polyval_of : (key aad text : List ℕ) (h : ℕ) → h ≡ times_x (from_le_bytes w128 key) → block_of LittleEndian (hash_of LittleEndian h aad text) ≡ polyval key aad text
polyval_of key aad text h h_is =
    let k = from_le_bytes w128 key in
    ap (λ v. to_le_bytes w128 (hash_of LittleEndian v aad text)) h_is
    ∙ ap (to_le_bytes w128) (step_is k (over_both (absorb LittleEndian (times_x k)) aad text) (length_block_le aad text) ∙ ap (λ s. P.absorb k s (length_block_le aad text)) (over_both_le k aad text))
    ∙ sym (polyval_in_parts key aad text)
