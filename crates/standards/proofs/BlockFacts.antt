-- Messages in blocks: a state over blocks goes on from message to message.
use Rattle.std.proofs.Common.{◌≡◌, ◌≤◌, ◌+◌, ◌-◌, ◌*◌, ◌/◌, ◌%◌, ℕ, zero, suc, List, ◌++◌, length, take, drop, replicate, refl, ap, sym, ◌∙◌, arith, length-append}
use Rattle.std.proofs.lemmas.List.{drop-append-le, drop-drop, drop_at, length-drop, length-replicate, take-append-le, take_all}
use Rattle.std.specs.Int.{w128, from_be_bytes, from_le_bytes, to_be_bytes, to_le_bytes}
use Rattle.standards.specs.Blocks.{block_at, over_blocks, zero_padded}
use Rattle.standards.specs.Ghash.{ghash, ghash_after, length_block}
use Rattle.standards.specs.Ghash as G
use Rattle.standards.specs.Polyval.{length_block_le, polyval, polyval_after}
use Rattle.standards.specs.Polyval as P

-- a block that lies within the first of two messages
pub block_at-append_left : (xs ys : List ℕ) (n : ℕ) → 16 * suc n ≤ length xs → block_at (xs ++ ys) n ≡ block_at xs n
block_at-append_left xs ys n h =
    ap (take 16) (drop-append-le (16 * n) xs ys (omega arith)) ∙ take-append-le 16 (drop (16 * n) xs) ys (omega (arith, length-drop (16 * n) xs))

-- a block of the second, where the first has k whole blocks
pub block_at-append_right : (xs ys : List ℕ) (k n : ℕ) → length xs ≡ 16 * k → block_at (xs ++ ys) (k + n) ≡ block_at ys n
block_at-append_right xs ys k n e =
    let at : 16 * (k + n) ≡ 16 * k + 16 * n = omega arith in
    ap (λ j. take 16 (drop j (xs ++ ys))) at
    ∙ ap (take 16) (sym (drop-drop (16 * n) (16 * k) (xs ++ ys)) ∙ ap (drop (16 * n)) (drop_at xs ys (16 * k) e))

-- a message of one block
pub block_at_one : (m : List ℕ) → length m ≡ 16 → block_at m 0 ≡ m
block_at_one m e = take_all 16 m (omega arith)

-- what is joined behind n whole blocks does not matter to them
pub over_blocks-front : {A : Type 0} (f : A → List ℕ → A) (a : A) (xs ys : List ℕ) (n : ℕ) → 16 * n ≤ length xs → over_blocks f a (xs ++ ys) n ≡ over_blocks f a xs n
unfolding over_blocks
over_blocks-front f a xs ys zero h = refl
over_blocks-front f a xs ys (suc n) h = ap (λ v. f v (block_at (xs ++ ys) n)) (over_blocks-front f a xs ys n (omega arith)) ∙ ap (f (over_blocks f a xs n)) (block_at-append_left xs ys n h)

-- two messages, the first of k whole blocks: the second goes on from the first's state
pub over_blocks-append : {A : Type 0} (f : A → List ℕ → A) (a : A) (xs ys : List ℕ) (k n : ℕ) → length xs ≡ 16 * k → over_blocks f a (xs ++ ys) (k + n) ≡ over_blocks f (over_blocks f a xs k) ys n
unfolding over_blocks
over_blocks-append f a xs ys k zero e = let at : k + 0 ≡ k = omega arith in ap (over_blocks f a (xs ++ ys)) at ∙ over_blocks-front f a xs ys k (omega arith)
over_blocks-append f a xs ys k (suc n) e =
    let at : k + suc n ≡ suc (k + n) = omega arith in
    ap (over_blocks f a (xs ++ ys)) at
    ∙ ap (λ v. f v (block_at (xs ++ ys) (k + n))) (over_blocks-append f a xs ys k n e)
    ∙ ap (f (over_blocks f (over_blocks f a xs k) ys n)) (block_at-append_right xs ys k n e)

-- a message of one block is one step
pub over_blocks_one : {A : Type 0} (f : A → List ℕ → A) (a : A) (m : List ℕ) → length m ≡ 16 → over_blocks f a m 1 ≡ f a m
unfolding over_blocks
over_blocks_one f a m e = ap (f a) (block_at_one m e)

-- zeros fill the last block
pub length-zero_padded : (m : List ℕ) → length (zero_padded m) ≡ 16 * ((length m + 15) / 16)
length-zero_padded m = omega (arith, length-append m (replicate ((16 - length m % 16) % 16) 0), length-replicate {A = ℕ} ((16 - length m % 16) % 16) 0)

-- over padded data, padded text and one block: first the one, then the other, then the block
pub over_padded : {A : Type 0} (f : A → List ℕ → A) (a : A) (xs ys z : List ℕ) → length z ≡ 16
    → over_blocks f a (zero_padded xs ++ zero_padded ys ++ z) (length (zero_padded xs ++ zero_padded ys ++ z) / 16)
    ≡ f (over_blocks f (over_blocks f a (zero_padded xs) ((length xs + 15) / 16)) (zero_padded ys) ((length ys + 15) / 16)) z
over_padded f a xs ys z e =
    let p = zero_padded xs in
    let q = zero_padded ys in
    let k = (length xs + 15) / 16 in
    let n = (length ys + 15) / 16 in
    let both : length (p ++ q) ≡ 16 * (k + n) = omega (arith, length-zero_padded xs, length-zero_padded ys, length-append p q) in
    let count : length (p ++ q ++ z) / 16 ≡ k + n + 1 = omega (arith, both, e, length-append (p ++ q) z) in
    ap (over_blocks f a (p ++ q ++ z)) count
    ∙ over_blocks-append f a (p ++ q) z (k + n) 1 both
    ∙ over_blocks_one f (over_blocks f a (p ++ q) (k + n)) z e
    ∙ ap (λ v. f v z) (over_blocks-append f a p q k n (length-zero_padded xs))

-- GHASH by its three parts
pub ghash_in_parts : (key aad text : List ℕ) → let h = from_be_bytes w128 key in
    ghash key aad text
    ≡ to_be_bytes w128 (G.absorb h (over_blocks (G.absorb h) (ghash_after h (zero_padded aad) ((length aad + 15) / 16)) (zero_padded text) ((length text + 15) / 16)) (length_block aad text))
unfolding ghash
ghash_in_parts key aad text = ap (to_be_bytes w128) (over_padded (G.absorb (from_be_bytes w128 key)) 0 aad text (length_block aad text) refl)

-- POLYVAL by its three parts
pub polyval_in_parts : (key aad text : List ℕ) → let h = from_le_bytes w128 key in
    polyval key aad text
    ≡ to_le_bytes w128 (P.absorb h (over_blocks (P.absorb h) (polyval_after h (zero_padded aad) ((length aad + 15) / 16)) (zero_padded text) ((length text + 15) / 16)) (length_block_le aad text))
unfolding polyval
polyval_in_parts key aad text = ap (to_le_bytes w128) (over_padded (P.absorb (from_le_bytes w128 key)) 0 aad text (length_block_le aad text) refl)
