-- The CMAC of a text of whole blocks and a rest, and of a text with a block added to its end.
use Rattle.std.proofs.Common.{◌≡◌, ◌≤◌, ◌<◌, ◌+◌, ◌-◌, ◌*◌, ◌/◌, ℕ, List, ◌++◌, length, take, drop, replicate, ap, ap₂, sym, ◌∙◌, append_assoc, arith, length-append, length-drop}
use Rattle.std.proofs.lemmas.List.{drop-drop, drop_at, length-take-le, take-append-drop}
use Rattle.std.proofs.Math.Seq.{take-append-add, drop-append-add}
use Rattle.standards.specs.Cmac.{chain_after, chain_step, cmac, last_block}
use Rattle.standards.specs.Lists.{xor_bytes}
use Rattle.standards.specs.Siv.{xor_end}
use Rattle.standards.proofs.BlockFacts.{over_blocks-append, over_blocks-front}
use Rattle.standards.proofs.ListFacts.{length-xor_bytes}
use Rattle.hash_keys.specs.CmacParts.{cmac_from}

pub cmac-append : (E : List ℕ → List ℕ) (xs ys : List ℕ) (k : ℕ) → length xs ≡ 16 * k → 0 < length ys → cmac E (xs ++ ys) ≡ cmac_from E (chain_after E xs k) ys
unfolding cmac
cmac-append E xs ys k whole some =
    let m = (length ys - 1) / 16 in
    let count : (length (xs ++ ys) - 1) / 16 ≡ k + m = omega (arith, length-append xs ys, whole, some) in
    let at : 16 * (k + m) ≡ 16 * k + 16 * m = omega arith in
    let back : drop (16 * (k + m)) (xs ++ ys) ≡ drop (16 * m) ys =
    ap (λ j. drop j (xs ++ ys)) at ∙ sym (drop-drop (16 * m) (16 * k) (xs ++ ys)) ∙ ap (drop (16 * m)) (drop_at xs ys (16 * k) whole) in
    ap (λ n. E (xor_bytes (chain_after E (xs ++ ys) n) (last_block E (drop (16 * n) (xs ++ ys))))) count
    ∙ ap E (ap₂ xor_bytes (over_blocks-append (chain_step E) (replicate 16 0) xs ys k m whole) (ap (last_block E) back))

xor_end-append : (xs ys d : List ℕ) → 16 ≤ length ys → xor_end (xs ++ ys) d ≡ xs ++ xor_end ys d
xor_end-append xs ys d long =
    let m = length ys - 16 in
    let at : length (xs ++ ys) - 16 ≡ length xs + m = omega (arith, length-append xs ys, long) in
    ap (λ k. take k (xs ++ ys) ++ xor_bytes (drop k (xs ++ ys)) d) at
    ∙ ap₂ (λ a b. a ++ xor_bytes b d) (take-append-add xs ys m) (drop-append-add xs ys m)
    ∙ append_assoc xs (take m ys) (xor_bytes (drop m ys) d)

pub length-xor_end : (text d : List ℕ) → 16 ≤ length text → length (xor_end text d) ≡ length text
length-xor_end text d long =
    let n = length text - 16 in
    omega (arith, length-append (take n text) (xor_bytes (drop n text) d), length-take-le n text (omega arith), length-xor_bytes (drop n text) d, length-drop n text, long)

-- the first k blocks are chained as they stand, where 16 bytes or more are behind them
pub cmac-xor_end : (E : List ℕ → List ℕ) (text d : List ℕ) (k : ℕ) → 16 * k + 16 ≤ length text → cmac E (xor_end text d) ≡ cmac_from E (chain_after E text k) (xor_end (drop (16 * k) text) d)
cmac-xor_end E text d k long =
    let xs = take (16 * k) text in
    let ys = drop (16 * k) text in
    let joined : xs ++ ys ≡ text = take-append-drop (16 * k) text in
    let size : length xs ≡ 16 * k = length-take-le (16 * k) text (omega (arith, long)) in
    let rest : 16 ≤ length ys = omega (arith, length-drop (16 * k) text, long) in
    ap (λ t. cmac E (xor_end t d)) (sym joined)
    ∙ ap (cmac E) (xor_end-append xs ys d rest)
    ∙ cmac-append E xs (xor_end ys d) k size (omega (arith, length-xor_end ys d rest, rest))
    ∙ ap (λ c. cmac_from E c (xor_end ys d)) (sym (over_blocks-front (chain_step E) (replicate 16 0) xs ys k (omega (arith, size))) ∙ ap (λ t. chain_after E t k) joined)
