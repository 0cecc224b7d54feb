-- The laws of the flavours' blocks.
use Rattle.std.specs.Prelude.{◌≡◌, ◌≤◌, ◌<◌, ℕ, ◌+◌, ◌-◌, ◌*◌, ◌%◌, List, ◌++◌, length, take, drop}
use Rattle.std.proofs.Common.{ap, ap₂, ◌∙◌, arith, length-append}
use Rattle.std.proofs.lemmas.List.{drop_at, length-take-le, take_at}
use Rattle.std.proofs.lemmas.Nat.{pow_pos}
use Rattle.std.proofs.Math.Nat.{add-mod-mod, mod-add-mod, mod-lt}
use Rattle.std.specs.Int.{Width, byte_len, from_be_bytes, from_le_bytes, to_be_bytes, to_le_bytes}
use Rattle.standards.proofs.ByteOrder.{from_be_bytes-to_be_bytes, length-to_be_bytes}
use Rattle.standards.proofs.CounterFacts.{length-plus_be, length-plus_le, plus_le-plus_le}
use Rattle.ctr.specs.Flavors.{End, last, first, field_size, plus}

-- a number modulo the field's size
pub below_field : (w : Width) (n : ℕ) → n % field_size w < field_size w
below_field w n = mod-lt n (pow_pos (8 * byte_len w))

-- block i is that of i modulo the field's size
pub plus_repeats : (end : End) (w : Width) (nonce : List ℕ) (i : ℕ) → plus end w nonce (i % field_size w) ≡ plus end w nonce i
unfolding plus
plus_repeats last w nonce i =
    let at = length nonce - byte_len w in
    ap (λ n. take at nonce ++ to_be_bytes w n) (add-mod-mod (from_be_bytes w (drop at nonce)) i (field_size w))
plus_repeats first w nonce i = ap (λ n. to_le_bytes w n ++ drop (byte_len w) nonce) (add-mod-mod (from_le_bytes w (take (byte_len w) nonce)) i (field_size w))

-- a block of a block is the block of the sum
pub plus-plus : (end : End) (w : Width) (nonce : List ℕ) (i j : ℕ) → plus end w (plus end w nonce i) j ≡ plus end w nonce (i + j)
unfolding plus
plus-plus first w nonce i j = plus_le-plus_le w nonce i j
plus-plus last w nonce i j =
    let size = field_size w in
    let at = length nonce - byte_len w in
    let front = take at nonce in
    let old = from_be_bytes w (drop at nonce) in
    let n = (old + i) % size in
    let block = plus last w nonce i in
    let front_length : length front ≡ at = length-take-le at nonce (omega arith) in
    let field : length block - byte_len w ≡ at = omega (arith, length-append front (to_be_bytes w n), front_length, length-to_be_bytes w n) in
    let fits = mod-lt (old + i) (pow_pos (8 * byte_len w)) in
    let sum : old + i + j ≡ old + (i + j) = omega arith in
    ap (λ k. take k block ++ to_be_bytes w ((from_be_bytes w (drop k block) + j) % size)) field
    ∙ ap₂ (λ xs v. xs ++ to_be_bytes w ((v + j) % size)) (take_at front (to_be_bytes w n) at front_length)
    (ap (from_be_bytes w) (drop_at front (to_be_bytes w n) at front_length) ∙ from_be_bytes-to_be_bytes w n fits)
    ∙ ap (λ v. front ++ to_be_bytes w v) (mod-add-mod (old + i) size j ∙ ap (λ v. v % size) sum)

-- a block has the nonce's length, if the field has room in it
pub length-plus : (end : End) (w : Width) (size : ℕ) (nonce : List ℕ) (i : ℕ) → byte_len w ≤ size → length nonce ≡ size → length (plus end w nonce i) ≡ size
unfolding plus
length-plus last w size nonce i h e = length-plus_be w nonce i (omega arith) ∙ e
length-plus first w size nonce i h e = length-plus_le w nonce i (omega arith) ∙ e
