use Rattle.std.proofs.Common.{◌≡◌, ◌<◌, ◌+◌, ◌-◌, ◌*◌, ◌/◌, ℕ, List, length, take, drop, min, ap, ap₂, sym, ◌∙◌, arith}
use Rattle.std.proofs.lemmas.List.{length-drop, length-take}
use Rattle.standards.specs.Blocks.{over_blocks, zero_padded}
use Rattle.standards.specs.Counter.{ctr}
use Rattle.standards.proofs.Keystream.{length-ctr}
use Rattle.gcm.specs.declared.order.ByteOrder.TheVariants.{LittleEndian}
use Rattle.gcm.specs.Orders.{absorb, counted}
use Rattle.gcm.proofs.Counting.{counted-counted, length-counted}
use Rattle.gcm.proofs.OpenedParts.{ctr_part, part_more}
use Rattle.gcm.proofs.opened.absorb_opened.Goals as goal

-- before the first block
none_yet : (f : ℕ → List ℕ → ℕ) (y : ℕ) (m : List ℕ) (k : ℕ) → y ≡ over_blocks f y m (min (8 * 0) k)
unfolding over_blocks
none_yet f y m k = let none : 0 ≡ min (8 * 0) k = omega arith in ap (over_blocks f y m) none

pub loop-i-init : goal.loop-i-init
loop-i-init g c =
    none_yet (absorb LittleEndian (g.K.Products.element c.args.key.now)) c.args.y (zero_padded (ctr (g.C.BlockCipherEncrypt.encrypts c.args.c.now) (counted LittleEndian) c.args.block.now c.args.ciphertext.now)) ((length c.args.ciphertext.now + 15) / 16)

-- one part more, after the state over the parts before
one_more : (E : List ℕ → List ℕ) (h y state next : ℕ) (block from xs : List ℕ) (i n : ℕ) → ((b : List ℕ) → length b ≡ 16 → length (E b) ≡ 16) → length block ≡ 16
    → 128 * i < length xs → n ≡ min (length xs - 128 * i) 128 → from ≡ counted LittleEndian block (8 * i)
    → state ≡ over_blocks (absorb LittleEndian h) y (zero_padded (ctr E (counted LittleEndian) block xs)) (min (8 * i) ((length xs + 15) / 16))
    → (let part = take (128 * i + n - 128 * i) (drop (128 * i) xs) in
    next ≡ over_blocks (absorb LittleEndian h) state (zero_padded (ctr E (counted LittleEndian) from part)) ((length part + 15) / 16))
    → next ≡ over_blocks (absorb LittleEndian h) y (zero_padded (ctr E (counted LittleEndian) block xs)) (min (8 * (i + 1)) ((length xs + 15) / 16))
one_more E h y state next block from xs i n size long within n_is from_is state_is next_is =
    let f = absorb LittleEndian h in
    let plus = counted LittleEndian in
    let t = ctr E plus block xs in
    let same : length t ≡ length xs = length-ctr E plus block xs in
    let cut : 128 * i + n - 128 * i ≡ n = omega arith in
    let part : List ℕ = take n (drop (128 * i) xs) in
    let part_long : length part ≡ n = omega (arith, length-take n (drop (128 * i) xs), length-drop (128 * i) xs) in
    let blocks : min (8 * i) ((length xs + 15) / 16) ≡ 8 * i = omega arith in
    let at : 128 * i ≡ 16 * (8 * i) = omega arith in
    let made : ctr E plus from part ≡ take n (drop (128 * i) t) =
    ap (λ b. ctr E plus b part) from_is
    ∙ ap (λ k. ctr E plus (plus block (8 * i)) (take n (drop k xs))) at
    ∙ ctr_part E plus block xs (8 * i) n (λ j. size (plus block j) (length-counted LittleEndian block j long)) (λ j. counted-counted LittleEndian block (8 * i) j long) (omega arith)
    ∙ ap (λ k. take n (drop k t)) (sym at) in
    next_is
    ∙ ap (λ k. over_blocks f state (zero_padded (ctr E plus from (take k (drop (128 * i) xs)))) ((length (take k (drop (128 * i) xs)) + 15) / 16)) cut
    ∙ ap₂ (λ p k. over_blocks f state (zero_padded p) ((k + 15) / 16)) made part_long
    ∙ ap (λ s. over_blocks f s (zero_padded (take n (drop (128 * i) t))) ((n + 15) / 16)) (state_is ∙ ap (over_blocks f y (zero_padded t)) blocks)
    ∙ part_more f y t i n (omega (arith, same)) (n_is ∙ ap (λ k. min (k - 128 * i) 128) (sym same))
    ∙ ap (λ k. over_blocks f y (zero_padded t) (min (8 * (i + 1)) ((k + 15) / 16))) same

pub loop-i-preserved : goal.loop-i-preserved
loop-i-preserved g c =
    let xs = c.args.ciphertext.now in
    let i = c.loop-i.i in
    let within : 128 * i < length xs = omega arith in
    one_more (g.C.BlockCipherEncrypt.encrypts c.args.c.now) (g.K.Products.element c.args.key.now) c.args.y c.loop-i.state c.absorb_part-next.result c.args.block.now c.counter_after-from.result xs i c.min-n.result
    (g.met.C.BlockCipherEncrypt.sized c.args.c.now) c.told-block within c.min-n.ensures c.counter_after-from.ensures c.loop-i.invariant c.absorb_part-next.ensures
