-- Counting on: blocks that are written one after another, and what remains after them.
use Rattle.std.proofs.Common.{◌≡◌, ◌≤◌, ◌<◌, ℕ, suc, ◌+◌, ◌-◌, ◌%◌, List, [], ◌∷◌, ◌++◌, Some, map, get_or, set, drop, length, ap, sym, ◌∙◌, refl, arith, append_assoc, add-one, drop-cons}
use Rattle.std.proofs.lemmas.List.{set_at, drop_all, append-nil}
use Rattle.std.proofs.lemmas.List.FromFn.{length-map-range_with_len, map-range_with_len_more}
use Rattle.std.proofs.Math.Nat.{mod-eq_of_lt, mod-add-mod}
use Rattle.std.specs.List.{range_with_len}
use Rattle.cipher.specs.Transcript.{Block}
use Rattle.cipher_stream.specs.Keystream.{IsFed, IsServed, Keystream}

-- one block more of a stream s, in its place
pub fill_more : (s : ℕ → Block) (old cur : List Block) (y : Block) (i : ℕ) → i < length old → cur ≡ map s (range_with_len 0 i) ++ drop i old → y ≡ s i
    → set cur i y ≡ map s (range_with_len 0 (i + 1)) ++ drop (i + 1) old
fill_more s old cur y i h e v =
    let front = map s (range_with_len 0 i) in
    let st : set cur i y ≡ front ++ y ∷ drop (suc i) old =
    ap (λ l. set l i y) (e ∙ ap (λ l. front ++ l) (drop-cons old i [] h)) ∙ set_at front (get_or old i []) (drop (suc i) old) y i (length-map-range_with_len s 0 i) in
    let z : 0 + i ≡ i = omega arith in
    st ∙ (rw (map-range_with_len_more s 0 i i z, append_assoc, add-one, v) refl)

-- .. and where all are written
pub fill_all : (s : ℕ → Block) (old cur : List Block) (i : ℕ) → i ≡ length old → cur ≡ map s (range_with_len 0 i) ++ drop i old → cur ≡ map s (range_with_len 0 (length old))
fill_all s old cur i h e =
    let le : length old ≤ i = omega arith in
    e ∙ (ap (λ l. map s (range_with_len 0 i) ++ l) (drop_all i old le) ∙ (append-nil (map s (range_with_len 0 i)) ∙ ap (λ n. map s (range_with_len 0 n)) h))

-- the block of a counter that has counted i times
pub block_after : (plus : Block → ℕ → Block) (period : ℕ) (nonce now y : Block) (p q i : ℕ) → now ≡ nonce → q ≡ (p + i) % period → y ≡ plus now q → y ≡ plus nonce ((p + i) % period)
block_after plus period nonce now y p q i same counted written = written ∙ ap (λ n. plus n q) same ∙ ap (plus nonce) counted

-- a counter that has not counted
pub counted_none : (p period : ℕ) → p < period → p ≡ (p + 0) % period
counted_none p period h = let e : p + 0 ≡ p = omega arith in sym (ap (λ n. n % period) e ∙ mod-eq_of_lt h)

-- .. and that has counted once more
pub counted_more : (p q period i : ℕ) → q ≡ (p + i) % period → (q + 1) % period ≡ (p + (i + 1)) % period
counted_more p q period i e =
    let sum : p + i + 1 ≡ p + (i + 1) = omega arith in
    ap (λ n. (n + 1) % period) e ∙ mod-add-mod (p + i) period 1 ∙ ap (λ n. n % period) sum

-- a counter that has moved by n of the blocks that remained, n fewer remain
spent : (period p q n : ℕ) → p < period → q < period → q % period ≡ (p + n) % period → n ≤ period - 1 - p → Some (period - 1 - q) ≡ Some (period - 1 - p - n)
spent period p q n low high moved room =
    let below : p + n < period = omega arith in
    let at : q ≡ p + n = sym (mod-eq_of_lt high) ∙ moved ∙ mod-eq_of_lt below in
    let left : period - 1 - q ≡ period - 1 - p - n = omega arith in
    ap (λ m. Some m) left

-- blocks that are fed, counted off what remains
pub served : {S : Type 0} (L : List Block → S → S → Type 0) (old new : S) (k k' : Keystream) → k.position < k.period → k'.position < k.period → IsFed L old new k k'
    → IsServed L old new k (Some (k.period - 1 - k.position)) k' (Some (k.period - 1 - k'.position))
served L old new k k' low high h =
    record { count = h.count; goes = h.goes; is_moved = h.is_moved; spent = λ room. spent k.period k.position k'.position h.count low high h.is_moved.moved room }
