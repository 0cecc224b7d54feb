-- Counter blocks in either order.
use Rattle.std.proofs.Common.{◌≡◌, ◌≤◌, ◌+◌, ◌-◌, ◌*◌, ◌%◌, ℕ, List, [], ◌++◌, length, take, drop, ap, ap₂, sym, ◌∙◌, arith, append-nil}
use Rattle.std.proofs.Math.ListN.{drop_of_length-le}
use Rattle.std.proofs.lemmas.List.{drop_at, length-drop, length-take-le, take-append-drop, take_all}
use Rattle.std.specs.Int.{w32, from_be_bytes, to_be_bytes, byte_len}
use Rattle.standards.specs.Counter.{ctr, plus_be}
use Rattle.standards.proofs.CounterFacts.{ctr-append, length-plus_be, length-plus_le, plus_be-plus_be, plus_le-plus_le}
use Rattle.gcm.specs.declared.order.ByteOrder.{ByteOrder}
use Rattle.gcm.specs.declared.order.ByteOrder.TheVariants.{BigEndian, LittleEndian}
use Rattle.standards.proofs.Keystream.{length-ctr}
use borrow.Rule.Slice.PartMut.{put_mid}
use Rattle.gcm.specs.Orders.{counted}
use Rattle.gcm.specs.Siv.{KeepsBlocks}
use Rattle.gcm.proofs.Parts.{written}

-- counting keeps a block a block
pub length-counted : (order : ByteOrder) (b : List ℕ) (i : ℕ) → length b ≡ 16 → length (counted order b i) ≡ 16
length-counted BigEndian b i size = length-plus_be w32 b i (omega arith) ∙ size
length-counted LittleEndian b i size = length-plus_le w32 b i (omega arith) ∙ size

-- counting in two parts
pub counted-counted : (order : ByteOrder) (b : List ℕ) (m n : ℕ) → length b ≡ 16 → counted order (counted order b m) n ≡ counted order b (m + n)
counted-counted BigEndian b m n size = plus_be-plus_be w32 b m n (omega arith)
counted-counted LittleEndian b m n size = plus_le-plus_le w32 b m n

-- all bytes in one part
pub in_one : (E : List ℕ → List ℕ) (order : ByteOrder) (block bytes a : List ℕ) (n : ℕ) → length bytes ≤ n → a ≡ ctr E (counted order) block (take n bytes) → a ++ drop n bytes ≡ ctr E (counted order) block bytes
in_one E order block bytes a n all a_is =
    ap₂ (λ xs ys. xs ++ ys) (a_is ∙ ap (ctr E (counted order) block) (take_all n bytes all)) (drop_of_length-le bytes all) ∙ append-nil (ctr E (counted order) block bytes)

-- m whole blocks, and the rest from block m on
pub in_two : (E : List ℕ → List ℕ) (order : ByteOrder) (block last bytes a b : List ℕ) (n m : ℕ) → KeepsBlocks E → length block ≡ 16 → n ≡ 16 * m → n ≤ length bytes
    → a ≡ ctr E (counted order) block (take n bytes) → last ≡ counted order block m → b ≡ ctr E (counted order) last (take (length (a ++ drop n bytes) - n) (drop n (a ++ drop n bytes)))
    → put_mid n (length (a ++ drop n bytes) - n) (a ++ drop n bytes) b ≡ ctr E (counted order) block bytes
in_two E order block last bytes a b n m size long n_is within a_is last_is b_is =
    let plus = counted order in
    let front = take n bytes in
    let rest = drop n bytes in
    let whole = a ++ rest in
    let front_long : length front ≡ n = length-take-le n bytes within in
    let a_long : length a ≡ n = ap length a_is ∙ length-ctr E plus block front ∙ front_long in
    let left : take (length whole - n) (drop n whole) ≡ rest = take_all (length whole - n) (drop n whole) (omega (arith, length-drop n whole)) ∙ drop_at a rest n a_long in
    written n bytes a b a_long
    ∙ ap₂ (λ xs ys. xs ++ ys) a_is (b_is ∙ ap₂ (ctr E plus) last_is left)
    ∙ sym (ctr-append E plus block front rest m (front_long ∙ n_is) (λ i. size (plus block i) (length-counted order block i long)) (λ i. counted-counted order block m i long))
    ∙ ap (ctr E plus block) (take-append-drop n bytes)

-- the four bytes that count, written over the last of a block: f is the number that they were
pub last_counted : (block field count : List ℕ) (f i : ℕ) → length block ≡ 16 → field ≡ take 4 (drop 12 block) → f ≡ from_be_bytes w32 field
    → count ≡ to_be_bytes w32 ((f + i % 4294967296) % 4294967296) → put_mid 12 4 block count ≡ plus_be w32 block i
last_counted block field count f i size read f_is e =
    let at : 12 ≡ length block - byte_len w32 = omega arith in
    let four : length (drop 12 block) ≤ 4 = omega (arith, length-drop 12 block) in
    let none : drop 4 (drop 12 block) ≡ [] = drop_of_length-le (drop 12 block) four in
    let last : f ≡ from_be_bytes w32 (drop 12 block) = f_is ∙ ap (from_be_bytes w32) (read ∙ take_all 4 (drop 12 block) four) in
    let sum : (f + i % 4294967296) % 4294967296 ≡ (f + i) % 4294967296 = omega arith in
    let made : count ≡ to_be_bytes w32 ((from_be_bytes w32 (drop 12 block) + i) % 4294967296) = e ∙ ap (to_be_bytes w32) (sum ∙ ap (λ n. (n + i) % 4294967296) last) in
    let whole : take 12 block ++ (count ++ drop 4 (drop 12 block)) ≡ take 12 block ++ count = ap (λ xs. take 12 block ++ (count ++ xs)) none ∙ ap (λ xs. take 12 block ++ xs) (append-nil count) in
    whole ∙ (ap (λ xs. take 12 block ++ xs) made ∙ ap (λ n. take n block ++ to_be_bytes w32 ((from_be_bytes w32 (drop n block) + i) % 4294967296)) at)
