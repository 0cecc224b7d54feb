-- Counter blocks: their lengths, and counting in two parts.
use Rattle.std.proofs.Common.{◌≡◌, ◌≤◌, ◌+◌, ◌-◌, ◌*◌, ◌/◌, ◌%◌, ◌^◌, ℕ, zero, suc, List, ◌++◌, length, take, drop, ap, ap₂, sym, ◌∙◌, arith, length-append, append-nil, append_assoc}
use Rattle.std.proofs.lemmas.List.{drop_at, length-drop, length-take-le, take_at}
use Rattle.std.proofs.lemmas.Nat.{pow_pos}
use Rattle.std.proofs.Math.Nat.{mod-add-mod, mod-lt}
use Rattle.std.specs.Int.{Width, byte_len, from_be_bytes, from_le_bytes, to_be_bytes, to_le_bytes}
use Rattle.standards.specs.Counter.{ctr, keystream, plus_be, plus_le}
use Rattle.standards.specs.Lists.{xor_bytes}
use Rattle.standards.proofs.ListFacts.{xor_bytes-append}
use Rattle.standards.proofs.Keystream.{length-keystream}
use Rattle.standards.proofs.ByteOrder.{from_be_bytes-to_be_bytes, from_le_bytes-to_le_bytes, length-to_be_bytes, length-to_le_bytes}

-- counting keeps the length of a block that has room for the counter
pub length-plus_be : (w : Width) (b : List ℕ) (i : ℕ) → byte_len w ≤ length b → length (plus_be w b i) ≡ length b
length-plus_be w b i h =
    let at = length b - byte_len w in
    let n = (from_be_bytes w (drop at b) + i) % 2 ^ (8 * byte_len w) in
    omega (arith, length-append (take at b) (to_be_bytes w n), length-take-le at b (omega arith), length-to_be_bytes w n)

-- likewise low byte first
pub length-plus_le : (w : Width) (b : List ℕ) (i : ℕ) → byte_len w ≤ length b → length (plus_le w b i) ≡ length b
length-plus_le w b i h =
    let n = (from_le_bytes w (take (byte_len w) b) + i) % 2 ^ (8 * byte_len w) in
    omega (arith, length-append (to_le_bytes w n) (drop (byte_len w) b), length-drop (byte_len w) b, length-to_le_bytes w n)

added : (v m n size : ℕ) → ((v + m) % size + n) % size ≡ (v + (m + n)) % size
added v m n size = let e : v + m + n ≡ v + (m + n) = omega arith in mod-add-mod (v + m) size n ∙ ap (λ k. k % size) e

-- counting in two parts
pub plus_be-plus_be : (w : Width) (b : List ℕ) (m n : ℕ) → byte_len w ≤ length b → plus_be w (plus_be w b m) n ≡ plus_be w b (m + n)
plus_be-plus_be w b m n h =
    let size = 2 ^ (8 * byte_len w) in
    let at = length b - byte_len w in
    let k = (from_be_bytes w (drop at b) + m) % size in
    let front : length (take at b) ≡ at = length-take-le at b (omega arith) in
    let fits = mod-lt (from_be_bytes w (drop at b) + m) (pow_pos (8 * byte_len w)) in
    let c = plus_be w b m in
    ap (λ j. take (j - byte_len w) c ++ to_be_bytes w ((from_be_bytes w (drop (j - byte_len w) c) + n) % size)) (length-plus_be w b m h)
    ∙ ap₂ (λ xs v. xs ++ to_be_bytes w ((v + n) % size)) (take_at (take at b) (to_be_bytes w k) at front)
    (ap (from_be_bytes w) (drop_at (take at b) (to_be_bytes w k) at front) ∙ from_be_bytes-to_be_bytes w k fits)
    ∙ ap (λ v. take at b ++ to_be_bytes w v) (added (from_be_bytes w (drop at b)) m n size)

-- likewise low byte first
pub plus_le-plus_le : (w : Width) (b : List ℕ) (m n : ℕ) → plus_le w (plus_le w b m) n ≡ plus_le w b (m + n)
plus_le-plus_le w b m n =
    let size = 2 ^ (8 * byte_len w) in
    let k = (from_le_bytes w (take (byte_len w) b) + m) % size in
    let rest = drop (byte_len w) b in
    let fits = mod-lt (from_le_bytes w (take (byte_len w) b) + m) (pow_pos (8 * byte_len w)) in
    ap₂ (λ v xs. to_le_bytes w ((v + n) % size) ++ xs)
    (ap (from_le_bytes w) (take_at (to_le_bytes w k) rest (byte_len w) (length-to_le_bytes w k)) ∙ from_le_bytes-to_le_bytes w k fits)
    (drop_at (to_le_bytes w k) rest (byte_len w) (length-to_le_bytes w k))
    ∙ ap (λ v. to_le_bytes w v ++ rest) (added (from_le_bytes w (take (byte_len w) b)) m n size)

-- m and n blocks of keystream are m blocks, and n from the block m on
pub keystream-add : (E : List ℕ → List ℕ) (plus : List ℕ → ℕ → List ℕ) (b : List ℕ) (m n : ℕ) → ((i : ℕ) → plus (plus b m) i ≡ plus b (m + i))
    → keystream E plus b (m + n) ≡ keystream E plus b m ++ keystream E plus (plus b m) n
unfolding keystream
keystream-add E plus b m zero on =
    let e : m + 0 ≡ m = omega arith in
    ap (keystream E plus b) e ∙ sym (append-nil (keystream E plus b m))
keystream-add E plus b m (suc n) on =
    let e : m + suc n ≡ suc (m + n) = omega arith in
    ap (keystream E plus b) e
    ∙ ap₂ (λ xs c. xs ++ E c) (keystream-add E plus b m n on) (sym (on n))
    ∙ append_assoc (keystream E plus b m) (keystream E plus (plus b m) n) (E (plus (plus b m) n))

-- a text whose front is m whole blocks: the front, and the rest from the block m on
pub ctr-append : (E : List ℕ → List ℕ) (plus : List ℕ → ℕ → List ℕ) (b xs ys : List ℕ) (m : ℕ) → length xs ≡ 16 * m → ((i : ℕ) → length (E (plus b i)) ≡ 16) → ((i : ℕ) → plus (plus b m) i ≡ plus b (m + i))
    → ctr E plus b (xs ++ ys) ≡ ctr E plus b xs ++ ctr E plus (plus b m) ys
unfolding ctr
ctr-append E plus b xs ys m e size on =
    let n = (length ys + 15) / 16 in
    let all : (length (xs ++ ys) + 15) / 16 ≡ m + n = omega (arith, e, length-append xs ys) in
    let some : m ≡ (length xs + 15) / 16 = omega (arith, e) in
    ap (λ k. xor_bytes (xs ++ ys) (keystream E plus b k)) all
    ∙ ap (xor_bytes (xs ++ ys)) (keystream-add E plus b m n on)
    ∙ xor_bytes-append xs ys (keystream E plus b m) (keystream E plus (plus b m) n) (e ∙ sym (length-keystream E plus b m size))
    ∙ ap (λ k. xor_bytes xs (keystream E plus b k) ++ xor_bytes ys (keystream E plus (plus b m) n)) some
