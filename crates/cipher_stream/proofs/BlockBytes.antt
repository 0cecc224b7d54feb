-- The bytes of joined blocks.
use Rattle.std.proofs.Common.{◌≡◌, ℕ, ◌+◌, ◌-◌, ◌*◌, ◌/◌, ◌%◌, ◌≤◌, ◌<◌, List, [], get_or, length, ap, subst, sym, ◌∙◌, refl, arith, bit_xor, add-zero, Option, Some, None}
use Rattle.std.proofs.lemmas.List.FromFn.{get_or-map-range_with_len}
use Rattle.std.proofs.Math.Nat.{mul-add-div_right, mul-add-mod_self_right, mod-eq_of_lt, div-eq_of_lt, div-mul-le_self, mod-add-div', lt_of_mul-lt-mul_right, add-mul-mod_self_right, mul-le-mul_right}
use Rattle.cipher.specs.Transcript.{Block}
use Rattle.cipher_stream.specs.Keystream.{Keystream, stream_of, next, bytes_of, joined, applied, IsMoved, Spends}
use Rattle.cipher_stream.proofs.Applied.{applied-same}
use Rattle.cipher_stream.proofs.Streams.{stream_moved}

-- byte j of block i
pub div_in : (size i j : ℕ) → j < size → (i * size + j) / size ≡ i
div_in size i j h =
    let some : 0 < size = omega arith in
    mul-add-div_right some i j ∙ (ap (λ n. i + n) (div-eq_of_lt h) ∙ add-zero i)

pub mod_in : (size i j : ℕ) → j < size → (i * size + j) % size ≡ j
mod_in size i j h = mul-add-mod_self_right i size j ∙ mod-eq_of_lt h

pub joined_in : (size : ℕ) (bs : List Block) (i j : ℕ) → j < size → joined size bs (i * size + j) ≡ get_or (get_or bs i []) j 0
joined_in size bs i j h = ap (λ n. get_or (get_or bs n []) ((i * size + j) % size) 0) (div_in size i j h) ∙ ap (λ n. get_or (get_or bs i []) n 0) (mod_in size i j h)

pub bytes_in : (size : ℕ) (k : Keystream) (i j : ℕ) → j < size → bytes_of size k (i * size + j) ≡ get_or (stream_of k i) j 0
bytes_in size k i j h = ap (λ n. get_or (stream_of k n) ((i * size + j) % size) 0) (div_in size i j h) ∙ ap (λ n. get_or (stream_of k i) n 0) (mod_in size i j h)

-- fewer than a block
pub applied_first : (size : ℕ) (k : Keystream) (key xs : List ℕ) → length xs ≤ size → key ≡ stream_of k 0 → applied bit_xor (λ j. get_or key j 0) xs ≡ applied bit_xor (bytes_of size k) xs
applied_first size k key xs h e =
    applied-same bit_xor (λ j. get_or key j 0) (bytes_of size k) xs (λ j l.
    let within : j < size = omega arith in
    let z : 0 * size + j ≡ j = omega arith in
    ap (λ b. get_or b j 0) e ∙ (sym (bytes_in size k 0 j within) ∙ ap (bytes_of size k) z))

below : (size n j : ℕ) → 0 < size → j < n * size → j / size < n
below size n j some h =
    let le : j / size * size ≤ j = div-mul-le_self j size in
    let lt : j / size * size < n * size = omega arith in
    lt_of_mul-lt-mul_right size lt

-- n blocks
pub applied_next_blocks : (size n : ℕ) (k : Keystream) (xs : List ℕ) → 0 < size → length xs ≡ n * size → applied bit_xor (joined size (next n k)) xs ≡ applied bit_xor (bytes_of size k) xs
applied_next_blocks size n k xs some e =
    applied-same bit_xor (joined size (next n k)) (bytes_of size k) xs (λ j l.
    let within : j / size < n = below size n j some (omega arith) in
    ap (λ b. get_or b (j % size) 0) (get_or-map-range_with_len (stream_of k) 0 n (j / size) (j / size) [] within (omega arith)))

-- after whole blocks the bytes go on
pub bytes_moved : (size : ℕ) (k k' : Keystream) (n j : ℕ) → 0 < size → IsMoved k n k' → bytes_of size k' j ≡ bytes_of size k (n * size + j)
bytes_moved size k k' n j some m =
    let d : (n * size + j) / size ≡ n + j / size = mul-add-div_right some n j in
    let r : (n * size + j) % size ≡ j % size = mul-add-mod_self_right n size j in
    ap (λ b. get_or b (j % size) 0) (stream_moved k k' n (j / size) m) ∙ (ap (λ n. get_or (stream_of k n) (j % size) 0) (sym d) ∙ ap (λ i. get_or (stream_of k ((n * size + j) / size)) i 0) (sym r))

-- a place of whole blocks
pub whole_place : (size a : ℕ) → a % size ≡ 0 → a / size * size ≡ a
whole_place size a h = let e = mod-add-div' a size in omega arith

pub whole_more : (size a n : ℕ) → 0 < size → a % size ≡ 0 → n % size ≡ 0 → (a + n) / size ≡ a / size + n / size
whole_more size a n some h l =
    let e : a / size * size ≡ a = whole_place size a h in
    let p : a + n ≡ a / size * size + n = omega arith in
    ap (λ x. x / size) p ∙ mul-add-div_right some (a / size) n

pub whole_both : (size a n : ℕ) → a % size ≡ 0 → n % size ≡ 0 → (a + n) % size ≡ 0
whole_both size a n h l =
    let e : a / size * size ≡ a = whole_place size a h in
    let p : a + n ≡ a / size * size + n = omega arith in
    ap (λ x. x % size) p ∙ (mul-add-mod_self_right (a / size) size n ∙ l)

pub spends_both : (r r' r'' : Option ℕ) (m n : ℕ) → Spends r m r' → Spends r' n r'' → Spends r (m + n) r''
spends_both None r' r'' m n h j = subst (λ x. Spends x n r'') h j
spends_both (Some a) r' r'' m n h j = λ le.
    let e : r' ≡ Some (a - m) = h (omega arith) in
    let s : Spends (Some (a - m)) n r'' = subst (λ x. Spends x n r'') e j in
    s (omega arith) ∙ ap Some (let d : a - m - n ≡ a - (m + n) = omega arith in d)

pub spends_none : (r : Option ℕ) → Spends r 0 r
spends_none None = refl
spends_none (Some a) = λ _. let e : a ≡ a - 0 = omega arith in ap Some e

pub none_whole : (size : ℕ) → 0 < size → 0 ≡ 0 / size
none_whole size some = sym (div-eq_of_lt some)

-- block i of n is within the bytes
pub block_within : (i n size all : ℕ) → i < n → all ≡ n * size → i * size + size ≤ all
block_within i n size all h e =
    let m : (i + 1) * size ≤ n * size = mul-le-mul_right size (omega arith) in
    let s : (i + 1) * size ≡ i * size + size = omega arith in
    omega arith

-- what is left of whole blocks after whole blocks
pub left_whole : (size a at : ℕ) → a % size ≡ 0 → at % size ≡ 0 → at ≤ a → (a - at) % size ≡ 0
left_whole size a at h l le =
    let e : at / size * size ≡ at = whole_place size at l in
    let p : a - at + at / size * size ≡ a = omega arith in
    sym (add-mul-mod_self_right (a - at) (at / size) size) ∙ (ap (λ n. n % size) p ∙ h)
