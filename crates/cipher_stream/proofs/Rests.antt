-- What is applied of a buffered rest, of whole blocks, and of the block behind them.
use Rattle.std.proofs.Common.{◌≡◌, ℕ, zero, suc, ◌+◌, ◌-◌, ◌*◌, ◌/◌, ◌%◌, ◌≤◌, ◌<◌, List, ◌∷◌, ◌++◌, map, take, drop, replicate, get_or, length, ap, subst, sym, ◌∙◌, refl, arith, inl, inr, add-zero, bit_xor, Option, Some, None}
use Rattle.std.proofs.Math.Nat.{mod-mod, le_of_mul-le-mul_right, add-mul, div-mul-le_self}
use Rattle.std.specs.Prelude.{◌↔◌, ⊤, slice_index}
use Rattle.std.proofs.lemmas.Bool.{cases_lt}
use Rattle.std.proofs.lemmas.Nat.{mul-add-lt}
use Rattle.std.proofs.lemmas.List.{length-take-le}
use Rattle.std.specs.List.{range_with_len}
use Rattle.std.specs.Int.Bits.{xor_zero_l}
use borrow.Rule.Slice.PartMut.{put_mid}
use Rattle.cipher_stream.specs.Keystream.{Keystream, applied, bytes_of, stream_of, IsMoved, Spends}
use Rattle.cipher_stream.specs.ByteStream.{ByteStream, to_come, bytes_from, IsAt, IsSame, HasMoved, HoldsLastBlock, IsRest, IsFewer, LeavesRoom, HasRoom}
use Rattle.cipher_stream.proofs.Streams.{mod_step}
use Rattle.cipher_stream.proofs.Applied.{applied-same, applied_next, applied_all, length_so_far}
use Rattle.cipher_stream.proofs.Places.{moved_at, at_fresh, at_rest, at_taken, at_blocks, fresh_bytes, rest_bytes}

pub applied_rest : (size : ℕ) (k : Keystream) (buffer xs : List ℕ) (used r : ℕ) → IsRest size k buffer used → used ≤ size → r ≡ size - used → length xs ≤ r
    → applied bit_xor (λ j. get_or buffer (used + j) 0) xs ≡ applied bit_xor (to_come (bytes_from size k r)) xs
applied_rest size k buffer xs used r b h e size_xs =
    applied-same bit_xor (λ j. get_or buffer (used + j) 0) (to_come (bytes_from size k r)) xs (λ j l.
    let within : used + j < size = omega arith in
    let some : used < size = omega arith in
    rest_bytes size k buffer used r j (b some) h e within)

abbrev later : (size : ℕ) (k : Keystream) (buffer : List ℕ) (used n : ℕ) → HoldsLastBlock size k buffer used → HoldsLastBlock size k buffer (used + n)
later size k buffer used n b = record { block = b.block; own = b.own; next = b.next; same = λ j le lt. b.same j (omega arith) lt }

pub moved_none : (size : ℕ) (k : Keystream) → 0 < size → HasMoved (bytes_from size k 0) 0 (bytes_from size k 0)
moved_none size k some =
    moved_at size k k 0 0 (k.position * size) 0 some (λ i. refl) refl (at_fresh size k) (let e : k.position * size + 0 ≡ k.position * size = omega arith in ap (λ n. (n + 0) % (k.period * size)) e ∙ at_fresh size k)

pub moved_rest : (size : ℕ) (k : Keystream) (buffer : List ℕ) (used r n : ℕ) → 0 < size → IsRest size k buffer used → used ≤ size → r ≡ size - used → n ≤ r
    → HasMoved (bytes_from size k r) n (bytes_from size k (size - (used + n)))
moved_rest size k buffer used r n some b h e le =
    elim (cases_lt used size) [
      | inl lt ↦
          let before = b lt in
          let within : used + n ≤ size = omega arith in
          let a : before.block * size + (used + n) ≡ before.block * size + used + n = omega arith in
          moved_at size k k r (size - (used + n)) (before.block * size + used) n some (λ i. refl) refl (at_rest size k buffer used r before h e)
          (subst (IsAt (bytes_from size k (size - (used + n)))) a (at_rest size k buffer (used + n) (size - (used + n)) (later size k buffer used n before) within refl))
      | inr ge ↦
          let z : r ≡ 0 = omega arith in
          let none : n ≡ 0 = omega arith in
          let y : size - (used + n) ≡ 0 = omega arith in
          subst (λ x. HasMoved (bytes_from size k x) n (bytes_from size k (size - (used + n)))) (sym z)
          (subst (λ x. HasMoved (bytes_from size k 0) x (bytes_from size k (size - (used + n)))) (sym none)
          (subst (λ x. HasMoved (bytes_from size k 0) 0 (bytes_from size k x)) (sym y) (moved_none size k some)))
    ]

pub applied_fresh : (size : ℕ) (k : Keystream) (xs : List ℕ) → 0 < size → applied bit_xor (bytes_of size k) xs ≡ applied bit_xor (to_come (bytes_from size k 0)) xs
applied_fresh size k xs some = applied-same bit_xor (bytes_of size k) (to_come (bytes_from size k 0)) xs (λ j _. sym (fresh_bytes size k j some))

pub moved_blocks : (size : ℕ) (k k' : Keystream) (n : ℕ) → 0 < size → IsMoved k n k' → HasMoved (bytes_from size k 0) (n * size) (bytes_from size k' 0)
moved_blocks size k k' n some m = moved_at size k k' 0 0 (k.position * size) (n * size) some m.same_blocks m.same_period (at_fresh size k) (at_blocks size k k' n m)

pub moved_last : (size : ℕ) (k k' : Keystream) (n : ℕ) → 0 < size → IsMoved k 1 k' → n ≤ size → HasMoved (bytes_from size k 0) n (bytes_from size k' (size - n))
moved_last size k k' n some m h = moved_at size k k' 0 (size - n) (k.position * size) n some m.same_blocks m.same_period (at_fresh size k) (at_taken size k k' n m h)

-- a move by the whole blocks of these bytes
pub moved_whole : (s t : ByteStream) (size : ℕ) (xs : List ℕ) → HasMoved s (length (take (length xs / size * size) xs)) t → HasMoved s (length xs / size * size) t
moved_whole s t size xs moved =
    let le : length xs / size * size ≤ length xs = div-mul-le_self (length xs) size in
    subst (λ m. HasMoved s m t) (length-take-le (length xs / size * size) xs le) moved

-- a block that was just taken is the one before the position
pub rest_of_block : (size : ℕ) (k k' : Keystream) (block : List ℕ) (used : ℕ) → block ≡ stream_of k 0 → IsMoved k 1 k' → IsRest size k' block used
rest_of_block size k k' block used e m = λ _.
    let p : ℕ = k'.period in
    let q : ℕ = k.position % k.period in
    let same : k.position % k.period ≡ k.position % p = ap (λ n. k.position % n) (sym m.same_period) in
    let at : (k.position + 0) % k.period ≡ q = ap (λ n. n % k.period) (add-zero k.position) in
    record {
      block = q;
      own = ap (λ n. n % p) same ∙ (mod-mod k.position p ∙ sym same);
      next = ap (λ n. (n + 1) % p) same ∙ (mod_step (k.position % p) k.position p 1 (mod-mod k.position p) ∙ (ap (λ n. (k.position + 1) % n) m.same_period ∙ (sym m.moved ∙ ap (λ n. k'.position % n) (sym m.same_period))));
      same = λ j _ _. ap (λ b. get_or b j 0) (e ∙ (ap k.block_at at ∙ sym (m.same_blocks q)));
    }

pub leaves_both : (size : ℕ) (r r' r'' : Option ℕ) (t t' t'' m n : ℕ) → IsFewer size r t m r' t' → IsFewer size r' t' n r'' t'' → IsFewer size r t (m + n) r'' t''
leaves_both size None r' r'' t t' t'' m n h j = subst (λ x. IsFewer size x t' n r'' t'') h j
leaves_both size (Some a) r' r'' t t' t'' m n h j = λ le.
    let one = h (omega arith) in
    let second : IsFewer size (Some one.0) t' n r'' t'' = subst (λ x. IsFewer size x t' n r'' t'') one.1 j in
    let two = second (omega (arith, one.2)) in
    (two.0, two.1, omega (arith, one.2, two.2))

-- whole blocks with no rest, and a last block in part
pub leaves_blocks : (size : ℕ) (r r' : Option ℕ) (n : ℕ) → 0 < size → Spends r n r' → IsFewer size r 0 (n * size) r' 0
leaves_blocks size None r' n some h = h
leaves_blocks size (Some a) r' n some h = λ le.
    let within : n ≤ a = le_of_mul-le-mul_right (omega arith) some in
    let e : a - n + n ≡ a = omega arith in
    let m : (a - n) * size + n * size ≡ a * size = sym (add-mul (a - n) n size) ∙ ap (λ x. x * size) e in
    (a - n, h within, omega (arith, m))

pub leaves_last : (size : ℕ) (r r' : Option ℕ) (n : ℕ) → 0 < size → 0 < n → n ≤ size → Spends r 1 r' → IsFewer size r 0 n r' (size - n)
leaves_last size None r' n some used h s = s
leaves_last size (Some zero) r' n some used h s = λ le. absurd (omega arith)
leaves_last size (Some (suc a)) r' n some used h s = λ le.
    let one : 1 ≤ suc a = omega arith in
    let e : suc a - 1 ≡ a = omega arith in
    let m : suc a * size ≡ a * size + size = omega arith in
    (a, s one ∙ ap Some e, omega (arith, m))

-- so many fewer bytes have room
pub leaves_room : (size : ℕ) (r r' : Option ℕ) (t t' n : ℕ) → HasRoom size r t n → IsFewer size r t n r' t' → LeavesRoom (HasRoom size r t) n (HasRoom size r' t')
leaves_room size None r' t t' n has h m = subst (λ x. HasRoom size x t' m ↔ ⊤) (sym h) ((λ _. tt), (λ _. tt))
leaves_room size (Some a) r' t t' n has h m =
    let one = h has in
    subst (λ x. HasRoom size x t' m ↔ (n + m ≤ t + a * size)) (sym one.1) ((λ le. omega (arith, one.2)), (λ le. omega (arith, one.2)))

-- what holds of the fields where there is no rest, of the value
pub opened : {T : Type 0} (P : T → ℕ → Type 0) (core : T) (rest : ℕ) (v : T × ℕ) → (core, rest) ≡ v → v.1 ≡ 0 → P core 0 → P v.0 v.1
opened P core rest v e z x = subst (λ w. P w.0 w.1) e (subst (λ r. P core r) (sym (ap (λ w. w.1) e ∙ z)) x)

-- one part and then the rest
pub applied_then : (s t : ℕ → ℕ) (old cur ys : List ℕ) (a j : ℕ) → a ≤ length old → cur ≡ applied bit_xor s (take a old) ++ drop a old → j ≡ length cur - a → ((i : ℕ) → t i ≡ s (a + i))
    → ys ≡ applied bit_xor t (take j (drop a cur)) → put_mid a j cur ys ≡ applied bit_xor s old
applied_then s t old cur ys a j h e q ahead w =
    let size : length cur ≡ length old = length_so_far bit_xor s old cur a e in
    let k : ℕ = length old - a in
    applied_all bit_xor s old (put_mid a j cur ys) (a + k) (omega arith) (applied_next bit_xor s t old cur ys a k j (omega arith) (omega arith) e (λ i _. ahead i) w)

-- zeros xor a stream
zeros_range : (s : ℕ → ℕ) (a n : ℕ) → applied bit_xor (λ j. s (a + j)) (replicate n 0) ≡ map s (range_with_len a n)
zeros_range s a zero = refl
zeros_range s a (suc n) =
    ap (λ x. x ∷ applied bit_xor (λ j. s (a + (1 + j))) (replicate n 0)) (xor_zero_l (s (a + 0)) ∙ ap s (add-zero a))
    ∙ ap (λ l. s a ∷ l) (applied-same bit_xor (λ j. s (a + (1 + j))) (λ j. s (a + 1 + j)) (replicate n 0) (λ j _. let e : a + (1 + j) ≡ a + 1 + j = omega arith in ap s e) ∙ zeros_range s (a + 1) n)

pub zeros_xored : (s : ℕ → ℕ) (xs : List ℕ) (n : ℕ) → xs ≡ replicate n 0 → applied bit_xor s xs ≡ map s (range_with_len 0 n)
zeros_xored s xs n e =
    ap (applied bit_xor s) e ∙ (applied-same bit_xor s (λ j. s (0 + j)) (replicate n 0) (λ j _. let z : j ≡ 0 + j = omega arith in ap s z) ∙ zeros_range s 0 n)

pub one_fits : (B : ℕ) → (1 ≤ B) × (B < 256) → B * 1 < 9223372036854775808
one_fits B h = omega arith

-- the same blocks make the same bytes
pub same_stream : (size : ℕ) (k k' : Keystream) (r r' : ℕ) → ((i : ℕ) → k'.block_at i ≡ k.block_at i) → k'.period ≡ k.period → IsSame (bytes_from size k r) (bytes_from size k' r')
same_stream size k k' r r' blocks period =
    record {
      same_bytes = λ i. ap (λ p. slice_index (k'.block_at ((i / size) % p)) (i % size)) period ∙ ap (λ b. slice_index b (i % size)) (blocks ((i / size) % k.period));
      same_period = ap (λ p. p * size) period;
    }

-- a place within the period, in bytes
pub within_turn : (p period most size : ℕ) → p ≤ most → period ≡ most + 1 → 1 ≤ size → p * size < period * size
within_turn p period most size at turn some = let less : p * size + 0 < size * period = mul-add-lt p size 0 period (omega arith) (omega arith) in grind arith
