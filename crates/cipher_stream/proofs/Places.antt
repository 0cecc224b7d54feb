-- Places in a keystream that repeats, and how a position moves.
use Rattle.std.proofs.Common.{◌≡◌, ℕ, zero, suc, ◌+◌, ◌-◌, ◌*◌, ◌/◌, ◌%◌, ◌≤◌, ◌<◌, List, get_or, ap, subst, sym, ◌∙◌, arith, add-zero}
use Rattle.std.proofs.Math.Nat.{mod-zero, add-mul-mod_self_right, add-mul-div_right, mod-add-div', mul-add-div_right, mul-add-mod_self_right, div-eq_of_lt, mod-eq_of_lt}
use Rattle.cipher_stream.specs.Keystream.{Keystream, stream_of, bytes_of, IsMoved}
use Rattle.cipher_stream.specs.ByteStream.{ByteStream, to_come, bytes_from, IsAt, HasMoved, HoldsLastBlock}
use Rattle.cipher_stream.proofs.Streams.{mod_step}

-- numbers that agree with c added agree
pub mod_cancel : (p x y c : ℕ) → (x + c) % p ≡ (y + c) % p → x % p ≡ y % p
mod_cancel zero x y c e =
    let f : x + c ≡ y + c = sym (mod-zero (x + c)) ∙ (e ∙ mod-zero (y + c)) in
    let g : x ≡ y = omega arith in
    ap (λ n. n % 0) g
mod_cancel (suc p) x y c e =
    let s : (x + c + c * p) % suc p ≡ (y + c + c * p) % suc p = mod_step (x + c) (y + c) (suc p) (c * p) e in
    let a : x + c + c * p ≡ x + c * suc p = omega arith in
    let b : y + c + c * p ≡ y + c * suc p = omega arith in
    sym (add-mul-mod_self_right x c (suc p)) ∙ (ap (λ n. n % suc p) (sym a) ∙ (s ∙ (ap (λ n. n % suc p) b ∙ add-mul-mod_self_right y c (suc p))))

-- blocks that agree have places that do
pub mod_blocks : (p x y size : ℕ) → x % p ≡ y % p → x * size % (p * size) ≡ y * size % (p * size)
mod_blocks p x y size e = apart x ∙ (ap (λ n. n * size % (p * size)) e ∙ sym (apart y)) where
  apart : (n : ℕ) → n * size % (p * size) ≡ n % p * size % (p * size)
  apart n =
      let d : n % p + n / p * p ≡ n = mod-add-div' n p in
      let m : n * size ≡ n % p * size + n / p * (p * size) = ap (λ k. k * size) (sym d) ∙ omega arith in
      ap (λ k. k % (p * size)) m ∙ add-mul-mod_self_right (n % p * size) (n / p) (p * size)

-- and places that agree are in blocks that do, at one byte
block_of : (p x size : ℕ) → 0 < size → x / size % p ≡ x % (p * size) / size % p
block_of p x size some =
    let r : ℕ = x % (p * size) in
    let q : ℕ = x / (p * size) in
    let d : r + q * (p * size) ≡ x = mod-add-div' x (p * size) in
    let e : x ≡ r + q * p * size = sym d ∙ omega arith in
    ap (λ n. n / size % p) e ∙ (ap (λ n. n % p) (add-mul-div_right r (q * p) some) ∙ add-mul-mod_self_right (r / size) q p)

byte_of : (p x size : ℕ) → x % size ≡ x % (p * size) % size
byte_of p x size =
    let r : ℕ = x % (p * size) in
    let q : ℕ = x / (p * size) in
    let d : r + q * (p * size) ≡ x = mod-add-div' x (p * size) in
    let e : x ≡ r + q * p * size = sym d ∙ omega arith in
    ap (λ n. n % size) e ∙ add-mul-mod_self_right r (q * p) size

pub same_byte : (size : ℕ) (k : Keystream) (r x y : ℕ) → 0 < size → x % (k.period * size) ≡ y % (k.period * size) → (bytes_from size k r).byte_at x ≡ (bytes_from size k r).byte_at y
same_byte size k r x y some e =
    let b : x / size % k.period ≡ y / size % k.period = block_of k.period x size some ∙ (ap (λ n. n / size % k.period) e ∙ sym (block_of k.period y size some)) in
    let i : x % size ≡ y % size = byte_of k.period x size ∙ (ap (λ n. n % size) e ∙ sym (byte_of k.period y size)) in
    ap (λ n. get_or (k.block_at n) (x % size) 0) b ∙ ap (λ n. get_or (k.block_at (y / size % k.period)) n 0) i

-- the bytes to come are those from the position on
come_place : (p t r m j : ℕ) → (m + r) % p ≡ t % p → (t + p * r + j - r) % p ≡ (m + j) % p
come_place zero t r m j e =
    let f : m + r ≡ t = sym (mod-zero (m + r)) ∙ (e ∙ mod-zero t) in
    let z : 0 * r ≡ 0 = omega arith in
    let g : t + 0 * r + j - r ≡ m + j = omega arith in
    ap (λ n. n % 0) g
come_place (suc p) t r m j e =
    let w : suc p * r ≡ p * r + r = omega arith in
    let g : t + suc p * r + j - r + r ≡ t + j + r * suc p = omega arith in
    let h : m + j + r ≡ m + r + j = omega arith in
    mod_cancel (suc p) (t + suc p * r + j - r) (m + j) r
    (ap (λ n. n % suc p) g ∙ (add-mul-mod_self_right (t + j) r (suc p) ∙ (sym (mod_step (m + r) t (suc p) j e) ∙ ap (λ n. n % suc p) (sym h))))

pub come_at : (size : ℕ) (k : Keystream) (r m j : ℕ) → 0 < size → IsAt (bytes_from size k r) m → to_come (bytes_from size k r) j ≡ (bytes_from size k r).byte_at (m + j)
come_at size k r m j some h =
    let p : ℕ = k.period * size in
    let t : ℕ = k.position * size in
    same_byte size k r (t + p * r + j - r) (m + j) some (come_place p t r m j h)

-- a position that moves
pub moved_at : (size : ℕ) (k k' : Keystream) (r r' m n : ℕ) → 0 < size → ((i : ℕ) → k'.block_at i ≡ k.block_at i) → k'.period ≡ k.period
    → IsAt (bytes_from size k r) m → IsAt (bytes_from size k' r') (m + n) → HasMoved (bytes_from size k r) n (bytes_from size k' r')
moved_at size k k' r r' m n some blocks period before after =
    let p : ℕ = k.period * size in
    let t : ℕ = k.position * size in
    let t' : ℕ = k'.position * size in
    let same : (i : ℕ) → (bytes_from size k' r').byte_at i ≡ (bytes_from size k r).byte_at i = λ i.
    ap (λ b. get_or b (i % size) 0) (blocks (i / size % k'.period) ∙ ap (λ q. k.block_at (i / size % q)) period) in
    let after' : (m + n + r') % p ≡ t' % p = subst (λ q. (m + n + r') % (q * size) ≡ t' % (q * size)) period after in
    let a : m + n + r' + r ≡ m + r + (n + r') = omega arith in
    let b : t + (n + r') ≡ t + n + r' = omega arith in
    record {
      same = record { same_bytes = same; same_period = ap (λ q. q * size) period };
      ahead = λ j.
          let e : m + n + j ≡ m + (n + j) = omega arith in
          come_at size k' r' (m + n) j some after ∙ (same (m + n + j) ∙ (ap (λ i. (bytes_from size k r).byte_at i) e ∙ sym (come_at size k r m (n + j) some before)));
      moved = sym (mod_step (m + n + r') t' p r after') ∙ (ap (λ i. i % p) a ∙ (mod_step (m + r) t p (n + r') before ∙ ap (λ i. i % p) b));
    }

-- where a cipher with no rest is, and one with a rest
pub at_fresh : (size : ℕ) (k : Keystream) → IsAt (bytes_from size k 0) (k.position * size)
at_fresh size k = ap (λ n. n % (k.period * size)) (add-zero (k.position * size))

pub at_rest : (size : ℕ) (k : Keystream) (buffer : List ℕ) (used r : ℕ) → (b : HoldsLastBlock size k buffer used) → used ≤ size → r ≡ size - used → IsAt (bytes_from size k r) (b.block * size + used)
at_rest size k buffer used r b h e =
    let s : b.block * size + used + r ≡ (b.block + 1) * size = omega arith in
    ap (λ n. n % (k.period * size)) s ∙ mod_blocks k.period (b.block + 1) k.position size b.next

-- a block that was just taken, of which n bytes are used
pub at_taken : (size : ℕ) (k k' : Keystream) (n : ℕ) → IsMoved k 1 k' → n ≤ size → IsAt (bytes_from size k' (size - n)) (k.position * size + n)
at_taken size k k' n m h =
    let s : k.position * size + n + (size - n) ≡ (k.position + 1) * size = omega arith in
    let e : (k.position + 1) % k'.period ≡ k'.position % k'.period = subst (λ q. (k.position + 1) % q ≡ k'.position % q) (sym m.same_period) (sym m.moved) in
    ap (λ i. i % (k'.period * size)) s ∙ mod_blocks k'.period (k.position + 1) k'.position size e

-- n blocks with no rest
pub at_blocks : (size : ℕ) (k k' : Keystream) (n : ℕ) → IsMoved k n k' → IsAt (bytes_from size k' 0) (k.position * size + n * size)
at_blocks size k k' n m =
    let s : k.position * size + n * size + 0 ≡ (k.position + n) * size = omega arith in
    let e : (k.position + n) % k'.period ≡ k'.position % k'.period = subst (λ q. (k.position + n) % q ≡ k'.position % q) (sym m.same_period) (sym m.moved) in
    ap (λ i. i % (k'.period * size)) s ∙ mod_blocks k'.period (k.position + n) k'.position size e

-- the bytes of a core with no rest
pub fresh_bytes : (size : ℕ) (k : Keystream) (j : ℕ) → 0 < size → to_come (bytes_from size k 0) j ≡ bytes_of size k j
fresh_bytes size k j some =
    let d : (k.position * size + j) / size ≡ k.position + j / size = mul-add-div_right some k.position j in
    let r : (k.position * size + j) % size ≡ j % size = mul-add-mod_self_right k.position size j in
    come_at size k 0 (k.position * size) j some (at_fresh size k)
    ∙ (ap (λ n. get_or (k.block_at (n % k.period)) ((k.position * size + j) % size) 0) d ∙ ap (λ n. get_or (stream_of k (j / size)) n 0) r)

-- the bytes of a rest
pub rest_bytes : (size : ℕ) (k : Keystream) (buffer : List ℕ) (used r j : ℕ) → (b : HoldsLastBlock size k buffer used) → used ≤ size → r ≡ size - used → used + j < size → get_or buffer (used + j) 0 ≡ to_come (bytes_from size k r) j
rest_bytes size k buffer used r j b h e within =
    let some : 0 < size = omega arith in
    let m : b.block * size + used + j ≡ b.block * size + (used + j) = omega arith in
    let d : (b.block * size + (used + j)) / size ≡ b.block = mul-add-div_right some b.block (used + j) ∙ (ap (λ n. b.block + n) (div-eq_of_lt within) ∙ add-zero b.block) in
    let i : (b.block * size + (used + j)) % size ≡ used + j = mul-add-mod_self_right b.block size (used + j) ∙ mod-eq_of_lt within in
    let le : used ≤ used + j = omega arith in
    b.same (used + j) le within
    ∙ (ap (λ n. get_or (k.block_at n) (used + j) 0) (sym b.own)
    ∙ (ap (λ n. get_or (k.block_at (n % k.period)) (used + j) 0) (sym d)
    ∙ (ap (λ n. get_or (k.block_at ((b.block * size + (used + j)) / size % k.period)) n 0) (sym i)
    ∙ (ap (λ n. (bytes_from size k r).byte_at n) (sym m) ∙ sym (come_at size k r (b.block * size + used) j some (at_rest size k buffer used r b h e))))))

pub moved_both : (s s' s'' : ByteStream) (m n : ℕ) → HasMoved s m s' → HasMoved s' n s'' → HasMoved s (m + n) s''
moved_both s s' s'' m n h j =
    let p : ℕ = s.period in
    let second : (s''.taken + s'.rest) % p ≡ (s'.taken + n + s''.rest) % p = subst (λ q. (s''.taken + s'.rest) % q ≡ (s'.taken + n + s''.rest) % q) h.same.same_period j.moved in
    let a : s''.taken + s.rest + s'.rest ≡ s''.taken + s'.rest + s.rest = omega arith in
    let b : s'.taken + n + s''.rest + s.rest ≡ s'.taken + s.rest + (n + s''.rest) = omega arith in
    let c : s.taken + m + s'.rest + (n + s''.rest) ≡ s.taken + (m + n) + s''.rest + s'.rest = omega arith in
    record {
      same = record {
        same_bytes = λ i. j.same.same_bytes i ∙ h.same.same_bytes i;
        same_period = j.same.same_period ∙ h.same.same_period;
      };
      ahead = λ i. let e : m + (n + i) ≡ m + n + i = omega arith in j.ahead i ∙ (h.ahead (n + i) ∙ ap (to_come s) e);
      moved = mod_cancel p (s''.taken + s.rest) (s.taken + (m + n) + s''.rest) s'.rest
          (ap (λ i. i % p) a ∙ (mod_step (s''.taken + s'.rest) (s'.taken + n + s''.rest) p s.rest second ∙ (ap (λ i. i % p) b
          ∙ (mod_step (s'.taken + s.rest) (s.taken + m + s'.rest) p (n + s''.rest) h.moved ∙ ap (λ i. i % p) c))));
    }
