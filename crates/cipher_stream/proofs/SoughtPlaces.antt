-- The place that a seek leaves.
use Rattle.std.proofs.Common.{◌≡◌, ℕ, ◌+◌, ◌-◌, ◌*◌, ◌/◌, ◌%◌, ◌≤◌, ◌<◌, get_or, cond, Bool, true, false, ap, subst, sym, ◌∙◌, arith, inl, inr, add-zero, Option, Some, None}
use Rattle.std.proofs.Math.Nat.{mod-eq_of_lt, mod-add-div', mod-lt, mul-le-mul_right, mul-add-div_right, div-eq_of_lt}
use Rattle.std.specs.Prelude.{◌↔◌}
use Rattle.std.proofs.lemmas.Bool.{le-leb, cases_lt}
use Rattle.std.specs.Option.{option_map}
use Rattle.cipher_stream.specs.Keystream.{Keystream, IsMoved, IsPlaced}
use Rattle.cipher_stream.specs.ByteStream.{to_come, position, bytes_from, IsAt, AtMost, HasRoom, HasRoomAt, blocks_before, rest_at}
use Rattle.cipher_stream.proofs.Places.{come_at, at_fresh, at_taken}

-- after one block the next one is
next_is : (k k' : Keystream) (b most : ℕ) → k.position ≡ b → k.period ≡ most + 1 → IsMoved k 1 k' → k'.position ≤ most → b < most → k'.position ≡ b + 1
next_is k k' b most at turn m le lt =
    let one : (k.position + 1) % (most + 1) ≡ b + 1 = ap (λ n. (n + 1) % (most + 1)) at ∙ mod-eq_of_lt (omega arith) in
    let there : k'.position % (most + 1) ≡ k'.position = mod-eq_of_lt (omega arith) in
    let moved : k'.position % (most + 1) ≡ (k.position + 1) % (most + 1) = subst (λ p. k'.position % p ≡ (k.position + 1) % p) turn m.moved in
    sym there ∙ (moved ∙ one)

-- a block that was just taken, of which y bytes are used
pub placed_part : (size : ℕ) (k k' : Keystream) (b y most : ℕ) → k.position ≡ b → k.period ≡ most + 1 → IsMoved k 1 k' → k'.position ≤ most → b < most → y ≤ size
    → position (bytes_from size k' (size - y)) ≡ Some (b * size + y)
placed_part size k k' b y most at turn m le lt h =
    let taken : k'.position * size ≡ b * size + size = ap (λ n. n * size) (next_is k k' b most at turn m le lt) ∙ omega arith in
    let room : size - y ≤ k'.position * size = omega arith in
    let less : k'.position * size - (size - y) ≡ b * size + y = omega arith in
    ap (λ t. cond t (Some (k'.position * size - (size - y))) None) (le-leb (size - y) (k'.position * size) room) ∙ ap Some less

-- the blocks that the bytes before a place are in, inside a block and at its start
blocks_part : (size b y : ℕ) → 0 < y → y < size → blocks_before size (b * size + y) ≡ b + 1
blocks_part size b y some h =
    let e : b * size + y + size - 1 ≡ (b + 1) * size + (y - 1) = omega arith in
    ap (λ n. n / size) e ∙ (mul-add-div_right (omega arith) (b + 1) (y - 1) ∙ (ap (λ n. b + 1 + n) (div-eq_of_lt (omega arith)) ∙ add-zero (b + 1)))

blocks_whole : (size b y : ℕ) → 0 < size → y ≡ 0 → blocks_before size (b * size + y) ≡ b
blocks_whole size b y some first =
    let e : b * size + y + size - 1 ≡ b * size + (size - 1) = omega arith in
    ap (λ n. n / size) e ∙ (mul-add-div_right some b (size - 1) ∙ (ap (λ n. b + n) (div-eq_of_lt (omega arith)) ∙ add-zero b))

-- the bytes from there on
same_as : (size : ℕ) (k k' : Keystream) (r r' i : ℕ) → ((i : ℕ) → k'.block_at i ≡ k.block_at i) → k'.period ≡ k.period → (bytes_from size k' r').byte_at i ≡ (bytes_from size k r).byte_at i
same_as size k k' r r' i blocks period = ap (λ b. get_or b (i % size) 0) (blocks (i / size % k'.period) ∙ ap (λ p. k.block_at (i / size % p)) period)

pub ahead_part : (size : ℕ) (k k1 k2 : Keystream) (r b y : ℕ) → 0 < size → IsPlaced k b k1 → IsMoved k1 1 k2 → y ≤ size
    → (j : ℕ) → to_come (bytes_from size k2 (size - y)) j ≡ (bytes_from size k r).byte_at (b * size + y + j)
ahead_part size k k1 k2 r b y some p m h j =
    let at : IsAt (bytes_from size k2 (size - y)) (b * size + y) = subst (λ n. IsAt (bytes_from size k2 (size - y)) (n * size + y)) p.placed (at_taken size k1 k2 y m h) in
    come_at size k2 (size - y) (b * size + y) j some at
    ∙ same_as size k k2 r (size - y) (b * size + y + j) (λ i. m.same_blocks i ∙ p.same_blocks i) (m.same_period ∙ p.same_period)

pub ahead_whole : (size : ℕ) (k k1 : Keystream) (r r1 b y : ℕ) → 0 < size → IsPlaced k b k1 → r1 ≡ 0 → y ≡ 0 → (j : ℕ) → to_come (bytes_from size k1 r1) j ≡ (bytes_from size k r).byte_at (b * size + y + j)
ahead_whole size k k1 r r1 b y some p none first j =
    let place : k1.position * size ≡ b * size + y = ap (λ n. n * size) p.placed ∙ omega arith in
    let at : IsAt (bytes_from size k1 0) (b * size + y) = subst (IsAt (bytes_from size k1 0)) place (at_fresh size k1) in
    ap (λ x. to_come (bytes_from size k1 x) j) none ∙ (come_at size k1 0 (b * size + y) j some at ∙ same_as size k k1 r 0 (b * size + y + j) p.same_blocks p.same_period)

some_is : {x y : ℕ} → Some x ≡ Some y → x ≡ y
some_is e = ap (λ o. of_some o) e where
  of_some : Option ℕ → ℕ
  of_some None = 0
  of_some (Some n) = n

none_is : {y : ℕ} {A : Type 0} → let none : Option ℕ = None in none ≡ Some y → A
none_is {y} {A} e = absurd (subst told e tt) where
  told : Option ℕ → Type 0
  told None = Unit {0}
  told (Some n) = ⊥

-- quotient and remainder
pub place_joins : (p : Option ℕ) (size n b y : ℕ) → p ≡ Some n → option_map (λ x. x / size) p ≡ Some b → option_map (λ x. x % size) p ≡ Some y → b * size + y ≡ n
place_joins p size n b y e q r =
    let q' : n / size ≡ b = some_is (ap (option_map (λ x. x / size)) (sym e) ∙ q) in
    let r' : n % size ≡ y = some_is (ap (option_map (λ x. x % size)) (sym e) ∙ r) in
    let d : n % size + n / size * size ≡ n = mod-add-div' n size in
    ap (λ x. x * size + y) (sym q') ∙ (ap (λ x. n / size * size + x) (sym r') ∙ (let c : n / size * size + n % size ≡ n % size + n / size * size = omega arith in c ∙ d))

pub at_end : (p : Option ℕ) (size b y most : ℕ) → 0 < size → option_map (λ x. x / size) p ≡ Some b → option_map (λ x. x % size) p ≡ Some y → AtMost (option_map (λ x. x / size) p) most → (0 < y → b < most) → AtMost p (most * size)
at_end None size b y most some q r h further = h
at_end (Some n) size b y most some q r h further =
    let q' : n / size ≡ b = some_is q in
    let r' : n % size ≡ y = some_is r in
    let d : n % size + n / size * size ≡ n = mod-add-div' n size in
    elim (cases_lt 0 y) [
      | inl lt ↦
          let b_lt : b < most = further lt in
          let l : (n / size + 1) * size ≤ most * size = mul-le-mul_right size (omega arith) in
          let y_lt : n % size < size = mod-lt n some in
          let w : (n / size + 1) * size ≡ n / size * size + size = omega arith in
          omega arith
      | inr ge ↦
          let l : n / size * size ≤ most * size = mul-le-mul_right size h in
          omega arith
    ]

pub past_end : (p : Option ℕ) (size b y most : ℕ) → 0 < size → option_map (λ x. x / size) p ≡ Some b → option_map (λ x. x % size) p ≡ Some y → b ≡ most → 0 < y → AtMost p (most * size) → ⊥
past_end None size b y most some q r last lt h = h
past_end (Some n) size b y most some q r last lt h =
    let q' : n / size ≡ b = some_is q in
    let r' : n % size ≡ y = some_is r in
    let d : n % size + n / size * size ≡ n = mod-add-div' n size in
    let m : n / size * size ≡ most * size = ap (λ x. x * size) (q' ∙ last) in
    omega arith

pub false_is : false ≡ true → ⊥
false_is e = subst told e tt where
  told : Bool → Type 0
  told false = Unit {0}
  told true = ⊥

-- the next block and the rest, inside a block and at its start
pub next_part : (size : ℕ) (k k' : Keystream) (b y most : ℕ) → k.position ≡ b → k.period ≡ most + 1 → IsMoved k 1 k' → k'.position ≤ most → b < most → 0 < y → y < size
    → k'.position ≡ blocks_before size (b * size + y)
next_part size k k' b y most at turn m le lt some h = next_is k k' b most at turn m le lt ∙ sym (blocks_part size b y some h)

pub rest_part : (size b y : ℕ) → 0 < y → y < size → size - y ≡ rest_at size (b * size + y)
rest_part size b y some h =
    let e : size - y ≡ (b + 1) * size - (b * size + y) = omega arith in
    e ∙ ap (λ n. n * size - (b * size + y)) (sym (blocks_part size b y some h))

pub next_whole : (size : ℕ) (k : Keystream) (b y : ℕ) → 0 < size → k.position ≡ b → y ≡ 0 → k.position ≡ blocks_before size (b * size + y)
next_whole size k b y some at first = at ∙ sym (blocks_whole size b y some first)

pub rest_whole : (size b y rest : ℕ) → 0 < size → y ≡ 0 → rest ≡ 0 → rest ≡ rest_at size (b * size + y)
rest_whole size b y rest some first none =
    let e : rest ≡ b * size - (b * size + y) = omega arith in
    e ∙ ap (λ n. n * size - (b * size + y)) (sym (blocks_whole size b y some first))

-- so many bytes are left as from there on
pub room_of : (size : ℕ) (at : ℕ → Option ℕ) (r : Option ℕ) (rest p n m : ℕ) → p ≡ n → r ≡ at (blocks_before size p) → rest ≡ rest_at size p → HasRoom size r rest m ↔ HasRoomAt size at n m
room_of size at r rest p n m there e f =
    let same : HasRoom size (at (blocks_before size p)) (rest_at size p) m ↔ HasRoomAt size at p m = ((λ h. h), (λ h. h)) in
    subst (λ x. HasRoom size r rest m ↔ HasRoomAt size at x m) there
    (subst (λ x. HasRoom size x rest m ↔ HasRoomAt size at p m) (sym e) (subst (λ x. HasRoom size (at (blocks_before size p)) x m ↔ HasRoomAt size at p m) (sym f) same))
