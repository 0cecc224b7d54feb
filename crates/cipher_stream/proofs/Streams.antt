-- Keystreams that are taken block by block.
use Rattle.std.proofs.Common.{◌≡◌, ℕ, zero, suc, ◌+◌, ◌-◌, ◌%◌, ◌≤◌, ◌<◌, List, [], ◌∷◌, ◌++◌, get_or, set, take, drop, length, ap, subst, sym, ◌∙◌, refl, arith, append_assoc, add-one, drop-cons}
use Rattle.std.proofs.lemmas.List.{set_at, drop_all, append-nil, take_at, drop_at, drop-drop}
use Rattle.std.proofs.lemmas.List.FromFn.{length-map-range_with_len, map-range_with_len_more}
use Rattle.std.proofs.Math.Nat.{add-mod}
use borrow.Rule.Slice.PartMut.{put_mid}
use Rattle.cipher.specs.Transcript.{Block}
use Rattle.cipher_stream.specs.Keystream.{Keystream, next, stream_of, IsMoved}

pub length-next : (n : ℕ) (k : Keystream) → length (next n k) ≡ n
length-next n k = length-map-range_with_len (stream_of k) 0 n

pub mod_step : (p q m n : ℕ) → p % m ≡ q % m → (p + n) % m ≡ (q + n) % m
mod_step p q m n e = add-mod p n m ∙ (ap (λ x. (x + n % m) % m) e ∙ sym (add-mod q n m))

pub moved_none : (k : Keystream) → IsMoved k 0 k
moved_none k = record { same_blocks = λ i. refl; same_period = refl; moved = let e : k.position ≡ k.position + 0 = omega arith in ap (λ p. p % k.period) e }

pub moved_both : (k k' k'' : Keystream) (m n : ℕ) → IsMoved k m k' → IsMoved k' n k'' → IsMoved k (m + n) k''
moved_both k k' k'' m n h j =
    let e : k.position + m + n ≡ k.position + (m + n) = omega arith in
    let s : k''.position % k.period ≡ (k'.position + n) % k.period = subst (λ q. k''.position % q ≡ (k'.position + n) % q) h.same_period j.moved in
    record {
      same_blocks = λ i. j.same_blocks i ∙ h.same_blocks i;
      same_period = j.same_period ∙ h.same_period;
      moved = s ∙ (mod_step k'.position (k.position + m) k.period n h.moved ∙ ap (λ p. p % k.period) e);
    }

-- the stream after n blocks
pub stream_moved : (k k' : Keystream) (n i : ℕ) → IsMoved k n k' → stream_of k' i ≡ stream_of k (n + i)
stream_moved k k' n i h =
    let e : k.position + n + i ≡ k.position + (n + i) = omega arith in
    h.same_blocks ((k'.position + i) % k'.period) ∙ ap k.block_at (ap (λ q. (k'.position + i) % q) h.same_period ∙ (mod_step k'.position (k.position + n) k.period i h.moved ∙ ap (λ p. p % k.period) e))

pub fill_more : (k k' : Keystream) (old cur : List Block) (y : Block) (i : ℕ) → i < length old → cur ≡ next i k ++ drop i old → IsMoved k i k' → y ≡ stream_of k' 0 → set cur i y ≡ next (i + 1) k ++ drop (i + 1) old
fill_more k k' old cur y i h e m w =
    let ln : length (next i k) ≡ i = length-next i k in
    let v : y ≡ stream_of k i = w ∙ (stream_moved k k' i 0 m ∙ (let z : i + 0 ≡ i = omega arith in ap (stream_of k) z)) in
    let st : set cur i y ≡ next i k ++ y ∷ drop (suc i) old =
    ap (λ l. set l i y) (e ∙ ap (λ l. next i k ++ l) (drop-cons old i [] h)) ∙ set_at (next i k) (get_or old i []) (drop (suc i) old) y i ln in
    let z : 0 + i ≡ i = omega arith in
    st ∙ (rw (map-range_with_len_more (stream_of k) 0 i i z, append_assoc, add-one, v) refl)

pub fill_all : (k : Keystream) (old cur : List Block) (i : ℕ) → i ≡ length old → cur ≡ next i k ++ drop i old → cur ≡ next (length old) k
fill_all k old cur i h e =
    let le : length old ≤ i = omega arith in
    e ∙ (ap (λ l. next i k ++ l) (drop_all i old le) ∙ (append-nil (next i k) ∙ ap (λ n. next n k) h))

-- A loop that fills places block by block, over a backend whose calls keep what `keeps` says.
pub record Filled {S : Type 0} (keeps : S → S → Type 0) (lanes : S → ℕ) (keystream : S → Keystream) (before now : S) (old cur : List Block) (i : ℕ) : Type 0 where
  pub kept : keeps before now
  pub same_lanes : lanes now ≡ lanes before
  pub is_moved : IsMoved (keystream before) i (keystream now)
  pub so_far : cur ≡ next i (keystream before) ++ drop i old

pub filled_more : {S : Type 0} {keeps : S → S → Type 0} {lanes : S → ℕ} {keystream : S → Keystream} → ((s t u : S) → keeps s t → keeps t u → keeps s u) → (before now then : S) (old cur : List Block) (y : Block) (i : ℕ) → i < length old
    → Filled keeps lanes keystream before now old cur i → keeps now then → lanes then ≡ lanes now → y ≡ stream_of (keystream now) 0 → IsMoved (keystream now) 1 (keystream then)
    → Filled keeps lanes keystream before then old (set cur i y) (i + 1)
filled_more {S} {keeps} {lanes} {keystream} both before now then old cur y i h f kept same value moved =
    record {
      kept = both before now then f.kept kept;
      same_lanes = same ∙ f.same_lanes;
      is_moved = moved_both (keystream before) (keystream now) (keystream then) i 1 f.is_moved moved;
      so_far = fill_more (keystream before) (keystream now) old cur y i h f.so_far f.is_moved value;
    }

pub filled_none : {S : Type 0} {keeps : S → S → Type 0} {lanes : S → ℕ} {keystream : S → Keystream} → ((s : S) → keeps s s) → (before : S) (old : List Block) → Filled keeps lanes keystream before before old old 0
filled_none {S} {keeps} {lanes} {keystream} none before old = record { kept = none before; same_lanes = refl; is_moved = moved_none (keystream before); so_far = refl }

-- all places are filled
pub record AllFilled {S : Type 0} (keeps : S → S → Type 0) (lanes : S → ℕ) (keystream : S → Keystream) (before now : S) (old cur : List Block) : Type 0 where
  pub kept : keeps before now
  pub same_lanes : lanes now ≡ lanes before
  pub value : cur ≡ next (length old) (keystream before)
  pub is_moved : IsMoved (keystream before) (length old) (keystream now)

pub filled_all : {S : Type 0} {keeps : S → S → Type 0} {lanes : S → ℕ} {keystream : S → Keystream} {before now : S} {old cur : List Block} {i : ℕ} → i ≡ length old
    → Filled keeps lanes keystream before now old cur i → AllFilled keeps lanes keystream before now old cur
filled_all {S} {keeps} {lanes} {keystream} {before} {now} {old} {cur} {i} all f =
    record {
      kept = f.kept;
      same_lanes = f.same_lanes;
      value = fill_all (keystream before) old cur i all f.so_far;
      is_moved = subst (λ n. IsMoved (keystream before) n (keystream now)) all f.is_moved;
    }

-- the next m, and then the next n of the rest
pub next-add : (k k' : Keystream) (m n : ℕ) → IsMoved k m k' → next (m + n) k ≡ next m k ++ next n k'
next-add k k' m zero h = let z : m + 0 ≡ m = omega arith in ap (λ j. next j k) z ∙ sym (append-nil (next m k))
next-add k k' m (suc n) h =
    let e : m + suc n ≡ m + n + 1 = omega arith in
    let z : 0 + (m + n) ≡ m + n = omega arith in
    let y : 0 + n ≡ n = omega arith in
    let one : next (m + n + 1) k ≡ next (m + n) k ++ stream_of k (m + n) ∷ [] = map-range_with_len_more (stream_of k) 0 (m + n) (m + n) z in
    let two : next (n + 1) k' ≡ next n k' ++ stream_of k' n ∷ [] = map-range_with_len_more (stream_of k') 0 n n y in
    ap (λ j. next j k) e ∙ (one ∙ (ap (λ l. l ++ stream_of k (m + n) ∷ []) (next-add k k' m n h)
    ∙ (append_assoc (next m k) (next n k') (stream_of k (m + n) ∷ []) ∙ ap (λ l. next m k ++ l)
    (ap (λ b. next n k' ++ b ∷ []) (sym (stream_moved k k' m n h)) ∙ (sym two ∙ ap (λ j. next j k') (add-one n))))))

-- a loop that writes part by part
pub write_next : (k k' : Keystream) (old cur ys : List Block) (a n j : ℕ) → j ≡ n → a + n ≤ length old → cur ≡ next a k ++ drop a old → IsMoved k a k' → ys ≡ next n k'
    → put_mid a j cur ys ≡ next (a + n) k ++ drop (a + n) old
write_next k k' old cur ys a n j q h e m w =
    let ln : length (next a k) ≡ a = length-next a k in
    let t : take a cur ≡ next a k = ap (take a) e ∙ take_at (next a k) (drop a old) a ln in
    let d : drop a cur ≡ drop a old = ap (drop a) e ∙ drop_at (next a k) (drop a old) a ln in
    let u : next (a + n) k ≡ next a k ++ next n k' = next-add k k' a n m in
    ap (λ i. put_mid a i cur ys) q ∙ (rw (t, d, w, drop-drop, u, append_assoc) refl)

pub write_last : (k k' : Keystream) (old cur ys : List Block) (a n : ℕ) → a ≤ length old → length cur ≡ length old → cur ≡ next a k ++ drop a old → IsMoved k a k' → n ≡ length old - a → ys ≡ next n k'
    → put_mid a (length cur - a) cur ys ≡ next (length old) k
write_last k k' old cur ys a n h lc e m q w =
    let all : a + n ≡ length old = omega arith in
    let le : length old ≤ a + n = omega arith in
    let ge : a + n ≤ length old = omega arith in
    let j : length cur - a ≡ n = omega arith in
    write_next k k' old cur ys a n (length cur - a) j ge e m w ∙ (ap (λ l. next (a + n) k ++ l) (drop_all (a + n) old le) ∙ (append-nil (next (a + n) k) ∙ ap (λ i. next i k) all))
