-- Cutting step by step.
use Rattle.std.proofs.Common.{◌≡◌, ◌<◌, ◌≤◌, ◌+◌, ◌⊎◌, inl, inr, ℕ, zero, suc, Bool, true, false, List, [], ◌∷◌, ◌++◌, length, take, drop, refl, sym, ap, ◌∙◌, arith, add-one, add-zero, zero-add, length-drop, length-append, append_assoc}
use Rattle.std.specs.Prelude.{nat_le}
use Rattle.std.proofs.lemmas.Bool.{le-leb, lt-leb}
use Rattle.std.proofs.lemmas.List.{take-append-le, drop-append-le}
use Rattle.stream_model.specs.Cut.{cut_in, cut, but_last, last_chunk, full_chunks, open_chunk, room_at, unmarked, segments, or_one, chunks, sealed}

-- more turns than bytes change nothing
pub more_turns : (s t a b : ℕ) (R : List ℕ) → length R < s → length R < t → 0 < b → 0 < a → cut_in s a b R ≡ cut_in t a b R
more_turns zero t a b R h k p q = absurd (omega arith)
more_turns (suc s) zero a b R h k p q = absurd (omega arith)
more_turns (suc s) (suc t) a b [] h k p q = refl
more_turns (suc s) (suc t) a b (x ∷ R) h k p q = rw (more_turns s t b b (drop a (x ∷ R)) (omega (arith, length-drop a (x ∷ R))) (omega (arith, length-drop a (x ∷ R))) p p)

pub cut_none : (a b : ℕ) → cut a b [] ≡ []
unfolding cut
cut_none a b = refl

-- a text that fits is one chunk
pub cut_fits : (a b : ℕ) (R : List ℕ) → 0 < length R → length R ≤ a → cut a b R ≡ R ∷ []
unfolding cut
cut_fits a b [] s h = absurd (omega arith)
cut_fits a b (x ∷ R) s h = rw (add-one, le-leb (length (x ∷ R)) a h)

-- a longer one begins with a full chunk
pub cut_more : (a b : ℕ) (R : List ℕ) → a < length R → 0 < a → 0 < b → cut a b R ≡ take a R ∷ cut b b (drop a R)
unfolding cut
cut_more a b [] h p q = absurd (omega arith)
cut_more a b (x ∷ R) h p q =
    let same : cut_in (length (x ∷ R)) b b (drop a (x ∷ R)) ≡ cut_in (length (drop a (x ∷ R)) + 1) b b (drop a (x ∷ R)) = more_turns (length (x ∷ R)) (length (drop a (x ∷ R)) + 1) b b (drop a (x ∷ R)) (omega (arith, length-drop a (x ∷ R))) (omega arith) q q in
    rw (add-one, lt-leb (length (x ∷ R)) a h, same)

-- some text gives some chunk
pub cut_some : (a b : ℕ) (R : List ℕ) → 0 < length R → (u : List ℕ) × (us : List (List ℕ)) × (cut a b R ≡ u ∷ us)
unfolding cut
cut_some a b [] h = absurd (omega arith)
cut_some a b (x ∷ R) h = rw add-one (go (nat_le (length (x ∷ R)) a) refl)
  where
    go : (v : Bool) → nat_le (length (x ∷ R)) a ≡ v → (u : List ℕ) × (us : List (List ℕ)) × (cut_in (suc (length (x ∷ R))) a b (x ∷ R) ≡ u ∷ us)
    go true e = (x ∷ R, [], rw e)
    go false e = (take a (x ∷ R), cut_in (length (x ∷ R)) b b (drop a (x ∷ R)), rw e)

-- while the text fits no chunk is full
pub full_chunks_fits : (a b : ℕ) (R : List ℕ) → length R ≤ a → full_chunks a b R ≡ []
unfolding full_chunks
full_chunks_fits a b [] h = rw (cut_none a b)
full_chunks_fits a b (x ∷ R) h = rw (cut_fits a b (x ∷ R) (omega arith) h)

pub open_chunk_fits : (a b : ℕ) (R : List ℕ) → length R ≤ a → open_chunk a b R ≡ R
unfolding open_chunk
open_chunk_fits a b [] h = rw (cut_none a b)
open_chunk_fits a b (x ∷ R) h = rw (cut_fits a b (x ∷ R) (omega arith) h)

but_last_more : (t : List ℕ) (ts : List (List ℕ)) (u : List ℕ) (us : List (List ℕ)) → ts ≡ u ∷ us → but_last (t ∷ ts) ≡ t ∷ but_last ts
but_last_more t ts u us e = rw e

last_chunk_more : (t : List ℕ) (ts : List (List ℕ)) (u : List ℕ) (us : List (List ℕ)) → ts ≡ u ∷ us → last_chunk (t ∷ ts) ≡ last_chunk ts
last_chunk_more t ts u us e = rw e

-- a longer one has a full chunk first
pub full_chunks_more : (a b : ℕ) (R : List ℕ) → a < length R → 0 < a → 0 < b → full_chunks a b R ≡ take a R ∷ full_chunks b b (drop a R)
unfolding full_chunks
full_chunks_more a b R h p q =
    let some = cut_some b b (drop a R) (omega (arith, length-drop a R)) in
    ap but_last (cut_more a b R h p q) ∙ but_last_more (take a R) (cut b b (drop a R)) some.0 some.1 some.2

pub open_chunk_more : (a b : ℕ) (R : List ℕ) → a < length R → 0 < a → 0 < b → open_chunk a b R ≡ open_chunk b b (drop a R)
unfolding open_chunk
open_chunk_more a b R h p q =
    let some = cut_some b b (drop a R) (omega (arith, length-drop a R)) in
    ap last_chunk (cut_more a b R h p q) ∙ last_chunk_more (take a R) (cut b b (drop a R)) some.0 some.1 some.2

pub room_at_next : (a b i : ℕ) → room_at a b (i + 1) ≡ b
room_at_next a b i = rw add-one

-- unmarked segments of joined lists
pub unmarked-append : (seg : ℕ → Bool → List ℕ → List ℕ) (i : ℕ) (xs ys : List (List ℕ)) → unmarked seg i (xs ++ ys) ≡ unmarked seg i xs ++ unmarked seg (i + length xs) ys
unmarked-append seg i [] ys = rw add-zero refl
unmarked-append seg i (x ∷ xs) ys =
    let e : (i + 1) + length xs ≡ i + length (x ∷ xs) = omega arith in
    ap (λ r. seg i false x ++ r) (unmarked-append seg (i + 1) xs ys ∙ ap (λ n. unmarked seg (i + 1) xs ++ unmarked seg n ys) e) ∙ sym (append_assoc (seg i false x) (unmarked seg (i + 1) xs) (unmarked seg (i + length (x ∷ xs)) ys))

-- the whole text's segments are the unmarked ones of its full chunks, and the marked one of the rest
segments_split : (seg : ℕ → Bool → List ℕ → List ℕ) (i : ℕ) (chunks : List (List ℕ)) → segments seg i (or_one chunks) ≡ unmarked seg i (but_last chunks) ++ seg (i + length (but_last chunks)) true (last_chunk chunks)
segments_split seg i [] = rw add-zero refl
segments_split seg i (t ∷ []) = rw add-zero refl
segments_split seg i (t ∷ u ∷ ts) =
    let e : (i + 1) + length (but_last (u ∷ ts)) ≡ i + length (t ∷ but_last (u ∷ ts)) = omega arith in
    ap (λ r. seg i false t ++ r) (segments_split seg (i + 1) (u ∷ ts) ∙ ap (λ n. unmarked seg (i + 1) (but_last (u ∷ ts)) ++ seg n true (last_chunk (u ∷ ts))) e) ∙ sym (append_assoc (seg i false t) (unmarked seg (i + 1) (but_last (u ∷ ts))) (seg (i + length (t ∷ but_last (u ∷ ts))) true (last_chunk (u ∷ ts))))

pub sealed_split : (seg : ℕ → Bool → List ℕ → List ℕ) (a b : ℕ) (R : List ℕ) → sealed seg a b R ≡ unmarked seg 0 (full_chunks a b R) ++ seg (length (full_chunks a b R)) true (open_chunk a b R)
unfolding sealed chunks full_chunks open_chunk
sealed_split seg a b R = segments_split seg 0 (cut a b R) ∙ rw zero-add refl

room_at_same : (b i : ℕ) → room_at b b i ≡ b
room_at_same b zero = refl
room_at_same b (suc i) = refl

le_or_lt : (m n : ℕ) → (m ≤ n) ⊎ (n < m)
le_or_lt zero n = inl (omega arith)
le_or_lt (suc m) zero = inr (omega arith)
le_or_lt (suc m) (suc n) = elim (le_or_lt m n) [ inl h ↦ inl (omega arith) | inr h ↦ inr (omega arith) ]

-- a longer text has the full chunks of its prefix, and those of the chunk that stayed open and the rest
record Appended (a b : ℕ) (R S : List ℕ) : Type 0 where
  chunks : full_chunks a b (R ++ S) ≡ full_chunks a b R ++ full_chunks (room_at a b (length (full_chunks a b R))) b (open_chunk a b R ++ S)
  last : open_chunk a b (R ++ S) ≡ open_chunk (room_at a b (length (full_chunks a b R))) b (open_chunk a b R ++ S)

appended_fits : (a b : ℕ) (R S : List ℕ) → length R ≤ a → Appended a b R S
appended_fits a b R S h =
    let e = full_chunks_fits a b R h in
    let f = open_chunk_fits a b R h in
    record { chunks = rw (e, f) refl; last = rw (e, f) refl }

appended_more : (a b : ℕ) (R S : List ℕ) → a < length R → 0 < a → 0 < b → Appended b b (drop a R) S → Appended a b R S
appended_more a b R S h p q rest =
    let whole = full_chunks_more a b (R ++ S) (omega (arith, length-append R S)) p q in
    let open_whole = open_chunk_more a b (R ++ S) (omega (arith, length-append R S)) p q in
    let front = full_chunks_more a b R h p q in
    let open_front = open_chunk_more a b R h p q in
    let t : take a (R ++ S) ≡ take a R = take-append-le a R S (omega arith) in
    let d : drop a (R ++ S) ≡ drop a R ++ S = drop-append-le a R S (omega arith) in
    let same = room_at_same b (length (full_chunks b b (drop a R))) in
    record {
      chunks = whole ∙ ap (λ x. x ∷ full_chunks b b (drop a (R ++ S))) t ∙ ap (λ x. take a R ∷ full_chunks b b x) d
          ∙ ap (λ x. take a R ∷ x) (rest.chunks ∙ ap (λ x. full_chunks b b (drop a R) ++ full_chunks x b (open_chunk b b (drop a R) ++ S)) same)
          ∙ rw (front, open_front) refl;
      last = open_whole ∙ ap (open_chunk b b) d ∙ rest.last ∙ ap (λ x. open_chunk x b (open_chunk b b (drop a R) ++ S)) same ∙ rw (front, open_front) refl;
    }

appended : (n a b : ℕ) (R S : List ℕ) → length R ≤ n → 0 < a → 0 < b → Appended a b R S
appended zero a b R S h p q = appended_fits a b R S (omega arith)
appended (suc n) a b R S h p q = elim (le_or_lt (length R) a) [
  | inl fits ↦ appended_fits a b R S fits
  | inr more ↦ appended_more a b R S more p q (appended n b b (drop a R) S (omega (arith, length-drop a R)) q q)
]

pub full_chunks-append : (a b : ℕ) (R S : List ℕ) → 0 < a → 0 < b
    → full_chunks a b (R ++ S) ≡ full_chunks a b R ++ full_chunks (room_at a b (length (full_chunks a b R))) b (open_chunk a b R ++ S)
full_chunks-append a b R S p q = (appended (length R) a b R S (omega arith) p q).chunks

pub open_chunk-append : (a b : ℕ) (R S : List ℕ) → 0 < a → 0 < b
    → open_chunk a b (R ++ S) ≡ open_chunk (room_at a b (length (full_chunks a b R))) b (open_chunk a b R ++ S)
open_chunk-append a b R S p q = (appended (length R) a b R S (omega arith) p q).last
