-- How much a text of some length fills.
use Rattle.std.proofs.Common.{◌≡◌, ◌<◌, ◌≤◌, ◌+◌, ◌-◌, ◌*◌, ◌/◌, inl, inr, ℕ, zero, suc, Bool, false, List, [], ◌∷◌, length, drop, ap, sym, ◌∙◌, arith, length-drop, length-append}
use Rattle.std.proofs.Math.Nat.{add-div_right, div-eq_of_lt}
use Rattle.std.proofs.lemmas.Bool.{cases_lt}
use Rattle.stream_model.specs.Cut.{full_chunks, open_chunk, unmarked}
use Rattle.stream_model.proofs.CutFacts.{full_chunks_fits, full_chunks_more, open_chunk_fits, open_chunk_more}
use Rattle.tink_streaming_io.specs.Full.{AreFull}
use Rattle.tink_c_pieces.specs.Due.{bytes_due, chunks_due}

-- a text that fits fills no chunk
pub none_due : (first room n : ℕ) → 0 < room → n ≤ first → chunks_due first room n ≡ 0
none_due first room n some fits = div-eq_of_lt (omega arith)

-- a longer one fills one more than its rest
pub one_due : (first room n : ℕ) → 0 < room → first < n → chunks_due first room n ≡ (n - first - 1) / room + 1
one_due first room n some more =
    let e : n - first + (room - 1) ≡ (n - first - 1) + room = omega arith in
    ap (λ x. x / room) e ∙ add-div_right (n - first - 1) some

rest_due : (room m : ℕ) → 0 < room → 0 < m → chunks_due room room m ≡ (m - 1) / room
rest_due room m some more = elim (cases_lt room m) [
  | inl long ↦ ap (λ x. x / room) (let e : m - room + (room - 1) ≡ m - 1 = omega arith in e)
  | inr fits ↦ none_due room room m some fits ∙ sym (div-eq_of_lt (omega arith))
]

counted_in : (turns first room : ℕ) (R : List ℕ) → length R ≤ turns → 0 < first → 0 < room → length (full_chunks first room R) ≡ chunks_due first room (length R)
counted_in zero first room R h p q = ap length (full_chunks_fits first room R (omega arith)) ∙ sym (none_due first room (length R) q (omega arith))
counted_in (suc turns) first room R h p q = elim (cases_lt first (length R)) [
  | inr fits ↦ ap length (full_chunks_fits first room R fits) ∙ sym (none_due first room (length R) q fits)
  | inl more ↦
      let behind : length (drop first R) ≡ length R - first = length-drop first R in
      let rest : length (full_chunks room room (drop first R)) ≡ chunks_due room room (length (drop first R)) = counted_in turns room room (drop first R) (omega (arith, behind)) q q in
      let count : chunks_due room room (length (drop first R)) ≡ (length R - first - 1) / room = rest_due room (length (drop first R)) q (omega (arith, behind)) ∙ ap (λ x. (x - 1) / room) behind in
      let whole : length (full_chunks first room R) ≡ 1 + length (full_chunks room room (drop first R)) = ap length (full_chunks_more first room R more p q) ∙ omega arith in
      whole ∙ omega (arith, rest, count, one_due first room (length R) q more)
]

-- how many chunks are full
pub chunks_counted : (first room : ℕ) (R : List ℕ) → 0 < first → 0 < room → length (full_chunks first room R) ≡ chunks_due first room (length R)
chunks_counted first room R p q = counted_in (length R) first room R (omega arith) p q

open_in : (turns first room : ℕ) (R : List ℕ) → length R ≤ turns → 0 < first → first ≤ room → length (open_chunk first room R) ≤ room
open_in zero first room R h p q = omega (arith, ap length (open_chunk_fits first room R (omega arith)))
open_in (suc turns) first room R h p q = elim (cases_lt first (length R)) [
  | inr fits ↦ omega (arith, ap length (open_chunk_fits first room R fits))
  | inl more ↦
      let rest = open_in turns room room (drop first R) (omega (arith, length-drop first R)) (omega arith) (omega arith) in
      omega (arith, rest, ap length (open_chunk_more first room R more p (omega arith)))
]

-- the chunk that a text ends in has room in a segment
pub open_most : (first room : ℕ) (R : List ℕ) → 0 < first → first ≤ room → length (open_chunk first room R) ≤ room
open_most first room R p q = open_in (length R) first room R (omega arith) p q

-- and of how many bytes their segments are
module _ (seg : ℕ → Bool → List ℕ → List ℕ) (over : ℕ) (longer : (i : ℕ) (t : List ℕ) → length (seg i false t) ≡ length t + over) where
  same_sizes : (size i room : ℕ) (cs : List (List ℕ)) → size ≡ room + over → AreFull room room cs → length (unmarked seg i cs) ≡ length cs * size
  same_sizes size i room [] is full = omega arith
  same_sizes size i room (t ∷ ts) is full =
      let rest = same_sizes size (i + 1) room ts is full.1 in
      let all : length (t ∷ ts) * size ≡ size + length ts * size = omega arith in
      length-append (seg i false t) (unmarked seg (i + 1) ts) ∙ omega (arith, longer i t, full.0, is, rest, all)

  pub bytes_counted : (first room i : ℕ) (cs : List (List ℕ)) → AreFull first room cs → length (unmarked seg i cs) ≡ bytes_due (first + over) (room + over) (length cs)
  bytes_counted first room i [] full = omega arith
  bytes_counted first room i (t ∷ ts) full =
      let rest = same_sizes (room + over) (i + 1) room ts (omega arith) full.1 in
      length-append (seg i false t) (unmarked seg (i + 1) ts) ∙ omega (arith, longer i t, full.0, rest)
