-- What a caller over memory learns from what stays.
use Rattle.std.proofs.Common.{◌≡◌, ◌⊎◌, inl, inr, ℕ, cond, ◌+◌, ◌-◌, ◌<◌, ◌≤◌, min, List, [], ◌++◌, length, take, drop, sym, ap, ◌∙◌, arith, length-drop}
use Rattle.std.proofs.lemmas.Bool.{eq-eqb, ne_eqb}
use Rattle.std.proofs.lemmas.List.{append-nil, drop_all}
use Rattle.tink_io.specs.Memory.{MemoryLeft, MemoryTaken, SameSource, SameSink, at_most_piece}

-- a source without failing calls does not fail
pub SameSource-count : (old new : MemoryLeft) → SameSource old new → old.fails ≡ [] → new.faults ≡ old.faults
SameSource-count old new same none = same.count none

-- nor does a sink that has room for more than it has taken in the end
pub SameSink-count : (old new : MemoryTaken) → SameSink old new → old.fails ≡ [] → length new.got < old.room → new.faults ≡ old.faults
SameSink-count old new same none room = elim (same.count none) [ inl still ↦ still | inr full ↦ absurd (omega arith) ]

-- a call that took nothing leaves a sink the same, where its fault is of a listed call or the room is used up
pub SameSink-kept : (old new : MemoryTaken) → new.fails ≡ old.fails → new.room ≡ old.room → new.got ≡ old.got
    → (old.fails ≡ [] → (new.faults ≡ old.faults) ⊎ (old.room ≤ length old.got)) → SameSink old new
SameSink-kept old new fails room got count = record {
  fails = fails;
  room = room;
  goes_on = ([], got ∙ sym (append-nil old.got));
  count = λ none. elim (count none) [ inl still ↦ inl still | inr full ↦ inr (omega (arith, ap length got)) ];
}

-- what moved from the bytes at a place is lost of those that were left there
pub moved_from : (bytes lent left old new : List ℕ) (at n : ℕ) → lent ≡ bytes → drop at bytes ≡ left → length new ≡ length old
    → drop at lent ≡ take n new ++ drop (at + n) lent → (n ≡ 0 → 0 < length old → length lent ≤ at)
    → (left ≡ take n new ++ drop (at + n) bytes) × (n ≡ 0 → 0 < length new → drop (at + n) bytes ≡ [])
moved_from bytes lent left old new at n is left_is len moved end = (
  sym left_is ∙ ap (drop at) (sym is) ∙ moved ∙ ap (λ xs. take n new ++ drop (at + n) xs) is,
  λ none some. drop_all (at + n) bytes (omega (arith, ap length is, end none (omega arith))),
)

-- how many bytes move is told by those that are left
pub read_len-of : (bytes lent : List ℕ) (at piece len n : ℕ) → lent ≡ bytes → n ≡ at_most_piece piece (min (length lent - at) len)
    → n ≡ at_most_piece piece (min (length (drop at bytes)) len)
read_len-of bytes lent at piece len n is count =
    count ∙ ap (λ k. at_most_piece piece (min k len)) (omega (arith, ap length is, length-drop at bytes))

-- n is m, or a piece of it
abbrev pub IsCut : ℕ → ℕ → ℕ → Type 0
IsCut piece m n = ((piece ≤ 0) × (n ≡ m)) ⊎ ((0 < piece) × (n ≡ min m piece))

pub IsCut-is : (piece m n : ℕ) → IsCut piece m n → n ≡ at_most_piece piece m
IsCut-is piece m n (inl whole) = whole.1 ∙ sym (ap (λ t. cond t m (min m piece)) (eq-eqb piece 0 (omega arith)))
IsCut-is piece m n (inr cut) = cut.1 ∙ sym (ap (λ t. cond t m (min m piece)) (ne_eqb piece 0 (λ none. omega arith)))

pub IsCut-le : (piece m n room len : ℕ) → m ≡ min room len → IsCut piece m n → n ≤ len
IsCut-le piece m n room len is (inl whole) = omega arith
IsCut-le piece m n room len is (inr cut) = omega arith

pub IsCut-some : (piece m n : ℕ) → (m ≡ 0 → ⊥) → IsCut piece m n → 0 < n
IsCut-some piece m n some (inl whole) = omega arith
IsCut-some piece m n some (inr cut) = omega arith
