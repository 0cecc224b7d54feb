-- Which chunks of a text are full.
use Rattle.std.proofs.Common.{◌<◌, ◌≤◌, inl, inr, ℕ, zero, suc, List, length, drop, sym, subst, arith, length-drop}
use Rattle.std.proofs.lemmas.Bool.{cases_lt}
use Rattle.std.proofs.lemmas.List.{length-take}
use Rattle.stream_model.specs.Cut.{full_chunks, open_chunk}
use Rattle.stream_model.proofs.CutFacts.{full_chunks_fits, full_chunks_more, open_chunk_fits, open_chunk_more}
use Rattle.tink_streaming_io.specs.Full.{AreFull}

full_in : (turns a b : ℕ) (R : List ℕ) → length R ≤ turns → 0 < a → 0 < b → AreFull a b (full_chunks a b R)
full_in zero a b R h p q = subst (AreFull a b) (sym (full_chunks_fits a b R (omega arith))) tt
full_in (suc n) a b R h p q = elim (cases_lt a (length R)) [
  | inr fits ↦ subst (AreFull a b) (sym (full_chunks_fits a b R fits)) tt
  | inl more ↦ subst (AreFull a b) (sym (full_chunks_more a b R more p q)) (omega (arith, length-take a R, more), full_in n b b (drop a R) (omega (arith, length-drop a R)) q q)
]

-- all chunks but the last are full
pub are_full : (a b : ℕ) (R : List ℕ) → 0 < a → 0 < b → AreFull a b (full_chunks a b R)
are_full a b R p q = full_in (length R) a b R (omega arith) p q

some_in : (turns a b : ℕ) (R : List ℕ) → length R ≤ turns → 0 < a → 0 < b → 0 < length R → 0 < length (open_chunk a b R)
some_in zero a b R h p q some = absurd (omega arith)
some_in (suc n) a b R h p q some = elim (cases_lt a (length R)) [
  | inr fits ↦ rw (open_chunk_fits a b R fits) some
  | inl more ↦ rw (open_chunk_more a b R more p q) (some_in n b b (drop a R) (omega (arith, length-drop a R)) q q (omega (arith, length-drop a R, more)))
]

-- the last chunk of some text has some of it
pub last_some : (a b : ℕ) (R : List ℕ) → 0 < a → 0 < b → 0 < length R → 0 < length (open_chunk a b R)
last_some a b R p q some = some_in (length R) a b R (omega arith) p q some
