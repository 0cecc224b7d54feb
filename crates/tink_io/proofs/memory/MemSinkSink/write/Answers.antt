use Rattle.std.proofs.Common.{◌≡◌, ◌≤◌, ◌-◌, ap, inl, inr, true, ℕ, List, [], take, length, min, ◌∙◌, ◌++◌, sym, subst, arith}
use Rattle.std.proofs.lemmas.Bool.{eqb-false, false≢true}
use Rattle.std.specs.Bool.{◌==◌}
use Rattle.std.specs.List.{list_any}
use Rattle.tink_io.specs.Memory.{at_most_piece, write_len}
use Rattle.tink_io.proofs.FaultLemmas.{CountsFault-still}
use Rattle.tink_io.proofs.MemoryLemmas.{IsCut, IsCut-is, IsCut-le, IsCut-some, SameSink-kept}
use Rattle.tink_io.proofs.memory.MemSinkSink.write.Goals as goal
use Rattle.tink_io.proofs.memory.MemSinkSink.write.Goals.{then-self-gt0, else-self-gt0}

none_listed : (fails : List ℕ) (call : ℕ) → fails ≡ [] → list_any (λ f. f == call) fails ≡ true → ⊥
none_listed fails call none listed = false≢true (sym (ap (list_any (λ f. f == call)) none) ∙ listed)

-- no byte of a piece that is not empty has room
used_up : (room len taken n : ℕ) → len ≡ taken → n ≡ 0 → (k : ℕ) → n ≡ min (room - len) k → (k ≡ 0 → ⊥) → room ≤ taken
used_up room len taken n all none k cut some = omega arith

pub returns-then-is_listed-clause-same : goal.returns-then-is_listed-clause-same
returns-then-is_listed-clause-same c =
    let is = c.self.view_is in
    SameSink-kept _ _ (ap (λ s. s.fails) is) (ap (λ s. s.room) is) (ap (λ s. s.got) is)
    (λ none. absurd (none_listed _ _ (ap (λ s. s.fails) is ∙ none) (sym c.is_listed.ensures ∙ c.if-is_listed.true)))

pub returns-then-is_empty-clause-same : goal.returns-then-is_empty-clause-same
returns-then-is_empty-clause-same c =
    let is = c.self.view_is in
    SameSink-kept _ _ (ap (λ s. s.fails) is) (ap (λ s. s.room) is) (ap (λ s. s.got) is) (λ none. inl (ap (λ s. s.faults) is))

pub returns-then-n-eq0-clause-same : goal.returns-then-n-eq0-clause-same
returns-then-n-eq0-clause-same c =
    let is = c.self.view_is in
    let some = eqb-false _ _ (sym c.is_empty.ensures ∙ c.if-is_empty.false) in
    let full = used_up _ _ _ _ (c.len.ensures ∙ c.self.inside.taken.ok.0) c.if-n-eq0.true _ c.min-n.ensures some in
    SameSink-kept _ _ (ap (λ s. s.fails) is) (ap (λ s. s.room) is) (ap (λ s. s.got) is) (λ none. inr (subst (λ s. s.room ≤ length s.got) is full))

-- how many bytes are taken
count : (c : goal.In-Ok) → IsCut c.self.inside.piece c.min-n.result c.if-self-gt0.n
count c = elim c.if-self-gt0.branch [
  | then-self-gt0 w ↦ inr (w.if-self-gt0.true, w.n-is ∙ w.min-n-then-self-gt0.ensures)
  | else-self-gt0 w ↦ inl (w.if-self-gt0.false, w.n-is)
]

pub returns-clause-bound : goal.returns-clause-bound
returns-clause-bound c = IsCut-le c.self.inside.piece _ _ _ _ c.min-n.ensures (count c)

pub returns-clause-some : goal.returns-clause-some
returns-clause-some c = λ _. IsCut-some c.self.inside.piece _ _ c.if-n-eq0.false (count c)

pub returns-clause-cause : goal.returns-clause-cause
returns-clause-cause c = CountsFault-still _ _ _ (ap (λ s. s.faults) c.self.view_is)

pub returns-clause-taken : goal.returns-clause-taken
returns-clause-taken c =
    let cut = ap (λ len. min (c.self.inside.room - len) (length c.args.buf.now)) (c.len.ensures ∙ c.self.inside.taken.ok.0) in
    subst (λ s. c.if-self-gt0.n ≡ write_len s (length c.args.buf.now)) c.self.view_is
    (IsCut-is _ _ _ (count c) ∙ ap (at_most_piece c.self.inside.piece) (c.min-n.ensures ∙ cut))

pub returns-clause-same : goal.returns-clause-same
returns-clause-same c = record {
  fails = ap (λ s. s.fails) c.self.view_is;
  room = ap (λ s. s.room) c.self.view_is;
  goes_on = (take c.if-self-gt0.n c.args.buf.now, c.in-Ok.ensures.items ∙ ap (λ s. s.got ++ take c.if-self-gt0.n c.args.buf.now) c.self.view_is);
  count = λ none. inl (ap (λ s. s.faults) c.self.view_is);
}
