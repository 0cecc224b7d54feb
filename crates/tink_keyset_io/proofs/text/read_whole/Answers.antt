use Rattle.std.proofs.Common.{◌≡◌, ◌+◌, ◌-◌, ◌<◌, ◌≤◌, ◌∙◌, ℕ, arith, length-drop}
use Rattle.std.proofs.lemmas.List.{length-take}
use Rattle.tink_keyset_io.proofs.ReadingLemmas.{length-piece, loses_more, text_goes_on}
use Rattle.tink_keyset_io.proofs.text.read_whole.Goals as goal

onward : (i j k : ℕ) → i ≤ j → j ≤ k → i ≤ k
onward i j k first next = omega arith

-- the text grew towards the most
grows : (most before after n len : ℕ) → after ≡ before + n → (n ≡ 0 → ⊥) → len ≡ before → len ≤ most → most + 1 - after < most + 1 - before
grows most before after n len more some is within = omega arith

pub pieces-preserved : goal.pieces-preserved
pieces-preserved g c =
    let next = c.in_ok-count.ensures.ok in
    record {
      within = omega (arith, length-piece _ _ _ _ _ _ next, next.within, c.pieces.text.ok.0, length-take {A = ℕ}, length-drop {A = ℕ});
      taken = text_goes_on _ _ _ _ _ _ _ c.pieces.invariant.taken next;
      later = onward _ _ _ c.pieces.invariant.later c.in_ok-count.ensures.later;
      same = g.met.S.Source.same_trans _ _ _ c.pieces.invariant.same c.in_ok-count.ensures.same;
    }

pub pieces-smaller : goal.pieces-smaller
pieces-smaller g c =
    grows _ _ _ _ _ (length-piece _ _ _ _ _ _ c.in_ok-count.ensures.ok) c.if-count-eq0.false (c.len.ensures ∙ c.pieces.text.ok.0) c.pieces-test.true

pub returns-in_err-count-clause-taken : goal.returns-in_err-count-clause-taken
returns-in_err-count-clause-taken g c =
    loses_more _ _ _ _ _ _ c.pieces.invariant.taken c.in_err-count.ensures.taken (omega (arith, c.pieces.text.ok.0, length-take {A = ℕ}, length-drop {A = ℕ}))

pub returns-in_err-count-clause-same : goal.returns-in_err-count-clause-same
returns-in_err-count-clause-same g c = g.met.S.Source.same_trans _ _ _ c.pieces.invariant.same c.in_err-count.ensures.same

pub returns-then-count-eq0-clause-same : goal.returns-then-count-eq0-clause-same
returns-then-count-eq0-clause-same g c = g.met.S.Source.same_trans _ _ _ c.pieces.invariant.same c.in_ok-count.ensures.same
