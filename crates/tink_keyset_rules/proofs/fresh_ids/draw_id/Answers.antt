use Rattle.std.proofs.Common.{◌≡◌, ◌∙◌, ◌<◌, ◌≤◌, ◌-◌, ◌+◌, List, ℕ, true, false, Result, Ok, Err, length, drop, refl, ap, sym, arith}
use Rattle.std.proofs.lemmas.Result.{err_from_is_err_and}
use Rattle.tink_io.specs.declared.error.Kind.{Kind}
use Rattle.tink_io.specs.declared.error.TinkError.{TinkError}
use Rattle.tink_proto.specs.declared.messages.keys.Key.{Key}
use Rattle.keyset_model.specs.Adding.{drawn_id, fresh_id, is_taken}
use Rattle.keyset_model.proofs.FreshIds.{no_take, take_fresh, take_short, take_taken}
use Rattle.tink_keyset_rules.proofs.fresh_ids.draw_id.Goals as goal

enough : (n : ℕ) → (n < 4 → false ≡ true) → 4 ≤ n
enough n short = grind arith

drawn : (keys : List Key) (i id : ℕ) (first draws : List ℕ) → fresh_id keys 128 first ≡ fresh_id keys (128 - i) draws → i < 128 → (length draws < 4 → false ≡ true)
    → id ≡ drawn_id draws → is_taken keys id ≡ false → fresh_id keys 128 first ≡ (Ok id, drop 4 draws)
drawn keys i id first draws so_far more short is free =
    so_far ∙ take_fresh keys 128 i draws more (enough (length draws) short) (ap (is_taken keys) (sym is) ∙ free)
    ∙ ap (λ (n : ℕ). (Ok n, drop 4 draws)) (sym is)

pub returns-then-not-is_taken-clause-ok : goal.returns-then-not-is_taken-clause-ok
returns-then-not-is_taken-clause-ok c =
    ap (λ (r : Result ℕ Kind × List ℕ). r.0) (drawn c.args.keys.now c.loop.counter c.in_ok-id.id c.args.draws.now c.loop.draws c.loop.invariant c.loop-test.true
    c.in_ok-id.ensures.random_fault.1 c.in_ok-id.ensures.value (sym c.is_taken.ensures ∙ c.if-not-is_taken.true))

pub returns-then-not-is_taken-clause-left : goal.returns-then-not-is_taken-clause-left
returns-then-not-is_taken-clause-left c =
    c.in_ok-id.ensures.rest ∙ sym (ap (λ (r : Result ℕ Kind × List ℕ). r.1) (drawn c.args.keys.now c.loop.counter c.in_ok-id.id c.args.draws.now c.loop.draws c.loop.invariant
    c.loop-test.true c.in_ok-id.ensures.random_fault.1 c.in_ok-id.ensures.value (sym c.is_taken.ensures ∙ c.if-not-is_taken.true)))

pub returns-then-not-is_taken-clause-fresh : goal.returns-then-not-is_taken-clause-fresh
returns-then-not-is_taken-clause-fresh c = sym c.is_taken.ensures ∙ c.if-not-is_taken.true

pub returns-in_err-id-clause-err : goal.returns-in_err-id-clause-err
returns-in_err-id-clause-err c =
    let p = err_from_is_err_and c.from_residual.result c.from_residual.ensures.1 in
    rw p.1
    (ap (λ (r : Result ℕ Kind × List ℕ). r.0)
    (c.loop.invariant ∙ take_short c.args.keys.now 128 c.loop.counter c.loop.draws c.loop-test.true (c.in_err-id.ensures.random_fault.0 refl))
    ∙ ap (λ (e : TinkError). Err e.kind) (sym (p.2 ∙ c.in_err-id.ensures.refused)))

pub returns-in_err-id-clause-left : goal.returns-in_err-id-clause-left
returns-in_err-id-clause-left c =
    c.in_err-id.ensures.err ∙ sym (ap (λ (r : Result ℕ Kind × List ℕ). r.1)
    (c.loop.invariant ∙ take_short c.args.keys.now 128 c.loop.counter c.loop.draws c.loop-test.true (c.in_err-id.ensures.random_fault.0 refl)))

pub loop-preserved : goal.loop-preserved
loop-preserved c =
    c.loop.invariant
    ∙ take_taken c.args.keys.now 128 c.loop.counter c.loop.draws c.loop-test.true (enough (length c.loop.draws) c.in_ok-id.ensures.random_fault.1)
    (ap (is_taken c.args.keys.now) (sym c.in_ok-id.ensures.value) ∙ sym c.is_taken.ensures ∙ c.if-not-is_taken.false)
    ∙ ap (fresh_id c.args.keys.now (128 - (c.loop.counter + 1))) (sym c.in_ok-id.ensures.rest)

pub returns-clause-err : goal.returns-clause-err
returns-clause-err c =
    ap (λ (r : Result ℕ Kind × List ℕ). r.0) (c.loop.invariant ∙ no_take c.args.keys.now 128 c.loop.counter c.loop.draws c.loop-test.false)
    ∙ ap (λ (e : TinkError). Err e.kind) (sym c.new.ensures)

pub returns-clause-left : goal.returns-clause-left
returns-clause-left c = sym (ap (λ (r : Result ℕ Kind × List ℕ). r.1) (c.loop.invariant ∙ no_take c.args.keys.now 128 c.loop.counter c.loop.draws c.loop-test.false))
