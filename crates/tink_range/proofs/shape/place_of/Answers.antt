use Rattle.std.proofs.Common.{◌≡◌, ◌≤◌, ◌<◌, ◌+◌, ◌-◌, ◌*◌, ◌/◌, ℕ, refl, sym, subst, arith}
use Rattle.std.proofs.Math.Nat.{div-mul-le_self, lt-div-mul-add}
use Rattle.tink_range.specs.Shapes.{start_at}
use Rattle.tink_range.proofs.PlaceFacts.{inside, place_inside, start_at_more}
use Rattle.tink_range.proofs.shape.place_of.Goals as goal

pub returns-then-lo-room-clause-place : goal.returns-then-lo-room-clause-place
returns-then-lo-room-clause-place c =
    let a = c.args in
    record {
      start_is = refl;
      text_is = refl;
      inside = inside a.first a.size a.over a.behind a.lo 0 c.requires.over c.requires.fits (omega arith) c.requires.inside;
      reached = omega arith;
    }

pub overflow_mul-result : goal.overflow_mul-result
overflow_mul-result c =
    let a = c.args in
    let there = place_inside a.first a.size a.over a.behind a.lo c.requires.over c.requires.fits c.if-lo-room.false c.requires.inside in
    omega (arith, there, c.ranges.behind.fits)

pub overflow_add-result-2 : goal.overflow_add-result-2
overflow_add-result-2 c =
    let a = c.args in
    let there = place_inside a.first a.size a.over a.behind a.lo c.requires.over c.requires.fits c.if-lo-room.false c.requires.inside in
    omega (arith, there, c.ranges.behind.fits)

pub returns-clause-place : goal.returns-clause-place
returns-clause-place c =
    let a = c.args in
    let room : ℕ = a.first - a.over in
    let p : ℕ = a.size - a.over in
    let more : ℕ = (a.lo - room) / p in
    let below : more * p ≤ a.lo - room = div-mul-le_self (a.lo - room) p in
    let above : a.lo - room < more * p + p = lt-div-mul-add {a = a.lo - room} {b = p} (omega arith) in
    let start : start_at a.first a.size (more + 1) ≡ a.first + more * a.size = start_at_more a.first a.size more in
    let text : start_at room p (more + 1) ≡ room + more * p = start_at_more room p more in
    let next : start_at room p (more + 1 + 1) ≡ room + (more + 1) * p = start_at_more room p (more + 1) in
    let there = inside a.first a.size a.over a.behind a.lo (more + 1) c.requires.over c.requires.fits (omega (arith, text)) c.requires.inside in
    record {
      start_is = sym start;
      text_is = sym text;
      inside = subst (λ (n : ℕ). n < a.behind) start there;
      reached = omega (arith, next, above);
    }
