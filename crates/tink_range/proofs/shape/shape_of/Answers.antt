use Rattle.std.proofs.Common.{◌≡◌, ◌≤◌, ◌<◌, ◌+◌, ◌-◌, ◌*◌, ◌/◌, ℕ, suc, length, ap, subst, arith}
use Rattle.std.proofs.Math.Nat.{div-mul-le_self, lt-div-mul-add}
use Rattle.stream_model.specs.Cut.{room_at}
use Rattle.tink_range.specs.Shapes.{HasShape}
use Rattle.tink_range.proofs.ShapeFacts.{full_fit, later_fit, places_few, places_fit, shape_fits, shape_of_parts}
use Rattle.tink_range.proofs.shape.shape_of.Goals as goal

pub returns-then-behind-first-clause-shape : goal.returns-then-behind-first-clause-shape
returns-then-behind-first-clause-shape c = λ X e.
    let a = c.args in
    let text : length X - a.over ≡ c.saturating_sub.result = omega (arith, c.saturating_sub.ensures) in
    subst (λ (t : ℕ). HasShape a.first a.size a.over X 1 t 0) text (shape_fits a.first a.size a.over X (omega arith) (omega arith))

pub returns-clause-shape : goal.returns-clause-shape
returns-clause-shape c = λ X e.
    let a = c.args in
    let n : ℕ = a.behind - a.first - 1 in
    let q : ℕ = n / a.size in
    let r : ℕ = a.behind - (a.first + q * a.size) in
    let below : q * a.size ≤ n = div-mul-le_self n a.size in
    let above : n < q * a.size + a.size = lt-div-mul-add {a = n} {b = a.size} (omega arith) in
    let size : length X ≡ a.first + (q * a.size + r) = omega arith in
    let whole = shape_of_parts a.first a.size a.over q r X size (omega arith) (omega arith) (omega arith) in
    let count : suc (suc q) ≡ q + 2 = omega arith in
    let text : (a.first - a.over) + (q * (a.size - a.over) + (r - a.over)) ≡ a.first - a.over + q * (a.size - a.over) + c.saturating_sub-2.result = omega (arith, c.saturating_sub-2.ensures) in
    subst (λ (k : ℕ). HasShape a.first a.size a.over X k (a.first - a.over + q * (a.size - a.over) + c.saturating_sub-2.result) (a.first + q * a.size)) count
    (subst (λ (t : ℕ). HasShape a.first a.size a.over X (suc (suc q)) t (a.first + q * a.size)) text whole)

pub returns-clause-room : goal.returns-clause-room
returns-clause-room c =
    let a = c.args in
    let n : ℕ = a.behind - a.first - 1 in
    let q : ℕ = n / a.size in
    let above : n < q * a.size + a.size = lt-div-mul-add {a = n} {b = a.size} (omega arith) in
    let number : q + 2 - 1 ≡ suc q = omega arith in
    let room : room_at a.first a.size (q + 2 - 1) ≡ a.size = ap (room_at a.first a.size) number in
    omega (arith, room, above)

pub overflow_mul-text : goal.overflow_mul-text
overflow_mul-text c =
    let a = c.args in
    let n : ℕ = a.behind - a.first - 1 in
    later_fit a.first a.size a.over a.behind (n / a.size) c.requires.over c.requires.fits c.if-behind-first.false (div-mul-le_self n a.size) c.ranges.behind.fits

pub overflow_add-text : goal.overflow_add-text
overflow_add-text c =
    let a = c.args in
    let n : ℕ = a.behind - a.first - 1 in
    full_fit a.first a.size a.over a.behind (n / a.size) c.requires.over c.requires.fits c.if-behind-first.false (div-mul-le_self n a.size) c.ranges.behind.fits

pub overflow_add-text-2 : goal.overflow_add-text-2
overflow_add-text-2 c =
    let a = c.args in
    let n : ℕ = a.behind - a.first - 1 in
    places_fit a.first a.size a.over a.behind (n / a.size) c.requires.over c.requires.fits c.if-behind-first.false (div-mul-le_self n a.size) c.saturating_sub-2.result c.saturating_sub-2.ensures c.ranges.behind.fits

pub returns-clause-text : goal.returns-clause-text
returns-clause-text c =
    let a = c.args in
    let n : ℕ = a.behind - a.first - 1 in
    places_few a.first a.size a.over a.behind (n / a.size) c.requires.over c.requires.fits c.if-behind-first.false (div-mul-le_self n a.size) c.saturating_sub-2.result c.saturating_sub-2.ensures
