use Rattle.std.proofs.Common.{◌≡◌, ◌*◌, ◌/◌, ◌^◌}
use Rattle.standards.specs.Ghash.{product_low}
use Rattle.gcm.proofs.large_multiples.LargeMultiples.times.Given as goal

-- the product with the polynomial of the lowest bits
abbrev pub invariant-loop-i : goal.invariant-loop-i
invariant-loop-i l = record {
  rest : l.rest ≡ l.fn.x / 2 ^ (8 * l.i);
  sum : l.z ≡ product_low l.self l.fn.x (8 * l.i);
}
