use Rattle.std.proofs.Common.{◌≡◌, ◌++◌, ◌+◌, ◌%◌, map, take, drop}
use Rattle.test_cipher.proofs.shifted.add_to_each.Given as goal

abbrev pub invariant-loop-i : goal.invariant-loop-i
invariant-loop-i l = l.output ≡ map (λ x. (x + l.key) % 256) (take l.i l.initial.output) ++ drop l.i l.initial.output
