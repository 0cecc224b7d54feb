-- What remains of the tests' cores.
use Rattle.std.proofs.Common.{◌≡◌, ℕ, ◌+◌, ◌-◌, ◌%◌, ◌<◌, Bool, true, false, cond, ap, sym, ◌∙◌, refl, arith, Some, None}
use Rattle.std.proofs.Math.Nat.{mod-eq_of_lt}
use Rattle.cipher_stream.specs.Keystream.{Spends}

counted : (p c c' n : ℕ) → c' < p → c + n < p → c' % p ≡ (c + n) % p → c' ≡ c + n
counted p c c' n h within m = sym (mod-eq_of_lt h) ∙ (m ∙ mod-eq_of_lt within)

pub spent_counter : (p c c' n : ℕ) → c < p → c' < p → c' % p ≡ (c + n) % p → Spends (Some (p - 1 - c)) n (Some (p - 1 - c'))
spent_counter p c c' n h h' m = λ le. let e = counted p c c' n h' (omega arith) m in ap Some (omega arith)

pub spent_left : (none : Bool) (p t c c' n : ℕ) → t < p → c < p → c' < p → c' % p ≡ (c + n) % p → Spends (cond none None (Some (t - c))) n (cond none None (Some (t - c')))
spent_left true p t c c' n g h h' m = refl
spent_left false p t c c' n g h h' m = λ le. let e = counted p c c' n h' (omega arith) m in ap Some (omega arith)
