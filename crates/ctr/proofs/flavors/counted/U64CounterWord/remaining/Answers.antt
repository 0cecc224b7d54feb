use Rattle.std.proofs.Common.{ℕ, ◌-◌, ◌^◌, arith, ap, cond, sym, Some, None}
use Rattle.std.proofs.lemmas.Bool.{lt-ltb}
use Rattle.ctr.proofs.flavors.counted.U64CounterWord.remaining.Goals as goal

pub returns : goal.returns
returns c =
    let left : ℕ = 2 ^ 64 - 1 - c.args.self in
    record { value = sym (ap (λ t. cond t (Some left) None) (lt-ltb left (2 ^ 64) (omega arith))) }
