use Rattle.std.proofs.Common.{◌≡◌, ◌%◌, arith, refl}
use Rattle.cipher_modes.proofs.padding.NoPaddingPadding.pad.Goals as goal

pub returns-clause-ok : goal.returns-clause-ok
returns-clause-ok c =
    let whole : c.args.len % c.args.block_size ≡ 0 = omega arith in
    rw whole ((λ _. omega arith), (λ _. refl))
