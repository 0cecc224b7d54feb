use Rattle.std.proofs.Common.{◌≡◌, arith, length, refl}
use Rattle.cipher.proofs.buffers.InOutBuf.new.Goals as goal

pub returns-clause-ok : goal.returns-clause-ok
returns-clause-ok g c =
    let same : length c.args.input.now ≡ length c.args.output.now = omega arith in
    ((λ _. same), (λ _. refl))
