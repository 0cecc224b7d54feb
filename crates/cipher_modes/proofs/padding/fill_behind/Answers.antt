use Rattle.cipher_modes.proofs.EndLemmas.{filled}
use Rattle.std.proofs.Common.{refl}
use Rattle.cipher_modes.proofs.padding.fill_behind.Goals as goal

pub returns-clause-value : goal.returns-clause-value
returns-clause-value c = (refl, filled c.args.buffer.now c.fill.new.self c.args.len c.args.count c.args.value c.if-len-buffer.false c.if-count-buffer.false (c.fill.ensures.after (λ y h. h)))
