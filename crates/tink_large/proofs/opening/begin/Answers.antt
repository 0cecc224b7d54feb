use Rattle.std.proofs.Common.{◌∙◌, arith}
use Rattle.tink_large.proofs.SealedSteps.{cipher_longer}
use Rattle.tink_large.proofs.StartSteps.{begun_answer, refused_answer}
use Rattle.tink_large.proofs.opening.begin.Goals as goal

pub returns-clause-begun : goal.returns-clause-begun
returns-clause-begun c =
    let s = c.begin_stream.ensures in
    begun_answer c.args.key.now c.args.draws.now c.begin_stream.new.draws c.args.pending.now c.begin_stream.new.sink c.requires.key c.requires.empty c.begin_stream.result _ (s.same.1 ∙ c.requires.given)
    (λ w. cipher_longer w.sealer.encrypter w.sealer.prefix.items w.sealer.nonce_size w.sealer.overhead w.sealer.overhead_is) s.answer

pub returns-clause-refused : goal.returns-clause-refused
returns-clause-refused c =
    let s = c.begin_stream.ensures in
    let p = c.begin_stream.new.sink in
    refused_answer c.args.key.now c.args.draws.now c.begin_stream.new.draws c.args.pending.now p c.requires.key c.requires.empty c.begin_stream.result _ (omega (arith, c.requires.room, s.same.0))
    (λ rose. omega (arith, p.full rose, p.bytes.ok.0)) s.answer
