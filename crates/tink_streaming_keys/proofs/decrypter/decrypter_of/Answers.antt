use Rattle.std.proofs.Common.{◌≡◌, ◌-◌, arith}
use Rattle.tink_streaming_keys.proofs.DecrypterFacts.{decrypter_means, none_derived}
use Rattle.tink_streaming_keys.proofs.decrypter.decrypter_of.Goals as goal

pub returns-clause-answer : goal.returns-clause-answer
returns-clause-answer g c =
    let size = c.header_length-size.ensures in
    let key = g.T.DerivesStreams.key_of c.args.key.now in
    let salt : c.header_length-size.result - 7 - 1 ≡ key.derived = omega (arith, size.value) in
    decrypter_means key c.args.aad.now c.args.header.now _ c.derive.result size.usable
    (record { long = omega (arith, size.value, c.if-header-size.false); mark = omega (arith, size.value, c.from.ensures, c.if-from-size.false) }) salt c.derive.ensures

pub returns-clause-none : goal.returns-clause-none
returns-clause-none g c = none_derived (g.T.DerivesStreams.key_of c.args.key.now) c.args.aad.now c.args.header.now _ c.derive.result c.derive.ensures
