use Rattle.std.proofs.Common.{◌≡◌, ◌-◌, arith}
use Rattle.tink_streaming_keys.proofs.DerivedKeys.{derived_nonce, derived_overhead, derived_under, underived}
use Rattle.tink_streaming_keys.proofs.key_under.KeyUnderOpensStreamsStreamSegment.derive.Goals as goal

pub returns-in-Ok-clause-some : goal.returns-in-Ok-clause-some
returns-in-Ok-clause-some g c =
    let key = g.T.DerivesStreams.key_of c.args.self.now.key.now in
    let size : c.header_length-end.result - 7 - 1 ≡ key.derived = omega (arith, c.header_length-end.ensures.value) in
    derived_under key c.args.self.now.aad.now c.args.header.now c.in-Ok.cipher (rw size at c.in-Ok.ensures)

pub returns-in-Ok-clause-nonce : goal.returns-in-Ok-clause-nonce
returns-in-Ok-clause-nonce g c = derived_nonce (g.T.DerivesStreams.key_of c.args.self.now.key.now) c.args.self.now.aad.now _ c.in-Ok.cipher c.in-Ok.ensures

pub returns-in-Ok-clause-overhead : goal.returns-in-Ok-clause-overhead
returns-in-Ok-clause-overhead g c = derived_overhead (g.T.DerivesStreams.key_of c.args.self.now.key.now) c.args.self.now.aad.now _ c.in-Ok.cipher c.in-Ok.ensures c.header_length-end.ensures.usable.tag

pub returns-in-Err-clause-some : goal.returns-in-Err-clause-some
returns-in-Err-clause-some g c = tt

pub returns-in-Err-clause-none : goal.returns-in-Err-clause-none
returns-in-Err-clause-none g c = λ _. underived (g.T.DerivesStreams.key_of c.args.self.now.key.now) c.args.self.now.aad.now c.args.header.now _ c.in-Err.ensures

pub returns-in-Err-clause-nonce : goal.returns-in-Err-clause-nonce
returns-in-Err-clause-nonce g c = tt

pub returns-in-Err-clause-overhead : goal.returns-in-Err-clause-overhead
returns-in-Err-clause-overhead g c = tt
