use Rattle.std.proofs.Common.{◌≡◌, ◌∙◌, Ok, string_bytes, sym, ap}
use Rattle.tink_mac.specs.Wrapped.{primary_mac}
use Rattle.tink_mac.proofs.TokenFacts.{signing}
use Rattle.tink_mac.proofs.tokens.signing.sign.Goals as goal

pub returns : goal.returns
returns g c =
    let computed = primary_mac g.P.Mac.computes c.args.mac.now.ps.primary in
    let made : computed c.as_bytes-message.result.now ≡ Ok c.in_ok-tag.tag = c.in_ok-tag.ensures.answer in
    record {
      answer =
          signing g.P.Mac.computes c.args.mac.now.ps.primary c.args.payload.now (string_bytes c.in_ok-front.front) c.as_slice.result.now c.in_ok-tag.tag c.with_mac.result
          (λ i. (c.type_inv.payload i).fits) c.with_mac.ensures.fit c.in_ok-front.ensures.text c.as_slice.ensures (ap computed (sym c.as_bytes-message.ensures.value) ∙ made)
          c.with_mac.ensures.text c.with_mac.ensures.cause;
    }
