use Rattle.std.proofs.Common.{◌≡◌, ◌∙◌, sym, ap, inl, inr}
use Rattle.std.proofs.lemmas.Result.{err_from_is_err_and}
use Rattle.tink_sets.specs.Groups.{group_of}
use Rattle.tink_mac.proofs.TokenFacts.{checked, unread}
use Rattle.tink_mac.proofs.tokens.signing.verify_token.Goals as goal

pub returns-in_default : goal.returns-in_default
returns-in_default g c = inr (inl (ap (λ e. e.kind) c.new.ensures, λ p m is. c.in_default.ensures p m is.text))

pub returns-in_err-payload : goal.returns-in_err-payload
returns-in_err-payload g c =
    let split = c.in-Some.ensures in
    let returned = err_from_is_err_and c.from_residual.result c.from_residual.ensures.1 in
    rw (returned.1, returned.2)
    (unread g.P.Mac.verifies (group_of c.args.mac.now.ps.entries) c.args.token.now c.in-Some.front.now c.in_err-payload.field-0.0 c.in_err-payload.ensures
    (λ p m is. (p, (is.payload_bytes, (split.alone p m is.text).0))))

pub returns : goal.returns
returns g c =
    checked g.P.Mac.verifies (group_of c.args.mac.now.ps.entries) c.args.token.now c.in-Some.front.now c.in-Some.back.now c.in_ok-payload.payload c.in_ok-tag.tag c.payload_if_accepted.result
    c.in-Some.ensures c.in_ok-payload.ensures c.in_ok-tag.ensures c.payload_if_accepted.ensures
