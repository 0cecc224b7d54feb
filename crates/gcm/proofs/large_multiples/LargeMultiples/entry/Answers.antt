use Rattle.std.proofs.Common.{◌%◌, ◌<◌, ◌^◌, ◌∙◌, [], ap, get_or, subst, arith}
use Rattle.gcm.specs.Carries.{bytes_of}
use Rattle.gcm.specs.Multiples.{multiple8}
use Rattle.gcm.proofs.EightBits.{multiple8_below}
use Rattle.gcm.proofs.large_multiples.LargeMultiples.entry.Goals as goal

pub returns : goal.returns
returns c =
    let m = c.self.inside in
    let k = c.args.x % 256 in
    let fits = subst (λ y. y < 2 ^ 128) c.self.view_is c.self.invariant.fits in
    c.number_of.ensures (multiple8 c.args.self.now k) (multiple8_below c.args.self.now k fits)
    (ap (λ n. get_or m.table n []) c.low_byte.ensures ∙ c.self.invariant.table k (omega arith) ∙ ap (λ y. bytes_of (multiple8 y k)) c.self.view_is)
