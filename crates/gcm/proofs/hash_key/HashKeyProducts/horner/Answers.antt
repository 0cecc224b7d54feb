use Rattle.std.proofs.Common.{◌∙◌, ap, get_or}
use Rattle.gcm.specs.Multiples.{horner}
use Rattle.gcm.proofs.Ring.{by_powers}
use Rattle.gcm.proofs.hash_key.HashKeyProducts.horner.Goals as goal

pub returns : goal.returns
returns c =
    let k = c.self.inside in
    let x = c.args.x in
    c.sum_of_products.ensures
    ∙ by_powers k.first k.second k.third k.fourth (get_or x 0 0) (get_or x 1 0) (get_or x 2 0) (get_or x 3 0) c.self.invariant
    ∙ ap (λ h. horner h (get_or x 0 0) (get_or x 1 0) (get_or x 2 0) (get_or x 3 0)) c.self.view_is
