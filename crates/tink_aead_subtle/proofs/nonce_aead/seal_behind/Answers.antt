use Rattle.std.proofs.Common.{◌++◌, length, ap, ap₂, ◌∙◌}
use Rattle.gcm.proofs.Parts.{written}
use Rattle.tink_aead_subtle.proofs.nonce_aead.seal_behind.Goals as goal

pub returns : goal.returns
returns g c =
    written 12 c.args.out.now c.copy_from_slice.new.self c.seal_into.new.out (ap length c.copy_from_slice.ensures.after ∙ c.told-nonce)
    ∙ ap₂ (λ x y. x ++ y) c.copy_from_slice.ensures.after c.in-Ok.ensures.1
