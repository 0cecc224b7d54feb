use Rattle.std.proofs.Common.{Bool, ap, refl}
use Rattle.std.specs.Prelude.{Ok, Err, if◌then◌else◌}
use Rattle.std.proofs.lemmas.Slice.Eq.{bytes_eq-Decides}
use Rattle.tink_io.specs.declared.error.Kind.TheVariants.{MacMismatch}
use Rattle.tink_mac.proofs.subtle.compare_tags.Goals as goal

pub returns-then-constant_time_compare : goal.returns-then-constant_time_compare
returns-then-constant_time_compare c =
    let is = (bytes_eq-Decides c.args.own.now c.args.tag.now).1 (c.if-constant_time_compare.ensures.0 refl) in
    ap (λ (b : Bool). if b then Ok tt else Err MacMismatch) is
