use Rattle.std.proofs.Common.{◌∙◌, sym, w32}
use Rattle.std.proofs.lemmas.Int.{to_z-of_z}
use Rattle.tink_sets.proofs.PrefixFacts.{known_type-none}
use Rattle.tink_sets.proofs.cryptofmt.known_type.Goals as goal

pub returns-in-Err : goal.returns-in-Err
returns-in-Err c = record { value = sym (known_type-none c.args.number (λ e is. c.in-Err.ensures e (is ∙ sym (to_z-of_z w32 c.args.number c.ranges.number)))) }
