use Rattle.std.proofs.Common.{sym, ◌∙◌}
use Rattle.std.specs.Int.{w32}
use Rattle.std.proofs.lemmas.Int.{to_z-of_z}
use Rattle.tink_streaming_managers.proofs.KeyFacts.{unnumbered}
use Rattle.tink_streaming_managers.proofs.key_sizes.hash_numbered.Goals as goal

pub returns-in-Err : goal.returns-in-Err
returns-in-Err c = sym (unnumbered c.args.number (λ e is. c.in-Err.ensures e (is ∙ sym (to_z-of_z w32 c.args.number c.ranges.number))))
