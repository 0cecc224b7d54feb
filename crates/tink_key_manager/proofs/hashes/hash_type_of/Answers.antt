use Rattle.std.proofs.Common.{sym, ◌∙◌, ap}
use Rattle.std.specs.Int.{w32}
use Rattle.std.proofs.lemmas.Int.{to_z-of_z}
use Rattle.tink_key_manager.specs.HashTypes.{hash_type_of}
use Rattle.tink_key_manager.proofs.HashTypeFacts.{hash_type_of-hash_number, unnumbered}
use Rattle.tink_key_manager.proofs.hashes.hash_type_of.Goals as goal

pub returns-in-Ok : goal.returns-in-Ok
returns-in-Ok c = sym (hash_type_of-hash_number c.in-Ok.hash) ∙ ap hash_type_of (c.in-Ok.ensures ∙ to_z-of_z w32 c.args.number c.ranges.number)

pub returns-in-Err : goal.returns-in-Err
returns-in-Err c = sym (unnumbered c.args.number (λ e is. c.in-Err.ensures e (is ∙ sym (to_z-of_z w32 c.args.number c.ranges.number))))
