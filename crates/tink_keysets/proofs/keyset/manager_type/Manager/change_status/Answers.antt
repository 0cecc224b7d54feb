use Rattle.std.proofs.Common.{◌≡◌, Some, true, rules}
use Rattle.keyset_model.specs.Edits.{status_of, is_live}
use Rattle.keyset_model.proofs.EditLaws.{held_with_status}
use Rattle.tink_keysets.proofs.keyset.manager_type.Manager.change_status.Goals as goal

pub invariant_of-self : goal.invariant_of-self
invariant_of-self c =
    let live : is_live c.in-Some.now ≡ true = search rules in
    let found : status_of c.args.id c.self.inside.keys.items ≡ Some c.in-Some.now = search rules in
    rw c.put_status.ensures (held_with_status c.args.status c.args.id c.self.inside.keys.items c.in-Some.now found live c.self.invariant)
