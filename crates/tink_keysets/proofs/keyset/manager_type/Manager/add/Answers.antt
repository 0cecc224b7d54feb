use Rattle.std.proofs.Common.{◌≡◌, IsTrue, List, subst, sym}
use Rattle.std.specs.List.{list_all}
use Rattle.tink_proto.specs.declared.messages.keys.Key.{Key}
use Rattle.tink_proto.specs.declared.messages.keys.Keyset.{Keyset}
use Rattle.keyset_model.specs.Adding.{added}
use Rattle.keyset_model.specs.Validity.{fits_handle}
use Rattle.tink_keyset_rules.specs.Managed.{data_by, IsAdded}
use Rattle.tink_keyset_rules.proofs.AddingFacts.{fresh_added, is_added, left_added, refused_data, replies_added, same_keys}
use Rattle.tink_keyset_rules.proofs.GivenData.{gives_held}
use Rattle.tink_keysets.proofs.ThroughFacts.{so_on_ok}
use Rattle.tink_keysets.proofs.keyset.manager_type.Manager.add.Goals as goal

pub returns-in-Ok : goal.returns-in-Ok
returns-in-Ok g c =
    let ks = c.args.self.now in
    let made = data_by g.M.KeyManager.url g.M.KeyManager.makes_data c.args.registry.now.managers c.args.kt.now c.args.draws.now in
    let now : Keyset = record { primary_key_id = c.put_new.new.primary; key = c.put_new.new.keys.items } in
    let held : record { primary_key_id = c.self.inside.primary; key = c.reserve.new.self.items } ≡ ks = same_keys _ _ _ _ c.self.view_is c.in_ok-reserve.ensures.items in
    let told : IsAdded c.put_new.result now c.put_new.new.draws (added ks c.args.kt.now c.args.as_primary made) =
    is_added ks _ c.args.kt.now c.args.as_primary made c.in-Ok.key_data c.new_data.new.draws c.put_new.result now c.put_new.new.draws held c.in-Ok.ensures.0 c.in-Ok.ensures.1 c.put_new.ensures.added in
    record {
      replies = replies_added _ c.put_new.result now c.args.draws.now c.put_new.new.draws told;
      keyset = so_on_ok c.put_new.result _ told.keyset;
      err = left_added ks c.args.kt.now c.args.as_primary made c.put_new.result now c.put_new.new.draws told;
      fresh = fresh_added ks c.args.kt.now c.args.as_primary made c.put_new.result now c.put_new.new.draws told;
    }

pub returns-in-Err-clause-replies : goal.returns-in-Err-clause-replies
returns-in-Err-clause-replies g c =
    refused_data c.args.self.now c.args.kt.now c.args.as_primary
    (data_by g.M.KeyManager.url g.M.KeyManager.makes_data c.args.registry.now.managers c.args.kt.now c.args.draws.now)
    c.in-Err.e.kind c.args.draws.now c.new_data.new.draws c.in-Err.ensures

pub returns-in-Err-clause-err : goal.returns-in-Err-clause-err
returns-in-Err-clause-err g c = same_keys _ _ _ _ c.self.view_is c.in_ok-reserve.ensures.items

pub put_new-requires-clause-known : goal.put_new-requires-clause-known
put_new-requires-clause-known g c =
    (gives_held g.M.KeyManager.url g.M.KeyManager.makes_data c.args.registry.now.managers g.met.M.KeyManager.new_material c.args.kt.now c.args.draws.now c.in-Ok.key_data c.in-Ok.ensures.0).0

pub returns-in-Err-clause-keyset : goal.returns-in-Err-clause-keyset
returns-in-Err-clause-keyset g c = tt

pub returns-in-Err-clause-fresh : goal.returns-in-Err-clause-fresh
returns-in-Err-clause-fresh g c = tt

pub invariant_of-self-in-Ok : goal.invariant_of-self-in-Ok
invariant_of-self-in-Ok g c = c.put_new.ensures.held (subst (λ (keys : List Key). IsTrue (list_all fits_handle keys)) (sym c.in_ok-reserve.ensures.items) c.self.invariant)

pub invariant_of-self-in-Err : goal.invariant_of-self-in-Err
invariant_of-self-in-Err g c = subst (λ (keys : List Key). IsTrue (list_all fits_handle keys)) (sym c.in_ok-reserve.ensures.items) c.self.invariant
