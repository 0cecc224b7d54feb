use Rattle.std.proofs.Common.{Ok, Err}
use Rattle.tink_proto.specs.declared.messages.keys.Keyset.{Keyset}
use Rattle.keyset_model.specs.Adding.{fresh_id}
use Rattle.tink_keyset_rules.proofs.AddingFacts.{by_keys, put_none, put_with}
use Rattle.tink_keyset_rules.proofs.adding.put_new.Goals as goal

pub returns-in-Ok-clause-added : goal.returns-in-Ok-clause-added
returns-in-Ok-clause-added c =
    let ks : Keyset = record { primary_key_id = c.args.primary.now; key = c.args.keys.now.items } in
    by_keys ks c.args.kt.now c.args.as_primary c.args.key_data c.args.draws.now (Ok c.in-Ok.id) _ c.draw_id.new.draws c.deref.result.now c.args.keys.now.items c.deref.ensures.value
    (put_with ks c.args.kt.now c.args.as_primary c.args.key_data (fresh_id c.deref.result.now 128 c.args.draws.now) c.draw_id.new.draws c.in-Ok.ensures.left
    c.in-Ok.id c.primary_after.result c.put_key.new.keys.items c.in-Ok.ensures.ok c.primary_after.ensures c.put_key.ensures.items)

pub returns-in-Err-clause-added : goal.returns-in-Err-clause-added
returns-in-Err-clause-added c =
    let ks : Keyset = record { primary_key_id = c.args.primary.now; key = c.args.keys.now.items } in
    by_keys ks c.args.kt.now c.args.as_primary c.args.key_data c.args.draws.now (Err c.in-Err.e) ks c.draw_id.new.draws c.deref.result.now c.args.keys.now.items c.deref.ensures.value
    (put_none ks c.args.kt.now c.args.as_primary c.args.key_data (fresh_id c.deref.result.now 128 c.args.draws.now) c.draw_id.new.draws c.in-Err.ensures.left c.in-Err.e c.in-Err.ensures.err)
