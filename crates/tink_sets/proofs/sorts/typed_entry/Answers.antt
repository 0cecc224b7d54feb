use Rattle.std.proofs.Common.{◌∙◌, List, ℕ, Ok, ap, subst, sym, inl, inr}
use Rattle.tink_io.specs.Answering.{Tells, made_of}
use Rattle.tink_sets.specs.Entries.{with_primitive}
use Rattle.tink_sets.proofs.BesideFacts.{made, refused}
use Rattle.tink_sets.proofs.sorts.typed_entry.Goals as goal

pub returns-in-Ok : goal.returns-in-Ok
returns-in-Ok g c =
    let both = made c.args.prefix c.in-Ok.prefix c.in-Ok.primitive c.pick.result c.beside.result c.beside.ensures c.in-Ok.is in
    let picked = subst (λ r. Tells r (g.S.Sort.picks c.args.primitive)) both.1 c.pick.ensures.value in
    record {
      answer = ap (λ p. made_of (with_primitive c.args.from.now) (g.S.Sort.picks p)) (sym c.requires.primitive)
          ∙ ap (made_of (with_primitive c.args.from.now)) picked
          ∙ ap (λ (prefix : List ℕ). Ok (record {
            key_id = c.args.from.now.key_id;
            primitive = c.in-Ok.primitive;
            prefix = prefix;
            prefix_type = c.args.from.now.prefix_type;
            status = c.args.from.now.status;
          })) (sym (both.0 ∙ c.requires.prefix));
    }

pub returns-in-Err : goal.returns-in-Err
returns-in-Err g c =
    let no = refused c.args.prefix c.in-Err.e c.pick.result c.beside.result c.beside.ensures c.in-Err.is in
    let wrong = subst (λ r. Tells r (g.S.Sort.picks c.args.primitive)) no c.pick.ensures.value in
    record {
      answer = inr (ap (λ p. made_of (with_primitive c.args.from.now) (g.S.Sort.picks p)) (sym c.requires.primitive) ∙ ap (made_of (with_primitive c.args.from.now)) wrong);
    }
