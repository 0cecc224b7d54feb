use Rattle.std.proofs.Common.{◌≡◌, ◌∙◌, ◌∷◌, ◌++◌, [], List, ap}
use Rattle.tink_set_groups.proofs.VecKeys.{groups_begun}
use Rattle.tink_set_groups.proofs.groups.begin_group.Goals as goal

pub returns-clause-ok : goal.returns-clause-ok
returns-clause-ok g c =
    let key : c.in_ok-key.key.items ≡ c.args.prefix.now = c.in_ok-key.ensures.items_if_clones_equal (λ x y e. e) in
    let more : c.push.new.self ≡ c.args.entry ∷ [] = c.in_ok-push.ensures.ok ∙ ap (λ (xs : List g.row.E.Denot). xs ++ c.args.entry ∷ []) (c.from_vec-group.ensures ∙ c.in_ok-with_capacity.ensures.items) in
    let written = c.in_ok-insert.ensures.updates in
    groups_begun c.args.prefix.now c.in_ok-key.key.items c.args.groups.now c.insert.new.self c.args.entry c.push.new.self key c.requires.none more written
