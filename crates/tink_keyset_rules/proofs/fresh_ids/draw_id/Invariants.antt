use Rattle.std.proofs.Common.{◌≡◌, ◌-◌}
use Rattle.keyset_model.specs.Adding.{fresh_id}
use Rattle.tink_keyset_rules.proofs.fresh_ids.draw_id.Given as goal

-- the ids drawn so far were taken
abbrev pub invariant-loop : goal.invariant-loop
invariant-loop l = fresh_id l.keys 128 l.initial.draws ≡ fresh_id l.keys (128 - l.counter) l.draws
