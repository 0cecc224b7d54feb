use Rattle.std.proofs.Common.{◌≡◌, ◌∷◌, refl, rules}
use Rattle.tink_keyset_rules.proofs.ShownLemmas.{keys_written}
use Rattle.tink_keyset_rules.proofs.shown.write_keys.Goals as goal

pub returns-in_ok-write_key-in-Some : goal.returns-in_ok-write_key-in-Some
returns-in_ok-write_key-in-Some g c = λ plain ok.
    let all : c.args.keys.now ≡ c.in-Some.first.now ∷ c.in-Some.rest.now = search rules in
    let begun = c.in_ok-write_key-in-Some.ensures plain refl in
    keys_written g.W.Write.write_str_gives c.args.f.now c.write_key.new.f c.write_further.new.f c.args.keys.now c.in-Some.first.now c.in-Some.rest.now all begun
    (c.write_further.ensures begun.plain ok)
