use Rattle.std.proofs.Common.{◌≡◌, ◌+◌, ◌<◌, ◌≤◌, ℕ, Bool, true, false, cond, Some, length, nat_eq, ap, subst, sym, ◌∙◌, arith}
use Rattle.std.proofs.lemmas.Bool.{eqb-true, eqb-false}
use Rattle.wire_format.proofs.ReadingLaws.{shorter, reads_on, stops, ends}
use Rattle.tink_proto.specs.View.{field_of}
use Rattle.tink_keyset_io.specs.Room.{more_keys}
use Rattle.tink_keyset_io.proofs.key_files.room.keys_in.Goals as goal

one_more : (is_key : Bool) (keys : ℕ) → cond is_key (keys + 1) keys ≤ keys + 1
one_more true keys = omega arith
one_more false keys = omega arith

bounded_on : (keys n left after whole : ℕ) → n ≤ keys + 1 → after < left → keys + left ≤ whole → n + after ≤ whole
bounded_on keys n left after whole more less bounded = omega arith

pub returns-in_default : goal.returns-in_default
returns-in_default c =
    let some : 0 < length c.loop-rest.rest.now = omega (arith, eqb-false _ _ (sym c.loop-rest-test.ensures)) in
    sym (sym c.loop-rest.invariant.counted ∙ stops more_keys c.loop-rest.keys c.loop-rest.rest.now some c.in_default.ensures)

pub loop-rest-smaller : goal.loop-rest-smaller
loop-rest-smaller c = shorter c.loop-rest.rest.now (field_of c.in-Some.field, c.in-Some.after.now) c.in-Some.ensures

pub loop-rest-preserved : goal.loop-rest-preserved
loop-rest-preserved c =
    let keys = c.loop-rest.keys in
    let less = shorter c.loop-rest.rest.now (field_of c.in-Some.field, c.in-Some.after.now) c.in-Some.ensures in
    record {
      counted =
          reads_on more_keys keys c.more_keys-keys.result c.loop-rest.rest.now (field_of c.in-Some.field, c.in-Some.after.now) c.in-Some.ensures
          (ap (λ (n : ℕ). Some n) (sym c.more_keys-keys.ensures)) ∙ c.loop-rest.invariant.counted;
      bounded =
          bounded_on keys c.more_keys-keys.result (length c.loop-rest.rest.now) (length c.in-Some.after.now) _
          (subst (λ n. n ≤ keys + 1) (sym c.more_keys-keys.ensures) (one_more (nat_eq c.in-Some.field.number 2) keys)) less c.loop-rest.invariant.bounded;
    }

pub returns : goal.returns
returns c =
    let none : length c.loop-rest.rest.now ≡ 0 = eqb-true _ _ (sym c.loop-rest-test.ensures) in
    sym (sym c.loop-rest.invariant.counted ∙ ends more_keys c.loop-rest.keys c.loop-rest.rest.now none)
