use Rattle.std.proofs.Common.{map}
use Rattle.stream_model.specs.Opening.{opening_key}
use Rattle.tink_io.specs.declared.error.Kind.TheVariants.{NoMatchingKey, ReadFault}
use Rattle.tink_range.proofs.ObjectSteps.{below, front_and_rest, front_below, refusal_leaves, some_behind}
use Rattle.tink_range.proofs.StartAtFacts.{fault_untried, start_refusal}
use Rattle.tink_range.proofs.starting_at.start_placed.Goals as goal

pub choose_at-requires : goal.choose_at-requires
choose_at-requires g c = record { room = c.requires.room }

-- no key is chosen

pub returns-in-Ok-None-clause-refused : goal.returns-in-Ok-None-clause-refused
returns-in-Ok-None-clause-refused g c =
    start_refusal (map (λ k. opening_key c.args.aad.now (g.T.DerivesStreams.key_of k)) c.args.keys.now) (g.A.ReadAt.bytes c.args.object.now) (g.A.ReadAt.faults c.args.object.now) (g.A.ReadAt.faults c.choose_at.new.object)
    c.new-in-Ok-None.result NoMatchingKey c.new-in-Ok-None.ensures (c.in-Ok-None.ensures.none c.in-Ok-None.field-0-is)

pub returns-in-Ok-None-clause-kept : goal.returns-in-Ok-None-clause-kept
returns-in-Ok-None-clause-kept g c =
    refusal_leaves g.A.ReadAt.length_of g.A.ReadAt.bytes g.A.ReadAt.faults c.args.object.now c.choose_at.new.object c.new-in-Ok-None.result NoMatchingKey c.new-in-Ok-None.ensures c.in-Ok-None.ensures.read.kept c.in-Ok-None.ensures.read.count

-- the object failed

pub returns-in-Err-clause-refused : goal.returns-in-Err-clause-refused
returns-in-Err-clause-refused g c =
    start_refusal (map (λ k. opening_key c.args.aad.now (g.T.DerivesStreams.key_of k)) c.args.keys.now) (g.A.ReadAt.bytes c.args.object.now) (g.A.ReadAt.faults c.args.object.now) (g.A.ReadAt.faults c.choose_at.new.object)
    c.new.result ReadFault c.new.ensures c.in-Err.ensures.read.count

pub returns-in-Err-clause-tried : goal.returns-in-Err-clause-tried
returns-in-Err-clause-tried g c = fault_untried c.new.result c.new.ensures

pub returns-in-Err-clause-kept : goal.returns-in-Err-clause-kept
returns-in-Err-clause-kept g c =
    refusal_leaves g.A.ReadAt.length_of g.A.ReadAt.bytes g.A.ReadAt.faults c.args.object.now c.choose_at.new.object c.new.result ReadFault c.new.ensures c.in-Err.ensures.read.kept c.in-Err.ensures.read.count

-- a key is chosen

pub returns-in-Ok-Some-clause-found : goal.returns-in-Ok-Some-clause-found
returns-in-Ok-Some-clause-found g c = let begun = rw c.in-Ok-Some.field-0-is at c.in-Ok-Some.ensures.found in begun.found

pub returns-in-Ok-Some-clause-kept : goal.returns-in-Ok-Some-clause-kept
returns-in-Ok-Some-clause-kept g c = let kept = c.in-Ok-Some.ensures.read.kept in record { length_is = kept.length_is; bytes_are = kept.bytes_are; later = kept.later; count = c.in-Ok-Some.ensures.read.count }

pub returns-in-Ok-Some-clause-same : goal.returns-in-Ok-Some-clause-same
returns-in-Ok-Some-clause-same g c = c.in-Ok-Some.ensures.read.same

pub returns-in-Ok-Some-clause-ticks : goal.returns-in-Ok-Some-clause-ticks
returns-in-Ok-Some-clause-ticks g c = c.in-Ok-Some.ensures.ticks

pub returns-in-Ok-Some-clause-tried : goal.returns-in-Ok-Some-clause-tried
returns-in-Ok-Some-clause-tried g c = c.in-Ok-Some.ensures.tries

pub returns-in-Ok-None-clause-tried : goal.returns-in-Ok-None-clause-tried
returns-in-Ok-None-clause-tried g c = λ _. c.in-Ok-None.ensures.tries

pub returns-in-Ok-None-clause-same : goal.returns-in-Ok-None-clause-same
returns-in-Ok-None-clause-same g c = c.in-Ok-None.ensures.read.same

pub returns-in-Err-clause-same : goal.returns-in-Err-clause-same
returns-in-Err-clause-same g c = c.in-Err.ensures.read.same

pub returns-in-Ok-None-clause-ticks : goal.returns-in-Ok-None-clause-ticks
returns-in-Ok-None-clause-ticks g c = c.in-Ok-None.ensures.ticks

pub returns-in-Err-clause-ticks : goal.returns-in-Err-clause-ticks
returns-in-Err-clause-ticks g c = c.in-Err.ensures.ticks

-- the chunks are behind the front

pub overflow_sub-behind : goal.overflow_sub-behind
overflow_sub-behind g c =
    let begun = rw c.in-Ok-Some.field-0-is at c.in-Ok-Some.ensures.found in
    below _ _ (front_below c.in-Ok-Some.field-0-0.begun.front _ _ c.size.result begun.inside c.in-Ok-Some.ensures.read.kept.length_is c.size.ensures)

pub returns-in-Ok-Some-clause-whole : goal.returns-in-Ok-Some-clause-whole
returns-in-Ok-Some-clause-whole g c =
    let begun = rw c.in-Ok-Some.field-0-is at c.in-Ok-Some.ensures.found in
    front_and_rest c.in-Ok-Some.field-0-0.begun.front _ _ c.size.result begun.inside c.in-Ok-Some.ensures.read.kept.length_is c.size.ensures

pub invariant_of-core-clause-sealed : goal.invariant_of-core-clause-sealed
invariant_of-core-clause-sealed g c = let room = rw c.in-Ok-Some.field-0-is at c.in-Ok-Some.ensures.room in room.sealed_room

pub invariant_of-core-clause-text : goal.invariant_of-core-clause-text
invariant_of-core-clause-text g c = let room = rw c.in-Ok-Some.field-0-is at c.in-Ok-Some.ensures.room in room.text_room

pub invariant_of-core-clause-nonce : goal.invariant_of-core-clause-nonce
invariant_of-core-clause-nonce g c = let room = rw c.in-Ok-Some.field-0-is at c.in-Ok-Some.ensures.room in room.nonce_room

pub invariant_of-core-clause-some : goal.invariant_of-core-clause-some
invariant_of-core-clause-some g c =
    let begun = rw c.in-Ok-Some.field-0-is at c.in-Ok-Some.ensures.found in
    some_behind _ _ (front_below c.in-Ok-Some.field-0-0.begun.front _ _ c.size.result begun.inside c.in-Ok-Some.ensures.read.kept.length_is c.size.ensures)

pub returns-in-Ok-Some-clause-placed : goal.returns-in-Ok-Some-clause-placed
returns-in-Ok-Some-clause-placed g c = rw c.in-Ok-Some.field-0-is at c.in-Ok-Some.ensures.placed

pub returns-in-Ok-Some-clause-taken : goal.returns-in-Ok-Some-clause-taken
returns-in-Ok-Some-clause-taken g c = c.in-Ok-Some.ensures.taken

pub returns-in-Ok-None-clause-taken : goal.returns-in-Ok-None-clause-taken
returns-in-Ok-None-clause-taken g c = c.in-Ok-None.ensures.taken

pub returns-in-Err-clause-taken : goal.returns-in-Err-clause-taken
returns-in-Err-clause-taken g c = c.in-Err.ensures.taken
