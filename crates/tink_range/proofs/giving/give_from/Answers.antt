use Rattle.std.proofs.Common.{◌≡◌, ◌≤◌, ◌<◌, ◌+◌, ◌-◌, ℕ, List, length, IfSome, refl, sym, ap, subst, ◌∙◌, arith, le_trans}
use Rattle.std.specs.Prelude.{Ok, Err}
use Rattle.std.specs.declared.option.Option.{Option}
use Rattle.stream_model.specs.Cut.{room_at}
use Rattle.tink_range.specs.RangeCores.{cutting_of}
use Rattle.tink_range.proofs.GivingEnds.{gave_all, gave_refused, same_one}
use Rattle.tink_range.proofs.GivingTold.{IsNext, all_ticks, all_touched, before_few, last_ticks, next_giving, next_opened, next_place_is, next_ticks, nothing_given, nothing_opened, within_few}
use Rattle.tink_range.proofs.ObjectSteps.{core_trans, given_fits, keeps_trans, leaves_trans, less_left, ok_keeps, ok_leaves, whole_of}
use Rattle.tink_range.proofs.PlaceFacts.{is_reached, number_few, room_some, text_before}
use Rattle.tink_range.proofs.ReadingFacts.{told_weaker}
use Rattle.tink_range.proofs.TakenFacts.{chunk_more, none_taken, taken_last, taken_most}
use Rattle.tink_range.proofs.giving.give_from.Goals as goal

pub loop-place-init : goal.loop-place-init
loop-place-init g c =
    let core = c.args.core.now in
    let o = core.opener in
    let from = c.args.from in
    let all : Option (List ℕ) = g.A.ReadAt.bytes c.args.object.now in
    let long : IfSome all (λ S. length S ≡ core.front + core.behind) = told_weaker all (λ S. length S ≡ g.A.ReadAt.length_of c.args.object.now) (λ S. length S ≡ core.front + core.behind) (λ S e. e ∙ sym c.requires.object) (g.met.A.ReadAt.told c.args.object.now) in
    record {
      giving = nothing_given (cutting_of core) c.args.lo c.args.hi all (g.K.Sink.got c.args.sink.now) from.number from.start from.text core.behind o.some o.first_fits long c.requires.begins.place c.requires.begins.low;
      going = λ _. c.requires.begins.place;
      low = omega (arith, text_before o.first o.size o.overhead from.number, c.requires.begins.place.start_is, c.requires.begins.place.text_is);
      start_in = omega (arith, c.requires.begins.place.inside);
      few = omega arith;
      ticks = record { count = omega arith; later = omega arith; bound = omega arith; spaced = λ some more. omega arith };
      opened = nothing_opened (o.first - o.overhead) (o.size - o.overhead) c.args.lo c.args.hi from.number from.text c.requires.begins.low c.requires.begins.range;
      core = record { opener = refl; front = refl; behind = refl; memory = refl };
      kept = record { length_is = refl; bytes_are = refl; later = omega arith };
      count = refl;
      taken = none_taken _ _;
      later = omega arith;
      object_same = g.met.A.ReadAt.same_refl c.args.object.now;
      sink_same = g.met.K.Sink.same_refl c.args.sink.now;
    }

pub give_chunk-requires-clause-place : goal.give_chunk-requires-clause-place
give_chunk-requires-clause-place g c =
    let o = c.args.core.now.opener in
    let place = c.loop-place.place in
    let here = c.loop-place.invariant.going c.loop-place-test.true in (
      number_few o.first o.size o.overhead c.args.core.now.behind c.args.lo o.some o.first_fits place.number place.start place.text here c.requires.chunks,
      omega (arith, here.inside, c.loop-place.invariant.core.behind),
    )

pub give_chunk-requires-clause-touched : goal.give_chunk-requires-clause-touched
give_chunk-requires-clause-touched g c =
    let core = c.args.core.now in
    let o = core.opener in
    let place = c.loop-place.place in
    let inv = c.loop-place.invariant in
    let reached = is_reached o.first o.size o.overhead core.behind c.args.lo o.some o.first_fits place.number place.start place.text (inv.going c.loop-place-test.true) (omega (arith, c.requires.begins.range, c.requires.begins.within)) in
    record {
      some = c.requires.begins.range;
      begins = omega (arith, reached, ap (λ x. room_at x.first x.size place.number) inv.core.opener, ap (λ x. x.overhead) inv.core.opener, inv.core.behind);
      ends = c.loop-place-test.true;
    }

pub next_place-place-requires-clause-number : goal.next_place-place-requires-clause-number
next_place-place-requires-clause-number g c =
    let o = c.args.core.now.opener in
    let place = c.loop-place.place in
    number_few o.first o.size o.overhead c.args.core.now.behind c.args.lo o.some o.first_fits place.number place.start place.text (c.loop-place.invariant.going c.loop-place-test.true) c.requires.chunks

pub returns-in-Err-clause-answer : goal.returns-in-Err-clause-answer
returns-in-Err-clause-answer g c =
    let core = c.args.core.now in
    let o = core.opener in
    let place = c.loop-place.place in
    let inv = c.loop-place.invariant in
    let all : Option (List ℕ) = g.A.ReadAt.bytes c.args.object.now in
    let long : IfSome all (λ S. length S ≡ core.front + core.behind) = told_weaker all (λ S. length S ≡ g.A.ReadAt.length_of c.args.object.now) (λ S. length S ≡ core.front + core.behind) (λ S e. e ∙ sym c.requires.object) (g.met.A.ReadAt.told c.args.object.now) in
    let here : IsNext (cutting_of core) c.args.lo c.args.hi core.behind place.number place.start place.text =
    record { over = o.some; sizes = o.first_fits; place = inv.going c.loop-place-test.true; range = c.requires.begins.range; within = c.requires.begins.within; before = c.loop-place-test.true } in
    let one = same_one g.K.Sink.got g.K.Sink.faults core c.loop-place.core place.number place.start c.args.lo c.args.hi place.text all (g.A.ReadAt.bytes c.loop-place.object)
    (g.A.ReadAt.faults c.loop-place.object) (g.A.ReadAt.faults c.give_chunk.new.object) c.loop-place.sink c.give_chunk.new.sink (Err c.in-Err.e) inv.core inv.kept.bytes_are c.in-Err.ensures.answer in
    gave_refused g.K.Sink.got g.K.Sink.faults (cutting_of core) c.args.lo c.args.hi
    (record { all = all; reads_before = g.A.ReadAt.faults c.args.object.now; reads_after = g.A.ReadAt.faults c.give_chunk.new.object; old = c.args.sink.now; new = c.give_chunk.new.sink })
    c.loop-place.sink core.behind c.loop-place.given place.number place.start place.text (g.A.ReadAt.faults c.loop-place.object) c.in-Err.e.kind inv.kept.later inv.later here long inv.giving one

pub loop-place-preserved : goal.loop-place-preserved
loop-place-preserved g c =
    let core = c.args.core.now in
    let o = core.opener in
    let place = c.loop-place.place in
    let inv = c.loop-place.invariant in
    let gave = c.in-Ok.ensures in
    let next = c.next_place-place.ensures in
    let all : Option (List ℕ) = g.A.ReadAt.bytes c.args.object.now in
    let long : IfSome all (λ S. length S ≡ core.front + core.behind) = told_weaker all (λ S. length S ≡ g.A.ReadAt.length_of c.args.object.now) (λ S. length S ≡ core.front + core.behind) (λ S e. e ∙ sym c.requires.object) (g.met.A.ReadAt.told c.args.object.now) in
    let here : IsNext (cutting_of core) c.args.lo c.args.hi core.behind place.number place.start place.text =
    record { over = o.some; sizes = o.first_fits; place = inv.going c.loop-place-test.true; range = c.requires.begins.range; within = c.requires.begins.within; before = c.loop-place-test.true } in
    let one = same_one g.K.Sink.got g.K.Sink.faults core c.loop-place.core place.number place.start c.args.lo c.args.hi place.text all (g.A.ReadAt.bytes c.loop-place.object)
    (g.A.ReadAt.faults c.loop-place.object) (g.A.ReadAt.faults c.give_chunk.new.object) c.loop-place.sink c.give_chunk.new.sink (Ok c.in-Ok.count) inv.core inv.kept.bytes_are gave.answer in
    record {
      giving = next_giving (cutting_of core) c.args.lo c.args.hi core.behind place.number place.start place.text here all (g.K.Sink.got c.args.sink.now) (g.K.Sink.got c.loop-place.sink) (g.K.Sink.got c.give_chunk.new.sink)
          c.loop-place.given c.in-Ok.count _ _ _ _ one.text refl next.number next.start next.text long inv.giving one.opens one.written one.count;
      going = λ more. next_place_is (cutting_of core) c.args.lo c.args.hi core.behind place.number place.start place.text here _ _ _ next.number next.start next.text more;
      low = omega (arith, inv.low, next.start, next.text);
      start_in = omega (arith, next.start, here.place.inside);
      few = omega (arith, inv.few, one.count, within_few c.args.lo c.args.hi place.text one.text, one.fits, next.text);
      ticks = next_ticks (cutting_of core) c.args.lo c.args.hi core.behind place.number place.start place.text here c.args.from.number _ _ _ _ _ next.number next.text inv.ticks.later gave.ticks inv.ticks;
      opened = next_opened (cutting_of core) c.args.lo c.args.hi core.behind place.number place.start place.text here c.args.from.number _ _ next.number next.text inv.ticks.later;
      core = core_trans core c.loop-place.core c.give_chunk.new.self inv.core gave.core;
      kept = keeps_trans g.A.ReadAt.length_of g.A.ReadAt.bytes g.A.ReadAt.faults c.args.object.now c.loop-place.object c.give_chunk.new.object inv.kept
          (ok_keeps g.A.ReadAt.length_of g.A.ReadAt.bytes g.A.ReadAt.faults c.loop-place.object c.give_chunk.new.object c.in-Ok.count gave.kept);
      count = gave.kept.count ∙ inv.count;
      taken = chunk_more _ _ _ c.args.from.number place.number _ o.size inv.ticks.later next.number inv.taken (subst (λ (n : ℕ). g.A.ReadAt.taken c.give_chunk.new.object ≤ g.A.ReadAt.taken c.loop-place.object + n) (ap (λ x. x.size) inv.core.opener) gave.taken);
      later = le_trans inv.later gave.later;
      object_same = g.met.A.ReadAt.same_trans _ _ _ inv.object_same gave.object;
      sink_same = g.met.K.Sink.same_trans _ _ _ inv.sink_same gave.sink;
    }

pub returns-clause-answer : goal.returns-clause-answer
returns-clause-answer g c =
    let place = c.loop-place.place in
    let inv = c.loop-place.invariant in
    gave_all g.K.Sink.got g.K.Sink.faults (cutting_of c.args.core.now) c.args.lo c.args.hi
    (record { all = g.A.ReadAt.bytes c.args.object.now; reads_before = g.A.ReadAt.faults c.args.object.now; reads_after = g.A.ReadAt.faults c.loop-place.object; old = c.args.sink.now; new = c.loop-place.sink })
    c.loop-place.given place.number place.start place.text c.loop-place-test.false inv.giving

-- both ends are the ones that they were

pub returns-in-Err-clause-sink : goal.returns-in-Err-clause-sink
returns-in-Err-clause-sink g c = g.met.K.Sink.same_trans _ _ _ c.loop-place.invariant.sink_same c.in-Err.ensures.sink

pub returns-in-Err-clause-object : goal.returns-in-Err-clause-object
returns-in-Err-clause-object g c = g.met.A.ReadAt.same_trans _ _ _ c.loop-place.invariant.object_same c.in-Err.ensures.object

-- and no more was opened than the range's own length fills

pub give_chunk-requires-clause-object : goal.give_chunk-requires-clause-object
give_chunk-requires-clause-object g c =
    let inv = c.loop-place.invariant in
    whole_of c.args.core.now.front c.args.core.now.behind _ c.loop-place.core.front c.loop-place.core.behind _ c.requires.object inv.core.front inv.core.behind inv.kept.length_is

pub overflow_add-given : goal.overflow_add-given
overflow_add-given g c =
    let place = c.loop-place.place in
    let inv = c.loop-place.invariant in
    let core = c.loop-place.core in
    let one = c.in-Ok.ensures.answer in
    given_fits c.loop-place.given c.in-Ok.count _ _ place.text place.start core.behind core.front core.opener.overhead (room_at core.opener.first core.opener.size place.number) inv.few inv.low
    (subst (λ (n : ℕ). place.start < n) (sym inv.core.behind) (inv.going c.loop-place-test.true).inside) one.count (within_few c.args.lo c.args.hi place.text one.text) one.fits core.fits

pub next_place-place-requires-clause-start : goal.next_place-place-requires-clause-start
next_place-place-requires-clause-start g c = (c.loop-place.invariant.going c.loop-place-test.true).inside

pub next_place-place-requires-clause-text : goal.next_place-place-requires-clause-text
next_place-place-requires-clause-text g c = c.loop-place.invariant.low

pub loop-place-smaller : goal.loop-place-smaller
loop-place-smaller g c =
    let behind = c.args.core.now.behind in
    let o = c.args.core.now.opener in
    let place = c.loop-place.place in
    let here = c.loop-place.invariant.going c.loop-place-test.true in
    less_left behind place.start o.overhead (room_at o.first o.size place.number) _ here.inside
    (room_some o.first o.size o.overhead behind c.args.lo o.some o.first_fits place.number place.start place.text here) c.next_place-place.ensures.start

pub returns-in-Err-clause-ticks : goal.returns-in-Err-clause-ticks
returns-in-Err-clause-ticks g c =
    let core = c.args.core.now in
    let place = c.loop-place.place in
    let inv = c.loop-place.invariant in
    let here : IsNext (cutting_of core) c.args.lo c.args.hi core.behind place.number place.start place.text =
    record { over = core.opener.some; sizes = core.opener.first_fits; place = inv.going c.loop-place-test.true; range = c.requires.begins.range; within = c.requires.begins.within; before = c.loop-place-test.true } in
    last_ticks (cutting_of core) c.args.lo c.args.hi core.behind place.number place.start place.text here c.args.from.number c.args.steps.now c.loop-place.steps c.give_chunk.new.steps c.in-Err.ensures.ticks inv.ticks

pub returns-in-Err-clause-core : goal.returns-in-Err-clause-core
returns-in-Err-clause-core g c = core_trans c.args.core.now c.loop-place.core c.give_chunk.new.self c.loop-place.invariant.core c.in-Err.ensures.core

pub returns-in-Err-clause-kept : goal.returns-in-Err-clause-kept
returns-in-Err-clause-kept g c =
    let inv = c.loop-place.invariant in
    leaves_trans g.A.ReadAt.length_of g.A.ReadAt.bytes g.A.ReadAt.faults c.args.object.now c.loop-place.object c.give_chunk.new.object (Err c.in-Err.e) inv.kept inv.count c.in-Err.ensures.kept

pub returns-in-Err-clause-later : goal.returns-in-Err-clause-later
returns-in-Err-clause-later g c = le_trans c.loop-place.invariant.later c.in-Err.ensures.later

pub returns-clause-ticks : goal.returns-clause-ticks
returns-clause-ticks g c =
    let o = c.args.core.now.opener in
    all_ticks c.args.lo c.args.hi (o.size - o.overhead) c.args.from.number c.loop-place.place.number c.loop-place.place.text c.args.steps.now c.loop-place.steps c.loop-place.invariant.ticks

pub returns-clause-touched : goal.returns-clause-touched
returns-clause-touched g c =
    let begins = c.requires.begins in
    all_touched (cutting_of c.args.core.now) c.args.lo c.args.hi c.args.from.number c.loop-place.place.number c.loop-place.place.text c.args.steps.now c.loop-place.steps begins.range
    (subst (λ (n : ℕ). n ≤ c.args.lo) begins.place.text_is begins.low, begins.place.reached) c.loop-place-test.false c.loop-place.invariant.ticks.count c.loop-place.invariant.opened

pub returns-in-Err-clause-touched : goal.returns-in-Err-clause-touched
returns-in-Err-clause-touched g c = tt

-- behind the last chunk all is as the loop keeps it

pub returns-clause-core : goal.returns-clause-core
returns-clause-core g c = c.loop-place.invariant.core

pub returns-clause-later : goal.returns-clause-later
returns-clause-later g c = c.loop-place.invariant.later

pub returns-clause-object : goal.returns-clause-object
returns-clause-object g c = c.loop-place.invariant.object_same

pub returns-clause-sink : goal.returns-clause-sink
returns-clause-sink g c = c.loop-place.invariant.sink_same

pub returns-clause-kept : goal.returns-clause-kept
returns-clause-kept g c = let inv = c.loop-place.invariant in ok_leaves g.A.ReadAt.length_of g.A.ReadAt.bytes g.A.ReadAt.faults c.args.object.now c.loop-place.object c.loop-place.given inv.kept inv.count

pub returns-in-Err-clause-taken : goal.returns-in-Err-clause-taken
returns-in-Err-clause-taken g c =
    let o = c.args.core.now.opener in
    let place = c.loop-place.place in
    let inv = c.loop-place.invariant in
    let here : IsNext (cutting_of c.args.core.now) c.args.lo c.args.hi c.args.core.now.behind place.number place.start place.text =
    record { over = o.some; sizes = o.first_fits; place = inv.going c.loop-place-test.true; range = c.requires.begins.range; within = c.requires.begins.within; before = c.loop-place-test.true } in
    let few = before_few (cutting_of c.args.core.now) c.args.lo c.args.hi c.args.core.now.behind place.number place.start place.text here c.args.from.number c.args.steps.now c.loop-place.steps inv.ticks in
    taken_last _ _ _ (place.number - c.args.from.number) _ o.size inv.taken
    (subst (λ (n : ℕ). g.A.ReadAt.taken c.give_chunk.new.object ≤ g.A.ReadAt.taken c.loop-place.object + n) (ap (λ x. x.size) inv.core.opener) c.in-Err.ensures.taken) (omega (arith, few))

pub returns-clause-taken : goal.returns-clause-taken
returns-clause-taken g c =
    let inv = c.loop-place.invariant in
    taken_most _ _ (c.loop-place.place.number - c.args.from.number) _ c.args.core.now.opener.size inv.taken inv.ticks.bound
