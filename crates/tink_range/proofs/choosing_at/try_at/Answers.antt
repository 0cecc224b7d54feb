use Rattle.std.proofs.Common.{◌≡◌, ◌≤◌, ◌<◌, ◌+◌, ◌-◌, ℕ, Bool, List, length, take, refl, sym, ap, ◌∙◌, vec_len, vec_capacity, arith, le_refl}
use Rattle.std.specs.declared.option.Option.{Option}
use Rattle.stream_model.specs.Cut.{numbered}
use Rattle.stream_model.specs.Key.{StreamKey, nonce_size}
use Rattle.stream_model.specs.Opening.{Begins, OpeningKey, front_length, opening_key}
use Rattle.stream_model.proofs.KeyFacts.{opening_key_lawful}
use Rattle.tink_streaming_ciphers.specs.StreamSegments.{segment_by}
use Rattle.tink_range.specs.ChoosingAt.{DoesBeginAt, DoesNotBeginAt, is_tried, one_if}
use Rattle.tink_range.specs.declared.choosing_at.BegunAt.{BegunAt}
use Rattle.tink_range.proofs.ObjectSteps.{below, front_inside, keeps_trans, none_more, one_more, room_for, rose_since, unread}
use Rattle.tink_range.proofs.ReadingFacts.{told_weaker}
use Rattle.tink_range.proofs.TrialAtFacts.{by_test, cut_front, front_of, short_not, short_untried, told_does, told_not, told_underived}
use Rattle.tink_range.proofs.TakenFacts.{first_taken, front_taken, none_taken}
use Rattle.tink_range.proofs.choosing_at.try_at.Goals as goal

pub returns-then-size-front-clause-answer : goal.returns-then-size-front-clause-answer
returns-then-size-front-clause-answer g c =
    let key : StreamKey = g.T.DerivesStreams.key_of c.args.key.now in
    let k : OpeningKey = opening_key c.args.aad.now key in
    let all : Option (List ℕ) = g.A.ReadAt.bytes c.args.object.now in
    let len : ℕ = g.A.ReadAt.length_of c.args.object.now in
    let short : len ≤ front_length k = omega (arith, ap length c.output_prefix.ensures, c.header_length.ensures.value, c.size-size.ensures, c.if-size-front.true) in
    record {
      none = told_weaker all (λ S. length S ≡ len) (λ S. Begins k S → ⊥) (λ S e. short_not k S (omega (arith, e, short))) (g.met.A.ReadAt.told c.args.object.now);
      ticked = told_weaker all (λ S. length S ≡ len) (λ S. c.args.steps.now ≡ c.args.steps.now + one_if (is_tried k S)) (λ S e. omega (arith, short_untried k S (omega (arith, e, short)))) (g.met.A.ReadAt.told c.args.object.now);
      room = c.requires.prefix;
    }

pub returns-in-Ok-Err-clause-answer : goal.returns-in-Ok-Err-clause-answer
returns-in-Ok-Err-clause-answer g c =
    let key : StreamKey = g.T.DerivesStreams.key_of c.args.key.now in
    let k : OpeningKey = opening_key c.args.aad.now key in
    let all : Option (List ℕ) = g.A.ReadAt.bytes c.args.object.now in
    let len : ℕ = g.A.ReadAt.length_of c.args.object.now in
    let front : ℕ = length c.output_prefix.result.now + c.header_length.result in
    let front_is : front ≡ front_length k = front_of c.args.aad.now key c.output_prefix.result.now c.header_length.result c.output_prefix.ensures c.header_length.ensures.value in
    let some : 0 < k.header = omega arith in
    let inside : front_length k ≤ len = omega (arith, front_is, c.size-size.ensures, c.if-size-front.false) in
    let usable = opening_key_lawful c.args.aad.now key c.header_length.ensures.usable in
    let called = c.in-Ok-Err.ensures in
    let n : ℕ = length (take front c.deref_mut.result.now) in
    let n_is : n ≡ front_length k = cut_front k front _ c.deref_mut.result.now front_is usable c.deref_mut.ensures.len c.requires.sealed ∙ front_is in
    let none = told_underived k c.front_at.new.held n len some n_is inside all c.args.steps.now
    (g.met.A.ReadAt.told c.args.object.now) called.held (rw c.in-Ok-Err.field-0-is at called.answer) in
    record { none = none.0; ticked = none.1; room = rw c.in-Ok-Err.field-0-is at called.room }

pub returns-in-Ok-clause-answer : goal.returns-in-Ok-clause-answer
returns-in-Ok-clause-answer g c =
    let key : StreamKey = g.T.DerivesStreams.key_of c.args.key.now in
    let k : OpeningKey = opening_key c.args.aad.now key in
    let all : Option (List ℕ) = g.A.ReadAt.bytes c.args.object.now in
    let len : ℕ = g.A.ReadAt.length_of c.args.object.now in
    let front : ℕ = length c.output_prefix.result.now + c.header_length.result in
    let front_is : front ≡ front_length k = front_of c.args.aad.now key c.output_prefix.result.now c.header_length.result c.output_prefix.ensures c.header_length.ensures.value in
    let some : 0 < k.header = omega arith in
    let more : front < len = omega (arith, c.size-size.ensures, c.if-size-front.false) in
    let inside : front_length k ≤ len = omega (arith, front_is, more) in
    let usable = opening_key_lawful c.args.aad.now key c.header_length.ensures.usable in
    let called = c.in-Ok-Ok.ensures in
    let opens = rw c.in-Ok-Ok.field-0-is at called.answer in
    let o = c.in-Ok-Ok.opener in
    let seg : ℕ → Bool → List ℕ → List ℕ = numbered (segment_by o.decrypter) o.nonce_size o.prefix.items in
    let rest_is : c.size-size.result - front ≡ len - front = omega (arith, c.size-size.ensures) in
    let n : ℕ = length (take front c.deref_mut.result.now) in
    let n_is : n ≡ front_length k = cut_front k front _ c.deref_mut.result.now front_is usable c.deref_mut.ensures.len c.requires.sealed ∙ front_is in
    let opened = c.in-Ok.ensures in
    by_test (λ (b : BegunAt). DoesBeginAt k (nonce_size key) len all (numbered (segment_by b.opener.decrypter) b.opener.nonce_size b.opener.prefix.items) b.front b.opener.first b.opener.size b.opener.overhead b.opener.nonce_size c.args.steps.now c.open_at.new.steps)
    (λ memory. DoesNotBeginAt k all c.args.steps.now c.open_at.new.steps (vec_capacity memory))
    c.in-Ok.begins (record { opener = o; front = front }) o.prefix c.begun_if.result c.begun_if.ensures
    (λ agrees. record {
      found = told_does k c.front_at.new.held n len some n_is inside seg front o.first o.size o.overhead (nonce_size key) o.nonce_size (c.size-size.result - front) opens front_is
          (omega (arith, usable.room)) (omega (arith, usable.room, usable.fits)) usable.fits more rest_is all (g.A.ReadAt.bytes c.front_at.new.object) c.open_at.new.text.items c.in-Ok.begins
          called.read.kept.bytes_are agrees (g.met.A.ReadAt.told c.args.object.now) called.held opened.answer;
      opened = record { first_is = opens.first_is; size_is = opens.size_is; overhead_is = opens.overhead_is; nonce_is = opens.nonce_is };
      front_is = front_is;
      inside = more;
      ticked = opened.ticks;
    })
    (λ differs.
    let not = told_not k c.front_at.new.held n len some n_is inside seg front o.first o.size o.overhead (nonce_size key) o.nonce_size (c.size-size.result - front) opens front_is
    (omega (arith, usable.room)) (omega (arith, usable.room, usable.fits)) usable.fits more rest_is all (g.A.ReadAt.bytes c.front_at.new.object) c.open_at.new.text.items c.in-Ok.begins c.args.steps.now c.open_at.new.steps
    called.read.kept.bytes_are differs opened.ticks (g.met.A.ReadAt.told c.args.object.now) called.held opened.answer in
    record { none = not.0; ticked = not.1; room = rw c.in-Ok-Ok.field-0-is at called.room })

-- the object is the one that it was, and so are its length, its bytes and its count

pub returns-in-Ok-clause-ticks : goal.returns-in-Ok-clause-ticks
returns-in-Ok-clause-ticks g c = one_more c.args.steps.now c.open_at.new.steps c.in-Ok.ensures.ticks

pub open_at-requires-clause-room : goal.open_at-requires-clause-room
open_at-requires-clause-room g c =
    let key : StreamKey = g.T.DerivesStreams.key_of c.args.key.now in
    let opens = rw c.in-Ok-Ok.field-0-is at c.in-Ok-Ok.ensures.answer in
    room_for _ _ key.segment (nonce_size key) (length key.out) (vec_len c.args.sealed.now) _ _ _ _ _ opens.size_is opens.nonce_is c.requires.sealed c.requires.text c.requires.nonce refl (le_refl _) refl

pub returns-in-Err-open_at-clause-ticks : goal.returns-in-Err-open_at-clause-ticks
returns-in-Err-open_at-clause-ticks g c = none_more c.args.steps.now c.open_at.new.steps c.in-Err-open_at.ensures.ticks

-- and the buffers have the memory that they had

pub returns-in-Ok-clause-room : goal.returns-in-Ok-clause-room
returns-in-Ok-clause-room g c = let room = c.in-Ok.ensures.room in record { buffers = room.buffers; sealed_len = room.sealed_len; sealed_capacity = room.sealed_capacity }

pub returns-in-Err-open_at-clause-room : goal.returns-in-Err-open_at-clause-room
returns-in-Err-open_at-clause-room g c = let room = c.in-Err-open_at.ensures.room in record { buffers = room.buffers; sealed_len = room.sealed_len; sealed_capacity = room.sealed_capacity }

pub returns-then-size-front-clause-read : goal.returns-then-size-front-clause-read
returns-then-size-front-clause-read g c =
    record { kept = unread g.A.ReadAt.length_of g.A.ReadAt.bytes g.A.ReadAt.faults c.args.object.now; count = refl; same = g.met.A.ReadAt.same_refl c.args.object.now }

pub returns-in-Ok-clause-read : goal.returns-in-Ok-clause-read
returns-in-Ok-clause-read g c =
    let a = c.in-Ok-Ok.ensures.read in
    let b = c.in-Ok.ensures.read in
    record {
      kept = keeps_trans g.A.ReadAt.length_of g.A.ReadAt.bytes g.A.ReadAt.faults c.args.object.now c.front_at.new.object c.open_at.new.object a.kept b.kept;
      count = b.count ∙ a.count;
      same = g.met.A.ReadAt.same_trans _ _ _ a.same b.same;
    }

pub returns-in-Err-open_at-clause-read : goal.returns-in-Err-open_at-clause-read
returns-in-Err-open_at-clause-read g c =
    let a = c.in-Ok-Ok.ensures.read in
    let b = c.in-Err-open_at.ensures.read in
    record {
      kept = keeps_trans g.A.ReadAt.length_of g.A.ReadAt.bytes g.A.ReadAt.faults c.args.object.now c.front_at.new.object c.open_at.new.object a.kept b.kept;
      count = rose_since _ _ _ a.count b.count;
      same = g.met.A.ReadAt.same_trans _ _ _ a.same b.same;
    }

pub returns-in-Err-clause-read : goal.returns-in-Err-clause-read
returns-in-Err-clause-read g c = let read = c.in-Err.ensures.read in record { kept = read.kept; count = read.count; same = read.same }

pub returns-in-Ok-Err-clause-read : goal.returns-in-Ok-Err-clause-read
returns-in-Ok-Err-clause-read g c = let read = c.in-Ok-Err.ensures.read in record { kept = read.kept; count = read.count; same = read.same }

pub returns-in-Err-clause-answer : goal.returns-in-Err-clause-answer
returns-in-Err-clause-answer g c = tt

pub returns-in-Err-open_at-clause-answer : goal.returns-in-Err-open_at-clause-answer
returns-in-Err-open_at-clause-answer g c = tt

pub front_at-requires-clause-prefix : goal.front_at-requires-clause-prefix
front_at-requires-clause-prefix g c = c.requires.prefix

-- the front is a part of the buffer, and of the object

pub slice_bounds-front_at-end : goal.slice_bounds-front_at-end
slice_bounds-front_at-end g c =
    let key : StreamKey = g.T.DerivesStreams.key_of c.args.key.now in
    let k : OpeningKey = opening_key c.args.aad.now key in
    let front : ℕ = length c.output_prefix.result.now + c.header_length.result in
    let front_is : front ≡ front_length k = front_of c.args.aad.now key c.output_prefix.result.now c.header_length.result c.output_prefix.ensures c.header_length.ensures.value in
    sym (cut_front k front _ c.deref_mut.result.now front_is (opening_key_lawful c.args.aad.now key c.header_length.ensures.usable) c.deref_mut.ensures.len c.requires.sealed)

pub front_at-requires-clause-held : goal.front_at-requires-clause-held
front_at-requires-clause-held g c =
    let key : StreamKey = g.T.DerivesStreams.key_of c.args.key.now in
    let k : OpeningKey = opening_key c.args.aad.now key in
    let front : ℕ = length c.output_prefix.result.now + c.header_length.result in
    let front_is : front ≡ front_length k = front_of c.args.aad.now key c.output_prefix.result.now c.header_length.result c.output_prefix.ensures c.header_length.ensures.value in
    front_inside _ front c.size-size.result _
    (cut_front k front _ c.deref_mut.result.now front_is (opening_key_lawful c.args.aad.now key c.header_length.ensures.usable) c.deref_mut.ensures.len c.requires.sealed)
    c.if-size-front.false c.size-size.ensures

pub overflow_sub-size : goal.overflow_sub-size
overflow_sub-size g c = below _ _ c.if-size-front.false

pub returns-then-size-front-clause-taken : goal.returns-then-size-front-clause-taken
returns-then-size-front-clause-taken g c = none_taken _ _

pub returns-in-Ok-Err-clause-taken : goal.returns-in-Ok-Err-clause-taken
returns-in-Ok-Err-clause-taken g c =
    let key : StreamKey = g.T.DerivesStreams.key_of c.args.key.now in
    let k : OpeningKey = opening_key c.args.aad.now key in
    let front : ℕ = length c.output_prefix.result.now + c.header_length.result in
    let front_is : front ≡ front_length k = front_of c.args.aad.now key c.output_prefix.result.now c.header_length.result c.output_prefix.ensures c.header_length.ensures.value in
    let usable = opening_key_lawful c.args.aad.now key c.header_length.ensures.usable in
    let n_is : length (take front c.deref_mut.result.now) ≡ front = cut_front k front _ c.deref_mut.result.now front_is usable c.deref_mut.ensures.len c.requires.sealed in
    front_taken _ _ _ front _ c.in-Ok-Err.ensures.taken n_is (omega (arith, front_is, usable.room, c.requires.sealed))

pub returns-in-Err-clause-taken : goal.returns-in-Err-clause-taken
returns-in-Err-clause-taken g c =
    let key : StreamKey = g.T.DerivesStreams.key_of c.args.key.now in
    let k : OpeningKey = opening_key c.args.aad.now key in
    let front : ℕ = length c.output_prefix.result.now + c.header_length.result in
    let front_is : front ≡ front_length k = front_of c.args.aad.now key c.output_prefix.result.now c.header_length.result c.output_prefix.ensures c.header_length.ensures.value in
    let usable = opening_key_lawful c.args.aad.now key c.header_length.ensures.usable in
    let n_is : length (take front c.deref_mut.result.now) ≡ front = cut_front k front _ c.deref_mut.result.now front_is usable c.deref_mut.ensures.len c.requires.sealed in
    front_taken _ _ _ front _ c.in-Err.ensures.taken n_is (omega (arith, front_is, usable.room, c.requires.sealed))

pub returns-in-Ok-clause-taken : goal.returns-in-Ok-clause-taken
returns-in-Ok-clause-taken g c =
    let key : StreamKey = g.T.DerivesStreams.key_of c.args.key.now in
    let k : OpeningKey = opening_key c.args.aad.now key in
    let front : ℕ = length c.output_prefix.result.now + c.header_length.result in
    let front_is : front ≡ front_length k = front_of c.args.aad.now key c.output_prefix.result.now c.header_length.result c.output_prefix.ensures c.header_length.ensures.value in
    let usable = opening_key_lawful c.args.aad.now key c.header_length.ensures.usable in
    let n_is : length (take front c.deref_mut.result.now) ≡ front = cut_front k front _ c.deref_mut.result.now front_is usable c.deref_mut.ensures.len c.requires.sealed in
    let opens = rw c.in-Ok-Ok.field-0-is at c.in-Ok-Ok.ensures.answer in
    first_taken _ _ _ _ front c.in-Ok-Ok.opener.first _ c.in-Ok-Ok.ensures.taken n_is c.in-Ok.ensures.taken (omega (arith, front_is, opens.first_is, usable.room, c.requires.sealed))

pub returns-in-Err-open_at-clause-taken : goal.returns-in-Err-open_at-clause-taken
returns-in-Err-open_at-clause-taken g c =
    let key : StreamKey = g.T.DerivesStreams.key_of c.args.key.now in
    let k : OpeningKey = opening_key c.args.aad.now key in
    let front : ℕ = length c.output_prefix.result.now + c.header_length.result in
    let front_is : front ≡ front_length k = front_of c.args.aad.now key c.output_prefix.result.now c.header_length.result c.output_prefix.ensures c.header_length.ensures.value in
    let usable = opening_key_lawful c.args.aad.now key c.header_length.ensures.usable in
    let n_is : length (take front c.deref_mut.result.now) ≡ front = cut_front k front _ c.deref_mut.result.now front_is usable c.deref_mut.ensures.len c.requires.sealed in
    let opens = rw c.in-Ok-Ok.field-0-is at c.in-Ok-Ok.ensures.answer in
    first_taken _ _ _ _ front c.in-Ok-Ok.opener.first _ c.in-Ok-Ok.ensures.taken n_is c.in-Err-open_at.ensures.taken (omega (arith, front_is, opens.first_is, usable.room, c.requires.sealed))
