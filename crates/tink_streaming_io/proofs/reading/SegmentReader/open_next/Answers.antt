use Rattle.std.proofs.Common.{◌≡◌, ◌≤◌, ◌<◌, ◌-◌, ◌^◌, ℕ, length, take, drop, ap, sym, refl, ◌∙◌, arith}
use Rattle.std.proofs.lemmas.List.{length-take, length-take-le}
use Rattle.stream_model.specs.Cut.{room_at}
use Rattle.tink_streaming_io.specs.Openers.{segment_map}
use Rattle.tink_streaming_io.proofs.FrontFacts.{opened_front, refused_front, none_numbered, some_left, short_front, long_front, some_front, size_most, stays, ended, held_in, fits_in, less_in, within_in, less_within, within_size, within_small, some_size, some_most, short_held, short_of, still_some, many_held, some_held, at_last, some_last, one_some, none_small, failed_runs_not, failed_ends_not}
use Rattle.tink_streaming_io.proofs.reading.SegmentReader.open_next.Goals as goal

pub returns-in_default-clause-answer : goal.returns-in_default-clause-answer
returns-in_default-clause-answer g c =
    let self = c.args.self.now in
    let there : c.hold.new.filled ≤ length c.hold.new.buffer.items = within_in _ _ _ (held_in _ _ _ _ _ _ _ c.hold.ensures.count.1 self.filled_in c.size_of-size.ensures (size_most self.opener.first self.opener.size self.segments self.opener.first_fits) self.buffer_fits c.hold.ensures.len) (sym c.hold.new.buffer.ok.0) in
    let number : self.segments ≡ 2 ^ 32 = omega arith in
    rw c.new-in_default.ensures (record {
      fails = record { failed = refl; number = refl; opened = c.clear-in_default.ensures.items; kept = c.in-Ok.ensures.held.all };
      nothing = none_numbered _ self.opener.first self.opener.size self.segments _ (at_last _ number);
      number = number;
      more = some_left _ _ _ (take c.hold.new.filled c.hold.new.buffer.items) c.in-Ok.ensures.held
          (still_some _ _ _ (self.carried c.requires.running (some_last _ number)) c.hold.ensures.count.0 (length-take-le c.hold.new.filled c.hold.new.buffer.items there));
    })

pub returns-then-self-max-clause-answer : goal.returns-then-self-max-clause-answer
returns-then-self-max-clause-answer g c =
    let self = c.args.self.now in
    let there : c.hold.new.filled ≤ length c.hold.new.buffer.items = within_in _ _ _ (held_in _ _ _ _ _ _ _ c.hold.ensures.count.1 self.filled_in c.size_of-size.ensures (size_most self.opener.first self.opener.size self.segments self.opener.first_fits) self.buffer_fits c.hold.ensures.len) (sym c.hold.new.buffer.ok.0) in
    let long : length (take c.hold.new.filled c.hold.new.buffer.items) ≡ c.hold.new.filled = length-take-le c.hold.new.filled c.hold.new.buffer.items there in
    let held = rw c.size_of-size.ensures at c.in-Ok.ensures.held in
    rw c.new-then-self-max.ensures (record {
      fails = record { failed = refl; number = refl; opened = c.open_front.ensures.cleared c.if-not-open_front.true; kept = held.all };
      nothing = refused_front (segment_map self.opener) self.opener.first self.opener.size self.segments _ _ _
          (some_size self.opener.overhead _ _ _ self.opener.some self.opener.first_fits) (some_most self.opener.overhead _ _ self.opener.some self.opener.first_fits) held
          (rw c.deref.ensures.value at (c.open_front.ensures.refused c.if-not-open_front.true));
      number = c.in-Ok-try_from.ensures.1;
      short = short_front self.opener.overhead (room_at self.opener.first self.opener.size self.segments) self.segments _ _ (take c.hold.new.filled c.hold.new.buffer.items) held (short_held _ _ _ _ long c.if-self-max.true c.max.ensures) (λ later. still_some _ _ _ (self.carried c.requires.running later) c.hold.ensures.count.0 long);
    })

pub returns-then-not-open_front-clause-answer : goal.returns-then-not-open_front-clause-answer
returns-then-not-open_front-clause-answer g c =
    let self = c.args.self.now in
    let there : c.hold.new.filled ≤ length c.hold.new.buffer.items = within_in _ _ _ (held_in _ _ _ _ _ _ _ c.hold.ensures.count.1 self.filled_in c.size_of-size.ensures (size_most self.opener.first self.opener.size self.segments self.opener.first_fits) self.buffer_fits c.hold.ensures.len) (sym c.hold.new.buffer.ok.0) in
    let long : length (take c.hold.new.filled c.hold.new.buffer.items) ≡ c.hold.new.filled = length-take-le c.hold.new.filled c.hold.new.buffer.items there in
    let held = rw c.size_of-size.ensures at c.in-Ok.ensures.held in
    rw c.new-then-not-open_front.ensures (record {
      fails = record { failed = refl; number = refl; opened = c.open_front.ensures.cleared c.if-not-open_front.true; kept = held.all };
      nothing = refused_front (segment_map self.opener) self.opener.first self.opener.size self.segments _ _ _
          (some_size self.opener.overhead _ _ _ self.opener.some self.opener.first_fits) (some_most self.opener.overhead _ _ self.opener.some self.opener.first_fits) held
          (rw c.deref.ensures.value at (c.open_front.ensures.refused c.if-not-open_front.true));
      number = c.in-Ok-try_from.ensures.1;
      long = long_front self.opener.overhead (room_at self.opener.first self.opener.size self.segments) _ _ (take c.hold.new.filled c.hold.new.buffer.items) held (within_size _ _ _ _ self.opener.some self.opener.first_fits) (many_held _ _ _ _ long c.if-self-max.false c.max.ensures);
      some = some_front (room_at self.opener.first self.opener.size self.segments) _ _ (take c.hold.new.filled c.hold.new.buffer.items) held (some_size self.opener.overhead _ _ _ self.opener.some self.opener.first_fits) (some_held _ _ _ self.opener.overhead long c.if-self-max.false c.max.ensures);
    })

pub returns-clause-answer : goal.returns-clause-answer
returns-clause-answer g c =
    let self = c.args.self.now in
    let there : c.hold.new.filled ≤ length c.hold.new.buffer.items = within_in _ _ _ (held_in _ _ _ _ _ _ _ c.hold.ensures.count.1 self.filled_in c.size_of-size.ensures (size_most self.opener.first self.opener.size self.segments self.opener.first_fits) self.buffer_fits c.hold.ensures.len) (sym c.hold.new.buffer.ok.0) in
    let a : ℕ = self.opener.first in
    let b : ℕ = self.opener.size in
    let held = rw c.size_of-size.ensures at c.in-Ok.ensures.held in
    let stay : take (c.hold.new.filled - c.min-n.result) c.carry.new.buffer.items ≡ drop (room_at a b self.segments) (take c.hold.new.filled c.hold.new.buffer.items) =
    c.carry.ensures.bytes ∙ sym (stays c.hold.new.filled c.min-n.result (room_at a b self.segments) c.hold.new.buffer.items there (rw c.size_of-size.ensures at c.min-n.ensures)) in
    record {
      leads = rw stay (opened_front (segment_map self.opener) a b self.segments _ _ (take c.hold.new.filled c.hold.new.buffer.items) c.open_front.new.opened.items (omega arith)
          (some_size self.opener.overhead a b self.segments self.opener.some self.opener.first_fits) (some_most self.opener.overhead a b self.opener.some self.opener.first_fits) held (rw c.deref.ensures.value at (c.open_front.ensures.ok c.if-not-open_front.false)));
      number = refl;
      lives = c.progress_after-self.ensures.lives;
      fits = fits_in _ _ _ (c.open_front.ensures.fits c.if-not-open_front.false) (sym c.open_front.new.opened.ok.0);
      goes_on = λ running.
          let more : room_at a b self.segments < length (take c.hold.new.filled c.deref.result.now) = omega (arith, c.progress_after-self.ensures.running running, c.size_of-size.ensures, c.min-n.ensures, there, ap length c.deref.ensures.value, length-take c.hold.new.filled c.deref.result.now) in
          less_in _ _ _ (c.open_front.ensures.some c.if-not-open_front.false more) (sym c.open_front.new.opened.ok.0);
      ends = λ at_end. ended c.hold.new.filled c.min-n.result c.size_of-size.result _ _ c.hold.new.buffer.items c.carry.new.buffer.items c.in-Ok.ensures.held c.min-n.ensures (c.progress_after-self.ensures.ended at_end);
    }

pub returns-then-not-open_front-clause-read : goal.returns-then-not-open_front-clause-read
returns-then-not-open_front-clause-read g c = rw c.size_of-size.ensures at c.hold.ensures.read

pub returns-then-not-open_front-clause-later : goal.returns-then-not-open_front-clause-later
returns-then-not-open_front-clause-later g c = c.hold.ensures.later

pub returns-then-not-open_front-clause-same : goal.returns-then-not-open_front-clause-same
returns-then-not-open_front-clause-same g c = c.hold.ensures.same

pub hold-requires-clause-filled : goal.hold-requires-clause-filled
hold-requires-clause-filled g c = c.args.self.now.filled_in

pub open_front-requires-clause-room : goal.open_front-requires-clause-room
open_front-requires-clause-room g c = c.args.self.now.reserved

pub open_front-requires-clause-nonce : goal.open_front-requires-clause-nonce
open_front-requires-clause-nonce g c = c.args.self.now.nonce_fits

pub returns-in-Err-clause-answer : goal.returns-in-Err-clause-answer
returns-in-Err-clause-answer g c =
    rw c.new.ensures (record {
      fails = record { failed = refl; number = refl; opened = c.clear.ensures.items; kept = c.in-Err.ensures.held };
      rose = c.in-Err.ensures.rose;
    })

pub returns-in-Err-clause-opener : goal.returns-in-Err-clause-opener
returns-in-Err-clause-opener g c = refl

pub returns-in-Err-clause-room : goal.returns-in-Err-clause-room
returns-in-Err-clause-room g c = c.hold.ensures.len

pub returns-in-Err-clause-memory : goal.returns-in-Err-clause-memory
returns-in-Err-clause-memory g c = omega (arith, c.hold.ensures.capacity, c.clear.ensures.capacity)

pub returns-in-Err-clause-read : goal.returns-in-Err-clause-read
returns-in-Err-clause-read g c = rw c.size_of-size.ensures at c.hold.ensures.read

pub returns-in-Err-clause-later : goal.returns-in-Err-clause-later
returns-in-Err-clause-later g c = c.hold.ensures.later

pub returns-in-Err-clause-same : goal.returns-in-Err-clause-same
returns-in-Err-clause-same g c = c.hold.ensures.same

pub returns-in_default-clause-opener : goal.returns-in_default-clause-opener
returns-in_default-clause-opener g c = refl

pub returns-in_default-clause-room : goal.returns-in_default-clause-room
returns-in_default-clause-room g c = c.hold.ensures.len

pub returns-in_default-clause-memory : goal.returns-in_default-clause-memory
returns-in_default-clause-memory g c = omega (arith, c.hold.ensures.capacity, c.clear-in_default.ensures.capacity)

pub returns-in_default-clause-read : goal.returns-in_default-clause-read
returns-in_default-clause-read g c = rw c.size_of-size.ensures at c.hold.ensures.read

pub returns-in_default-clause-later : goal.returns-in_default-clause-later
returns-in_default-clause-later g c = c.hold.ensures.later

pub returns-in_default-clause-same : goal.returns-in_default-clause-same
returns-in_default-clause-same g c = c.hold.ensures.same

pub returns-then-self-max-clause-opener : goal.returns-then-self-max-clause-opener
returns-then-self-max-clause-opener g c = refl

pub returns-then-self-max-clause-room : goal.returns-then-self-max-clause-room
returns-then-self-max-clause-room g c = c.hold.ensures.len

pub returns-then-self-max-clause-memory : goal.returns-then-self-max-clause-memory
returns-then-self-max-clause-memory g c = omega (arith, c.hold.ensures.capacity, c.open_front.ensures.room.capacity, c.open_front.ensures.room.nonce_capacity)

pub returns-then-self-max-clause-read : goal.returns-then-self-max-clause-read
returns-then-self-max-clause-read g c = rw c.size_of-size.ensures at c.hold.ensures.read

pub returns-then-self-max-clause-later : goal.returns-then-self-max-clause-later
returns-then-self-max-clause-later g c = c.hold.ensures.later

pub returns-then-self-max-clause-same : goal.returns-then-self-max-clause-same
returns-then-self-max-clause-same g c = c.hold.ensures.same

pub returns-then-not-open_front-clause-opener : goal.returns-then-not-open_front-clause-opener
returns-then-not-open_front-clause-opener g c = refl

pub returns-then-not-open_front-clause-room : goal.returns-then-not-open_front-clause-room
returns-then-not-open_front-clause-room g c = c.hold.ensures.len

pub returns-then-not-open_front-clause-memory : goal.returns-then-not-open_front-clause-memory
returns-then-not-open_front-clause-memory g c = omega (arith, c.hold.ensures.capacity, c.open_front.ensures.room.capacity, c.open_front.ensures.room.nonce_capacity)

pub returns-clause-opener : goal.returns-clause-opener
returns-clause-opener g c = refl

pub returns-clause-room : goal.returns-clause-room
returns-clause-room g c = c.carry.ensures.len ∙ c.hold.ensures.len

pub returns-clause-memory : goal.returns-clause-memory
returns-clause-memory g c = omega (arith, c.hold.ensures.capacity, c.open_front.ensures.room.capacity, c.open_front.ensures.room.nonce_capacity, c.carry.ensures.capacity)

pub returns-clause-read : goal.returns-clause-read
returns-clause-read g c = rw c.size_of-size.ensures at c.hold.ensures.read

pub returns-clause-later : goal.returns-clause-later
returns-clause-later g c = c.hold.ensures.later

pub returns-clause-same : goal.returns-clause-same
returns-clause-same g c = c.hold.ensures.same

pub invariant_of-self-then-self-max : goal.invariant_of-self-then-self-max
invariant_of-self-then-self-max g c =
    let self = c.args.self.now in
    record {
      buffer_fits = less_in _ _ _ self.buffer_fits c.hold.ensures.len;
      reserved = within_in _ _ _ self.reserved c.open_front.ensures.room.capacity;
      nonce_fits = within_in _ _ _ self.nonce_fits c.open_front.ensures.room.nonce_len;
      few = self.few;
      filled_in = held_in _ _ _ _ _ _ _ c.hold.ensures.count.1 self.filled_in c.size_of-size.ensures (size_most self.opener.first self.opener.size self.segments self.opener.first_fits) self.buffer_fits c.hold.ensures.len;
      carried = λ running. absurd (failed_runs_not _ running);
      ended_some = λ ended. absurd (failed_ends_not _ ended);
      ended_held = λ ended. absurd (failed_ends_not _ ended);
    }

pub invariant_of-self-then-not-open_front : goal.invariant_of-self-then-not-open_front
invariant_of-self-then-not-open_front g c =
    let self = c.args.self.now in
    record {
      buffer_fits = less_in _ _ _ self.buffer_fits c.hold.ensures.len;
      reserved = within_in _ _ _ self.reserved c.open_front.ensures.room.capacity;
      nonce_fits = within_in _ _ _ self.nonce_fits c.open_front.ensures.room.nonce_len;
      few = self.few;
      filled_in = held_in _ _ _ _ _ _ _ c.hold.ensures.count.1 self.filled_in c.size_of-size.ensures (size_most self.opener.first self.opener.size self.segments self.opener.first_fits) self.buffer_fits c.hold.ensures.len;
      carried = λ running. absurd (failed_runs_not _ running);
      ended_some = λ ended. absurd (failed_ends_not _ ended);
      ended_held = λ ended. absurd (failed_ends_not _ ended);
    }

pub invariant_of-self-2 : goal.invariant_of-self-2
invariant_of-self-2 g c =
    let self = c.args.self.now in
    record {
      buffer_fits = less_in _ _ _ self.buffer_fits (c.carry.ensures.len ∙ c.hold.ensures.len);
      reserved = within_in _ _ _ self.reserved c.open_front.ensures.room.capacity;
      nonce_fits = within_in _ _ _ self.nonce_fits c.open_front.ensures.room.nonce_len;
      few = omega (arith, c.in-Ok-try_from.ensures.0);
      filled_in = less_within _ c.min-n.result _ _
          (held_in _ _ _ _ _ _ _ c.hold.ensures.count.1 self.filled_in c.size_of-size.ensures (size_most self.opener.first self.opener.size self.segments self.opener.first_fits) self.buffer_fits c.hold.ensures.len)
          c.carry.ensures.len;
      carried = λ running _. c.progress_after-self.ensures.running running;
      ended_some = λ _. one_some self.segments;
      ended_held = λ ended. c.progress_after-self.ensures.ended ended;
    }

pub returns-then-self-max-clause-small : goal.returns-then-self-max-clause-small
returns-then-self-max-clause-small g c = none_small _ c.open_front.new.opened.items c.open_front.new.opened.ok.0 (c.open_front.ensures.cleared c.if-not-open_front.true)

pub returns-then-not-open_front-clause-small : goal.returns-then-not-open_front-clause-small
returns-then-not-open_front-clause-small g c = none_small _ c.open_front.new.opened.items c.open_front.new.opened.ok.0 (c.open_front.ensures.cleared c.if-not-open_front.true)

pub carry-requires-clause-filled : goal.carry-requires-clause-filled
carry-requires-clause-filled g c =
    let self = c.args.self.now in
    held_in _ _ _ _ _ _ _ c.hold.ensures.count.1 self.filled_in c.size_of-size.ensures (size_most self.opener.first self.opener.size self.segments self.opener.first_fits) self.buffer_fits c.hold.ensures.len

pub invariant_of-self-in_default : goal.invariant_of-self-in_default
invariant_of-self-in_default g c =
    let self = c.args.self.now in
    record {
      buffer_fits = less_in _ _ _ self.buffer_fits c.hold.ensures.len;
      reserved = within_in _ _ _ self.reserved c.clear-in_default.ensures.capacity;
      nonce_fits = self.nonce_fits;
      few = self.few;
      filled_in = held_in _ _ _ _ _ _ _ c.hold.ensures.count.1 self.filled_in c.size_of-size.ensures (size_most self.opener.first self.opener.size self.segments self.opener.first_fits) self.buffer_fits c.hold.ensures.len;
      carried = λ running. absurd (failed_runs_not _ running);
      ended_some = λ ended. absurd (failed_ends_not _ ended);
      ended_held = λ ended. absurd (failed_ends_not _ ended);
    }

pub invariant_of-self : goal.invariant_of-self
invariant_of-self g c =
    let self = c.args.self.now in
    record {
      buffer_fits = less_in _ _ _ self.buffer_fits c.hold.ensures.len;
      reserved = within_in _ _ _ self.reserved c.clear.ensures.capacity;
      nonce_fits = self.nonce_fits;
      few = self.few;
      filled_in = held_in _ _ _ _ _ _ _ c.hold.ensures.count.1 self.filled_in c.size_of-size.ensures (size_most self.opener.first self.opener.size self.segments self.opener.first_fits) self.buffer_fits c.hold.ensures.len;
      carried = λ running. absurd (failed_runs_not _ running);
      ended_some = λ ended. absurd (failed_ends_not _ ended);
      ended_held = λ ended. absurd (failed_ends_not _ ended);
    }

pub returns-clause-small : goal.returns-clause-small
returns-clause-small g c = within_small _ _ (c.open_front.ensures.fits c.if-not-open_front.false) c.args.self.now.opener.small

-- a failed read comes before the byte behind the chunk

pub returns-in-Err-clause-short : goal.returns-in-Err-clause-short
returns-in-Err-clause-short g c = rw c.new.ensures (short_of _ _ _ c.in-Err.ensures.short c.size_of-size.ensures)

pub returns-in_default-clause-short : goal.returns-in_default-clause-short
returns-in_default-clause-short g c = rw c.new-in_default.ensures tt

pub returns-then-self-max-clause-short : goal.returns-then-self-max-clause-short
returns-then-self-max-clause-short g c = rw c.new-then-self-max.ensures tt

pub returns-then-not-open_front-clause-short : goal.returns-then-not-open_front-clause-short
returns-then-not-open_front-clause-short g c = rw c.new-then-not-open_front.ensures tt
