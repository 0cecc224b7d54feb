use Rattle.std.proofs.Common.{◌<◌, ◌≤◌, ◌-◌, ◌∙◌, ℕ, length, arith, le_trans, length-drop}
use Rattle.std.proofs.lemmas.List.{length-take}
use Rattle.tink_range.proofs.ObjectSteps.{rose_since}
use Rattle.tink_range.proofs.ReadingFacts.{told_read_on}
use Rattle.tink_range.proofs.TakenFacts.{failed_read, one_read}
use Rattle.tink_range.proofs.reading_at.fill_at.Goals as goal

pub loop-done-preserved : goal.loop-done-preserved
loop-done-preserved g c =
    let inv = c.loop-done.invariant in
    let read = c.in-Ok.ensures in
    let some : 0 < c.in-Ok.count = read.some (omega (arith, c.loop-done-test.true, length-drop {A = ℕ})) (omega (arith, c.loop-done-test.true, c.requires.within, inv.kept.length_is)) in
    let piece : c.in-Ok.count ≤ length c.read_at.new.buf = omega (arith, read.room, c.read_at.auto.buf) in
    record {
      within = omega (arith, read.room, c.read_at.auto.buf, length-take {A = ℕ}, length-drop {A = ℕ});
      given = told_read_on (g.A.ReadAt.bytes c.args.object.now) (g.A.ReadAt.bytes c.loop-done.object) c.loop-done.done (length c.loop-done.buf - c.loop-done.done) c.in-Ok.count c.args.at c.loop-done.buf c.read_at.new.buf
          inv.kept.bytes_are (omega arith) piece inv.given read.given;
      kept = record {
        length_is = read.length ∙ inv.kept.length_is;
        bytes_are = read.bytes ∙ inv.kept.bytes_are;
        later = le_trans inv.kept.later read.cause.later;
      };
      count = read.cause.count ∙ inv.count;
      taken = one_read _ _ _ c.loop-done.done c.in-Ok.count inv.taken read.taken some;
      same = g.met.A.ReadAt.same_trans _ _ _ inv.same read.same;
    }

pub returns-in-Err-clause-read : goal.returns-in-Err-clause-read
returns-in-Err-clause-read g c =
    let inv = c.loop-done.invariant in
    let read = c.in-Err.ensures in
    record {
      kept = record {
        length_is = read.length ∙ inv.kept.length_is;
        bytes_are = read.bytes ∙ inv.kept.bytes_are;
        later = le_trans inv.kept.later read.cause.later;
      };
      count = rose_since _ _ _ inv.count read.cause.count;
      same = g.met.A.ReadAt.same_trans _ _ _ inv.same read.same;
    }

pub returns-in-Err-clause-given : goal.returns-in-Err-clause-given
returns-in-Err-clause-given g c = tt

pub returns-clause-read : goal.returns-clause-read
returns-clause-read g c = let inv = c.loop-done.invariant in record { kept = inv.kept; count = inv.count; same = inv.same }

pub returns-in-Err-clause-taken : goal.returns-in-Err-clause-taken
returns-in-Err-clause-taken g c = failed_read _ _ _ c.loop-done.done _ c.loop-done.invariant.taken c.in-Err.ensures.taken (omega (arith, c.loop-done-test.true))

pub returns-clause-taken : goal.returns-clause-taken
returns-clause-taken g c = le_trans c.loop-done.invariant.taken (omega (arith, c.loop-done.invariant.within, c.loop-done-test.false))
