use Rattle.std.proofs.Common.{refl}
use Rattle.std.proofs.lemmas.Result.{err_from_is_err_and}
use Rattle.tink_run.proofs.LoadedFacts.{loaded_usable}
use Rattle.tink_tokens.proofs.InputSteps.{none_taken}
use Rattle.tink_program_core.proofs.RangeSteps.{keys_not_loaded, not_read, of_equal, range_unread, ranged, unranged, unread_late}
use Rattle.tink_program_core.proofs.ranges.write_range.Goals as goal

-- the keyset does not load

pub returns-in_err-keys-clause-answer : goal.returns-in_err-keys-clause-answer
returns-in_err-keys-clause-answer g c =
    let p = err_from_is_err_and c.from_residual.result c.from_residual.ensures.1 in
    rw (p.1, p.2) (keys_not_loaded _ _ _ _ _ c.in_err-keys.field-0.0 (rw c.deref.ensures.value at c.in_err-keys.ensures.answer))

pub returns-in_err-keys-clause-taken : goal.returns-in_err-keys-clause-taken
returns-in_err-keys-clause-taken g c = none_taken _

-- the input could not be read

pub returns-in_err-input-clause-answer : goal.returns-in_err-input-clause-answer
returns-in_err-input-clause-answer g c =
    let p = err_from_is_err_and c.from_residual-in_err-input.result c.from_residual-in_err-input.ensures.1 in
    let loaded = rw c.deref.ensures.value at c.in_ok-keys.ensures.answer in
    rw (p.1, p.2) (not_read _ _ _ _ _ _ loaded.0 c.in_err-input.field-0.0 loaded.1 refl refl c.in_err-input.ensures.refused)

pub returns-in_err-input-clause-unread : goal.returns-in_err-input-clause-unread
returns-in_err-input-clause-unread g c =
    let p = err_from_is_err_and c.from_residual-in_err-input.result c.from_residual-in_err-input.ensures.1 in
    rw (p.1, p.2) (λ is. unread_late _ c.in_err-input.field-0.0.kind _ _ c.in_err-input.ensures.refused is)

-- the range

pub returns-clause-answer : goal.returns-clause-answer
returns-clause-answer g c =
    let loaded = rw c.deref.ensures.value at c.in_ok-keys.ensures.answer in
    ranged _ _ _ _ _ _ _ loaded.0 _ _ _ _ _ _ c.counted_range.result loaded.1 c.in_ok-input.ensures.input
    (of_equal _ _ _ _ _ _ _ loaded.0 _ _ _ c.counted_range.result c.deref-2.ensures.value c.new-object.ensures (c.counted_range.ensures.answer loaded.0 (loaded_usable _ loaded.0 loaded.1).0 loaded.2))

pub returns-clause-unread : goal.returns-clause-unread
returns-clause-unread g c =
    let loaded = rw c.deref.ensures.value at c.in_ok-keys.ensures.answer in
    range_unread _ _ _ _ _ _ _ loaded.0 _ _ _ c.counted_range.result
    (of_equal _ _ _ _ _ _ _ loaded.0 _ _ _ c.counted_range.result c.deref-2.ensures.value c.new-object.ensures (c.counted_range.ensures.answer loaded.0 (loaded_usable _ loaded.0 loaded.1).0 loaded.2))

pub returns-clause-unwritten : goal.returns-clause-unwritten
returns-clause-unwritten g c =
    let loaded = rw c.deref.ensures.value at c.in_ok-keys.ensures.answer in
    unranged _ _ _ _ _ _ _ loaded.0 _ _ _ c.counted_range.result
    (of_equal _ _ _ _ _ _ _ loaded.0 _ _ _ c.counted_range.result c.deref-2.ensures.value c.new-object.ensures (c.counted_range.ensures.answer loaded.0 (loaded_usable _ loaded.0 loaded.1).0 loaded.2))
    c.counted_range.ensures.early c.counted_range.ensures.unwritten

-- nothing was written

pub returns-in_err-input-clause-sink : goal.returns-in_err-input-clause-sink
returns-in_err-input-clause-sink g c = g.met.K.Sink.same_refl _
