use Rattle.std.proofs.lemmas.Result.{err_from_is_err_and}
use Rattle.tink_c_streams.proofs.NewReaderFacts.{under_keyset}
use Rattle.tink_c_streams.proofs.new_readers.reader_in.Goals as goal

pub returns-in_err-keys : goal.returns-in_err-keys
returns-in_err-keys c =
    let p = err_from_is_err_and c.from_residual.result c.from_residual.ensures.1 in
    rw (p.1, p.2) c.in_err-keys.ensures.answer

pub returns : goal.returns
returns c =
    under_keyset c.args.wire.now c.args.associated_data.now c.in_ok-keys.keys c.in_ok-keys.ensures.answer c.reader_under.ensures.order c.reader_under.result c.reader_under.ensures.value c.reader_under.ensures.cause
