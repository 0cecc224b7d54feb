use Rattle.std.proofs.Common.{◌∙◌, ℕ, List, Ok, ap, sym}
use Rattle.std.proofs.lemmas.Result.{err_from_is_err_and}
use Rattle.tink_c_streams.proofs.NewReaderFacts.{no_file}
use Rattle.tink_c_streams.proofs.RangeSteps.{under_file}
use Rattle.tink_c_streams.proofs.range_readers.range_reader_of.Goals as goal

pub returns-in_err-wire : goal.returns-in_err-wire
returns-in_err-wire c =
    let p = err_from_is_err_and c.from_residual.result c.from_residual.ensures.1 in
    rw (p.1, p.2) (no_file c.args.file.now c.in_err-wire.field-0.0 c.in_err-wire.ensures)

pub returns : goal.returns
returns c =
    under_file c.args.file.now c.args.associated_data.now c.as_slice.result.now c.reader_in.result
    (c.in_ok-wire.ensures ∙ ap (λ (x : List ℕ). Ok x) (sym c.as_slice.ensures)) c.reader_in.ensures
