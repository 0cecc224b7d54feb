use Rattle.std.proofs.lemmas.Result.{err_from_is_err_and}
use Rattle.tink_c_streams.proofs.range_readers.reader_in.Goals as goal

pub returns-in_err-keys : goal.returns-in_err-keys
returns-in_err-keys c =
    let p = err_from_is_err_and c.from_residual-in_err-keys.result c.from_residual-in_err-keys.ensures.1 in
    rw (p.1, p.2) c.in_err-keys.ensures.answer

pub returns : goal.returns
returns c = record { loads = c.in_ok-keys.ensures.answer; data_is = c.in_ok-data.ensures.items_if_clones_equal (λ x y same. same) }
