use Rattle.std.proofs.lemmas.Result.{err_from_is_err_and}
use Rattle.tink_program_core.proofs.WordLemmas.{range_found, range_no_len, range_no_start, range_none, text_at, unread_by}
use Rattle.tink_program_core.proofs.words.read_range.Goals as goal

pub returns-in_err-start : goal.returns-in_err-start
returns-in_err-start c =
    let returned = err_from_is_err_and c.from_residual.result c.from_residual.ensures.1 in
    rw (returned.1, returned.2) (unread_by c.in_err-start.field-0.0 c.in_err-start.ensures (range_no_start c.args.words.now _ (text_at _ 2 1 _ _ c.in-len4.len_at_least c.start-item.is c.as_str.ensures.value)))

pub returns-in_err-len : goal.returns-in_err-len
returns-in_err-len c =
    let returned = err_from_is_err_and c.from_residual-in_err-len.result c.from_residual-in_err-len.ensures.1 in
    rw (returned.1, returned.2) (unread_by c.in_err-len.field-0.0 c.in_err-len.ensures (range_no_len c.args.words.now _ (text_at _ 3 0 _ _ c.in-len4.len_at_least c.len-item.is c.as_str-2.ensures.value)))

pub returns-in-Ok : goal.returns-in-Ok
returns-in-Ok c =
    range_found c.args.words.now _ _ _ _ _ _ _ _ c.in-len4.len_at_least c.in-len4.len_below
    (text_at _ 0 3 _ _ c.in-len4.len_at_least c.keyset-item.is c.as_str-3.ensures.value)
    (text_at _ 1 2 _ _ c.in-len4.len_at_least c.aad-item.is c.as_str-4.ensures.value)
    (text_at _ 2 1 _ _ c.in-len4.len_at_least c.start-item.is c.as_str.ensures.value)
    (text_at _ 3 0 _ _ c.in-len4.len_at_least c.len-item.is c.as_str-2.ensures.value)
    c.in_ok-start.ensures c.in_ok-len.ensures c.in-Ok.ensures

pub returns-in-Err : goal.returns-in-Err
returns-in-Err c =
    unread_by c.in-Err.e c.in-Err.ensures (range_none c.args.words.now _ _
    (text_at _ 0 3 _ _ c.in-len4.len_at_least c.keyset-item.is c.as_str-3.ensures.value)
    (text_at _ 1 2 _ _ c.in-len4.len_at_least c.aad-item.is c.as_str-4.ensures.value))
