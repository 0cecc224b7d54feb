use Rattle.tink_program_core.proofs.WordLemmas.{open_found, open_none, text_at, unread_by}
use Rattle.tink_program_core.proofs.words.read_open.Goals as goal

pub returns-in-Ok : goal.returns-in-Ok
returns-in-Ok c =
    open_found c.args.words.now _ _ _ _ c.in-len2.len_at_least c.in-len2.len_below
    (text_at _ 0 1 _ _ c.in-len2.len_at_least c.keyset-item.is c.as_str.ensures.value)
    (text_at _ 1 0 _ _ c.in-len2.len_at_least c.aad-item.is c.as_str-2.ensures.value) c.in-Ok.ensures

pub returns-in-Err : goal.returns-in-Err
returns-in-Err c =
    unread_by c.in-Err.e c.in-Err.ensures (open_none c.args.words.now _ _
    (text_at _ 0 1 _ _ c.in-len2.len_at_least c.keyset-item.is c.as_str.ensures.value)
    (text_at _ 1 0 _ _ c.in-len2.len_at_least c.aad-item.is c.as_str-2.ensures.value))
