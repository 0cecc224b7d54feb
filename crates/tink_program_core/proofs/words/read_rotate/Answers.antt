use Rattle.std.proofs.Common.{◌∙◌, sym}
use Rattle.tink_program_core.proofs.WordLemmas.{rotate_found, rotate_no_seed, rotate_none, text_at, unread_by}
use Rattle.tink_program_core.proofs.words.read_rotate.Goals as goal

pub returns-in_default-from_hex : goal.returns-in_default-from_hex
returns-in_default-from_hex c = rotate_no_seed c.args.words.now _ _ (text_at _ 2 0 _ _ c.in-len3.len_at_least c.seed-item.is c.as_str.ensures.value) (sym c.from_hex.ensures ∙ c.in_default-from_hex.is)

pub returns-in-Ok-bytes_of : goal.returns-in-Ok-bytes_of
returns-in-Ok-bytes_of c =
    rotate_found c.args.words.now _ _ _ _ _ _ c.in-len3.len_at_least c.in-len3.len_below
    (text_at _ 0 2 _ _ c.in-len3.len_at_least c.keyset-item.is c.as_str-3.ensures.value)
    (text_at _ 1 1 _ _ c.in-len3.len_at_least c.template-item.is c.as_str-2.ensures.value)
    (text_at _ 2 0 _ _ c.in-len3.len_at_least c.seed-item.is c.as_str.ensures.value)
    (sym c.from_hex.ensures ∙ c.in-Ok.is) c.in-Ok-from_str.ensures.ok c.in-Ok-bytes_of.ensures

pub returns-in-Err : goal.returns-in-Err
returns-in-Err c = unread_by c.in-Err.e c.in-Err.ensures (rotate_none c.args.words.now _ (text_at _ 0 2 _ _ c.in-len3.len_at_least c.keyset-item.is c.as_str-3.ensures.value))
