use Rattle.std.proofs.Common.{◌∙◌, sym}
use Rattle.tink_program_core.proofs.WordLemmas.{rewrap_found, rewrap_no_from, rewrap_no_seed, rewrap_no_to, text_at, unread_by}
use Rattle.tink_program_core.proofs.words.read_rewrap.Goals as goal

pub returns-in_default-from_hex : goal.returns-in_default-from_hex
returns-in_default-from_hex c = rewrap_no_seed c.args.words.now _ _ (text_at _ 4 0 _ _ c.in-len5.len_at_least c.seed-item.is c.as_str.ensures.value) (sym c.from_hex.ensures ∙ c.in_default-from_hex.is)

pub returns-in-Ok-two_of-2 : goal.returns-in-Ok-two_of-2
returns-in-Ok-two_of-2 c =
    rewrap_found c.args.words.now _ _ _ _ _ _ _ c.in-len5.len_at_least c.in-len5.len_below
    (text_at _ 0 4 _ _ c.in-len5.len_at_least c.from-item.is c.as_str-2.ensures.value)
    (text_at _ 1 3 _ _ c.in-len5.len_at_least c.from_aad-item.is c.as_str-3.ensures.value)
    (text_at _ 2 2 _ _ c.in-len5.len_at_least c.to-item.is c.as_str-in-Ok-two_of.ensures.value)
    (text_at _ 3 1 _ _ c.in-len5.len_at_least c.to_aad-item.is c.as_str-in-Ok-two_of-2.ensures.value)
    (text_at _ 4 0 _ _ c.in-len5.len_at_least c.seed-item.is c.as_str.ensures.value)
    (sym c.from_hex.ensures ∙ c.in-Ok.is) c.in-Ok-two_of.ensures c.in-Ok-two_of-2.ensures

pub returns-in-Err-two_of : goal.returns-in-Err-two_of
returns-in-Err-two_of c =
    unread_by c.in-Err-two_of.e c.in-Err-two_of.ensures (rewrap_no_to c.args.words.now _ _
    (text_at _ 2 2 _ _ c.in-len5.len_at_least c.to-item.is c.as_str-in-Ok-two_of.ensures.value)
    (text_at _ 3 1 _ _ c.in-len5.len_at_least c.to_aad-item.is c.as_str-in-Ok-two_of-2.ensures.value))

pub returns-in-Err : goal.returns-in-Err
returns-in-Err c =
    unread_by c.in-Err.e c.in-Err.ensures (rewrap_no_from c.args.words.now _ _
    (text_at _ 0 4 _ _ c.in-len5.len_at_least c.from-item.is c.as_str-2.ensures.value)
    (text_at _ 1 3 _ _ c.in-len5.len_at_least c.from_aad-item.is c.as_str-3.ensures.value))
