use Rattle.tink_program_core.proofs.WordLemmas.{large_none, text_at, unread_by}
use Rattle.tink_program_core.proofs.words.read_large.Goals as goal

pub returns-in-Err : goal.returns-in-Err
returns-in-Err c = unread_by c.in-Err.e c.in-Err.ensures (large_none c.args.words.now _ (text_at _ 0 0 _ _ c.in-len1.len_at_least c.number-item.is c.as_str.ensures.value))
