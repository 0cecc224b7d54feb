use Rattle.tink_program_core.proofs.WordLemmas.{verify_found, verify_none, text_at, unread_by}
use Rattle.tink_program_core.proofs.words.read_verify.Goals as goal

pub returns-in-Ok : goal.returns-in-Ok
returns-in-Ok c = verify_found c.args.words.now _ _ c.in-len1.len_at_least c.in-len1.len_below (text_at _ 0 0 _ _ c.in-len1.len_at_least c.keyset-item.is c.as_str.ensures.value) c.in-Ok.ensures

pub returns-in-Err : goal.returns-in-Err
returns-in-Err c = unread_by c.in-Err.e c.in-Err.ensures (verify_none c.args.words.now _ (text_at _ 0 0 _ _ c.in-len1.len_at_least c.keyset-item.is c.as_str.ensures.value))
