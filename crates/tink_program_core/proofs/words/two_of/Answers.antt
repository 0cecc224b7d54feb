use Rattle.tink_program_core.proofs.WordLemmas.{unread_by}
use Rattle.tink_program_core.proofs.words.two_of.Goals as goal

pub returns-in-Err-bytes_of : goal.returns-in-Err-bytes_of
returns-in-Err-bytes_of c = unread_by c.in-Err-bytes_of.e c.in-Err-bytes_of.ensures (λ none v w p q. none w q)

pub returns-in-Err : goal.returns-in-Err
returns-in-Err c = unread_by c.in-Err.e c.in-Err.ensures (λ none v w p q. none v p)
