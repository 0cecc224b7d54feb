use Rattle.tink_program_core.specs.Words.{IsNumberWord}
use Rattle.tink_program_core.proofs.WordLemmas.{told_found, told_none, told_refused}
use Rattle.tink_program_core.proofs.words.number_of.Goals as goal

pub returns-clause-found : goal.returns-clause-found
returns-clause-found c = rw c.none_if_nothing.ensures (told_found (λ n. IsNumberWord c.args.most c.args.word.now n) _ c.number_in.result c.number_in.ensures)

pub returns-clause-none : goal.returns-clause-none
returns-clause-none c = rw c.none_if_nothing.ensures (told_none (λ n. IsNumberWord c.args.most c.args.word.now n) _ c.number_in.result c.number_in.ensures)

pub returns-clause-refused : goal.returns-clause-refused
returns-clause-refused c = rw c.none_if_nothing.ensures (told_refused c.number_in.result)
