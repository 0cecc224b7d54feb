use Rattle.tink_cli_words.specs.Forms.{words_of}
use Rattle.tink_program_core.specs.Words.{Spells, asked_of}
use Rattle.tink_program_core.proofs.WordLemmas.{told_found, told_none, told_refused}
use Rattle.tink_program_core.proofs.words.parse.Goals as goal

pub returns-clause-found : goal.returns-clause-found
returns-clause-found c = rw c.none_if_nothing.ensures (told_found (λ p. Spells (words_of c.args.words.now) (asked_of p.0 p.1)) _ c.read.result (rw c.as_slice.ensures.value at c.read.ensures))

pub returns-clause-none : goal.returns-clause-none
returns-clause-none c = rw c.none_if_nothing.ensures (told_none (λ p. Spells (words_of c.args.words.now) (asked_of p.0 p.1)) _ c.read.result (rw c.as_slice.ensures.value at c.read.ensures))

pub returns-clause-refused : goal.returns-clause-refused
returns-clause-refused c = rw c.none_if_nothing.ensures (told_refused c.read.result)
