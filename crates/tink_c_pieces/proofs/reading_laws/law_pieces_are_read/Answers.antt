use Rattle.tink_c_pieces.proofs.BeginningFacts.{chosen_for_good}
use Rattle.tink_c_pieces.proofs.ReadingSteps.{feed_more, finish_all}
use Rattle.tink_c_pieces.proofs.reading_laws.law_pieces_are_read.Goals as goal

pub returns-clause-piece : goal.returns-clause-piece
returns-clause-piece c = λ seg first size came given piece n old new none read feeds. feed_more seg first size came given old new piece n none read feeds

pub returns-clause-whole : goal.returns-clause-whole
returns-clause-whole c = λ seg first size came given old new none ended read finishes. finish_all seg first size came given old new none ended read finishes

pub returns-clause-key : goal.returns-clause-key
returns-clause-key c = λ ks came more chosen all is. chosen_for_good ks came more chosen all is
