use Rattle.tink_c_pieces.proofs.StreamFacts.{gives_all, numbers, takes_more}
use Rattle.tink_c_pieces.proofs.laws.law_pieces_are_the_stream.Goals as goal

pub returns-clause-piece : goal.returns-clause-piece
returns-clause-piece c = λ seg first room front text bytes piece more old new some later t is took. takes_more seg first room some later front text bytes old new piece more t is took

pub returns-clause-numbers : goal.returns-clause-numbers
returns-clause-numbers c = λ seg first room front text bytes piece m some later t. numbers seg first room some later front text bytes m piece t

pub returns-clause-whole : goal.returns-clause-whole
returns-clause-whole c = λ seg first room front text bytes more m some later t is. gives_all seg first room some later front text bytes m more t is
