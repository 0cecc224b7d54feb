use Rattle.tink_streaming_io.proofs.TextLaws.{gave_none, gave_more, gave_all, gave_longest, text_of_whole}
use Rattle.tink_streaming_io.proofs.reading_laws.law_whole_text.Goals as goal

pub returns-clause-fresh : goal.returns-clause-fresh
returns-clause-fresh c = gave_none

pub returns-clause-more : goal.returns-clause-more
returns-clause-more c = λ seg a b overhead. gave_more seg a b

pub returns-clause-whole : goal.returns-clause-whole
returns-clause-whole c = gave_all

pub returns-clause-stopped : goal.returns-clause-stopped
returns-clause-stopped c = gave_longest

pub returns-clause-stream : goal.returns-clause-stream
returns-clause-stream c = text_of_whole
