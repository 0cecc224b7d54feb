use Rattle.std.proofs.Common.{inl, inr}
use Rattle.example_store.proofs.read_row.Goals as goal

pub returns-in-Ok-clause-refused : goal.returns-in-Ok-clause-refused
returns-in-Ok-clause-refused g c clean = inr (c.in-Ok.found, c.in-Ok.ensures clean, c.in-Err-get.ensures.named)

pub returns-clause-refused : goal.returns-clause-refused
returns-clause-refused g c clean = inl (c.in-Err.ensures clean)
