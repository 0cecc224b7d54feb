use Rattle.std.proofs.Common.{inl}
use Rattle.tink_cli_keys.proofs.wrapping.master_for.Goals as goal

pub returns-in-Err-clause-refused : goal.returns-in-Err-clause-refused
returns-in-Err-clause-refused g c = λ known. inl (inl c.in-Err.ensures.refused)
