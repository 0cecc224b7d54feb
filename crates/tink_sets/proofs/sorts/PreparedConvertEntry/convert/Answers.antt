use Rattle.std.proofs.Common.{inl}
use Rattle.tink_sets.proofs.sorts.PreparedConvertEntry.convert.Goals as goal

pub returns-in-Err : goal.returns-in-Err
returns-in-Err g c = record { answer = inl c.in-Err.ensures.cause }
