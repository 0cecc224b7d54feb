-- What stays at the front of what a sink gets.
use Rattle.std.proofs.Common.{ℕ, List, [], ◌++◌, take}
use Rattle.std.specs.Prelude.{Result, Ok, Err}
use Rattle.std.specs.declared.option.Option.{Option}
use Rattle.std.specs.Io.KnownBytes.{WriteAppends}
use Rattle.std.proofs.KnownBytes.{Appends-kept, Appends-nil, Appends-trans}
use Rattle.tink_io.specs.Gathering.{OnlyGrows}

pub grows_then : (a b c : Option (List ℕ)) → OnlyGrows a b → OnlyGrows b c → OnlyGrows a c
grows_then a b c p q = (p.0 ++ q.0, Appends-trans a b c p.0 q.0 p.1 q.1)

-- a write, whatever it answers
pub grows_written : {E : Type 0} (a b : Option (List ℕ)) (answer : Result ℕ E) (bytes : List ℕ) → WriteAppends a b answer bytes → OnlyGrows a b
grows_written a b (Ok n) bytes w = (take n bytes, w)
grows_written a b (Err e) bytes w = ([], Appends-kept a a b [] (Appends-nil a) w)
