-- What holds of each of two managers holds of the one that is chosen.
use Rattle.std.specs.Prelude.{Bool, true, false}

pub of_each : (P : Bool → Type 0) (b : Bool) → P true → P false → P b
of_each P true if_true if_false = if_true
of_each P false if_true if_false = if_false
