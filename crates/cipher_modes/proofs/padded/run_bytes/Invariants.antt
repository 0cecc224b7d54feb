use Rattle.std.proofs.Common.{◌-◌, length}
use Rattle.cipher_modes.specs.Padded.{bytes_run}
use Rattle.cipher_modes.proofs.BytesRun.{Remains}
use Rattle.cipher_modes.proofs.padded.run_bytes.Given as goal

abbrev pub invariant-loop-at : goal.invariant-loop-at
invariant-loop-at g l = Remains g.M.Runs.step g.row.B l.mode l.bytes l.at (bytes_run g.M.Runs.step l.initial.mode g.row.B l.initial.bytes)

abbrev pub decreases-loop-at : goal.decreases-loop-at
decreases-loop-at g l = length l.bytes - l.at
