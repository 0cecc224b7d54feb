use Rattle.std.proofs.Common.{◌≡◌, drop}
use Rattle.tink_system.specs.Memory.{file_at}
use Rattle.tink_system.proofs.mem_system.bytes_at.Given as goal

-- the file is in what is left, if there is one
abbrev pub invariant-files : goal.invariant-files
invariant-files l = file_at (drop l.file-index l.files) l.name ≡ file_at l.files l.name
