use Rattle.std.proofs.Common.{◌≡◌, drop}
use Rattle.tink_keyset_io.specs.Files.{format_of}
use Rattle.tink_keyset_io.proofs.key_files.formats.Format.of_file.Given as goal

-- what is left decides
abbrev pub invariant-bytes : goal.invariant-bytes
invariant-bytes l = format_of (drop l.byte-index l.file) ≡ format_of l.file
