use Rattle.std.proofs.Common.{◌≡◌, ◌++◌, drop}
use Rattle.tink_keyset_io.specs.Listed.{lines_of}
use Rattle.tink_keyset_io.proofs.key_files.listing.lines_of.Given as goal

-- the lines so far, and those of the keys that are left
abbrev pub invariant-keys : goal.invariant-keys
invariant-keys l = l.text.items ++ lines_of l.primary (drop l.key-index l.keys) ≡ lines_of l.primary l.keys
