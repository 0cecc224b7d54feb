use Rattle.std.proofs.Common.{◌≡◌, ◌++◌, drop}
use Rattle.tink_keygen.specs.TemplateLines.{lines_of}
use Rattle.tink_keygen.proofs.listing.lines_of.Given as goal

-- the lines so far, and those of the names that are left
abbrev pub invariant-names : goal.invariant-names
invariant-names l = l.text.items ++ lines_of (drop l.name-index l.names) ≡ lines_of l.names
