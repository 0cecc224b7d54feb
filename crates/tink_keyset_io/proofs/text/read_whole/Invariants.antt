use Rattle.std.proofs.Common.{◌≤◌, ◌+◌, ◌-◌, length}
use Rattle.std.specs.Io.KnownBytes.{Consumes}
use Rattle.tink_keyset_io.proofs.text.read_whole.Given as goal

-- the text so far was read
abbrev pub invariant-pieces : goal.invariant-pieces
invariant-pieces g l =
    let source = g.S.Source in
    record {
      within : length l.text.items ≤ l.fn.most + 1;
      taken : Consumes (source.left l.fn.source) (source.left l.source) l.text.items;
      later : source.faults l.fn.source ≤ source.faults l.source;
      same : source.same l.fn.source l.source;
    }

abbrev pub decreases-pieces : goal.decreases-pieces
decreases-pieces g l = l.fn.most + 1 - length l.text.items
