-- What is left stays, and nothing was read.
use Rattle.std.proofs.Common.{◌≡◌}
use Rattle.tink_large.specs.SealedText.{stream_left, turns_left}
use Rattle.tink_large.proofs.sealed_text.SealedTextSource.read.Given as goal

abbrev pub invariant-refills : goal.invariant-refills
invariant-refills l = record {
  left : stream_left l.self ≡ stream_left l.fn.self;
  number : l.self.n ≡ l.fn.self.n;
  hash : l.self.hash ≡ l.fn.self.hash;
  count : l.self.count ≡ l.fn.self.count;
}

abbrev pub decreases-refills : goal.decreases-refills
decreases-refills l = turns_left l.self
