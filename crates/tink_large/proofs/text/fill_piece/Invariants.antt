-- The text so far was pushed, and the rest has room.
use Rattle.std.proofs.Common.{◌≡◌, ◌≤◌}
use Rattle.std.specs.Prelude.{vec_len, vec_capacity}
use Rattle.tink_large.specs.Large.{text_from}
use Rattle.tink_large.proofs.text.fill_piece.Given as goal

abbrev pub invariant-loop-i : goal.invariant-loop-i
invariant-loop-i l = record {
  items : l.piece.items ≡ text_from l.n l.at l.i;
  len : vec_len l.piece ≡ l.i;
  room : l.count ≤ vec_capacity l.piece;
  kept : vec_capacity l.fn.piece ≤ vec_capacity l.piece;
}
