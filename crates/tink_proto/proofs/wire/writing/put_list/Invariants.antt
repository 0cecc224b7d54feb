use Rattle.std.proofs.Common.{◌≡◌, ◌++◌, map, take, true}
use Rattle.wire_format.specs.Writing.{spelling}
use Rattle.wire_format.specs.Columns.{at}
use Rattle.wire_format.specs.Values.{body, fit_bodies}
use Rattle.tink_proto.proofs.wire.writing.put_list.Given as goal

abbrev pub invariant-loop-message : goal.invariant-loop-message
invariant-loop-message g l = record {
  bytes : l.out.items ≡ l.fn.out.items ++ spelling (map (at l.number) (map (body g.M.Message.table) (take l.message-index l.messages)));
  fits : fit_bodies g.M.Message.table (take l.message-index l.messages) ≡ true;
}
