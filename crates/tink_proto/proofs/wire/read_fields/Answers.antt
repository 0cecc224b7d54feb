use Rattle.std.proofs.Common.{◌≡◌, ◌<◌, length, sym, ◌∙◌, arith}
use Rattle.std.proofs.lemmas.Bool.{eqb-true, eqb-false}
use Rattle.std.proofs.lemmas.Result.{err_from_is_err_and}
use Rattle.wire_format.specs.Columns.{read_into}
use Rattle.wire_format.proofs.ReadingLaws.{shorter, reads_on, stops, ends}
use Rattle.tink_proto.specs.View.{field_of}
use Rattle.tink_proto.proofs.Merging.{fails_on}
use Rattle.tink_proto.proofs.wire.read_fields.Goals as goal

pub returns-in_default : goal.returns-in_default
returns-in_default g c =
    let some : 0 < length c.loop-rest.rest.now = omega (arith, eqb-false _ _ (sym c.loop-rest-test.ensures)) in
    sym c.loop-rest.invariant ∙ stops g.M.Message.table.step c.loop-rest.message c.loop-rest.rest.now some c.in_default.ensures

pub returns-in_err-read_field : goal.returns-in_err-read_field
returns-in_err-read_field g c =
    let p = err_from_is_err_and c.from_residual.result c.from_residual.ensures.1 in
    rw (p.1, p.2) (fails_on c.in_err-read_field.field-0.0 g.M.Message.table.step c.loop-rest.message c.loop-rest.rest.now (field_of c.in-Some.field, c.in-Some.after.now) (read_into g.M.Message.table.step c.args.message.now c.args.bytes.now) c.in-Some.ensures c.in_err-read_field.ensures.reads c.loop-rest.invariant)

pub loop-rest-smaller : goal.loop-rest-smaller
loop-rest-smaller g c = shorter c.loop-rest.rest.now (field_of c.in-Some.field, c.in-Some.after.now) c.in-Some.ensures

pub loop-rest-preserved : goal.loop-rest-preserved
loop-rest-preserved g c = reads_on g.M.Message.table.step c.loop-rest.message c.read_field.new.self c.loop-rest.rest.now (field_of c.in-Some.field, c.in-Some.after.now) c.in-Some.ensures c.in_ok-read_field.ensures.reads ∙ c.loop-rest.invariant

pub returns : goal.returns
returns g c =
    let none : length c.loop-rest.rest.now ≡ 0 = eqb-true _ _ (sym c.loop-rest-test.ensures) in
    sym c.loop-rest.invariant ∙ ends g.M.Message.table.step c.loop-rest.message c.loop-rest.rest.now none
