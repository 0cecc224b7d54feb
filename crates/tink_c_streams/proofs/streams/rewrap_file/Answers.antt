use Rattle.std.proofs.Common.{◌∙◌, ℕ, List, Ok, ap, sym}
use Rattle.std.proofs.lemmas.Result.{err_from_is_err_and}
use Rattle.tink_c_streams.specs.Streams.{Moved, MovedNot, Writes, WritesNot}
use Rattle.tink_c_streams.proofs.StreamSteps.{first_unread, read_both, second_unread}
use Rattle.tink_c_streams.proofs.streams.rewrap_file.Goals as goal

pub returns-in_err-wire : goal.returns-in_err-wire
returns-in_err-wire c =
    let p = err_from_is_err_and c.from_residual.result c.from_residual.ensures.1 in
    rw (p.1, p.2) (first_unread c.args.file.now c.args.to.now (λ wire into. Writes (Moved wire c.args.associated_data.now into c.args.to_associated_data.now c.args.random.now c.args.input.now))
    (λ wire into. WritesNot (MovedNot wire c.args.associated_data.now into c.args.to_associated_data.now c.args.random.now c.args.input.now)) c.in_err-wire.field-0.0 c.in_err-wire.ensures)

pub returns-in_err-into : goal.returns-in_err-into
returns-in_err-into c =
    let p = err_from_is_err_and c.from_residual-in_err-into.result c.from_residual-in_err-into.ensures.1 in
    rw (p.1, p.2) (second_unread c.args.file.now c.args.to.now (λ wire into. Writes (Moved wire c.args.associated_data.now into c.args.to_associated_data.now c.args.random.now c.args.input.now))
    (λ wire into. WritesNot (MovedNot wire c.args.associated_data.now into c.args.to_associated_data.now c.args.random.now c.args.input.now)) c.in_ok-wire.wire c.in_err-into.field-0.0 c.in_ok-wire.ensures c.in_err-into.ensures)

pub returns : goal.returns
returns c =
    read_both c.args.file.now c.args.to.now (λ wire into. Writes (Moved wire c.args.associated_data.now into c.args.to_associated_data.now c.args.random.now c.args.input.now))
    (λ wire into. WritesNot (MovedNot wire c.args.associated_data.now into c.args.to_associated_data.now c.args.random.now c.args.input.now)) c.as_slice.result.now c.as_slice-2.result.now c.rewrap_in_wire.result (c.in_ok-wire.ensures ∙ ap (λ (x : List ℕ). Ok x) (sym c.as_slice.ensures))
    (c.in_ok-into.ensures ∙ ap (λ (x : List ℕ). Ok x) (sym c.as_slice-2.ensures)) c.rewrap_in_wire.ensures
