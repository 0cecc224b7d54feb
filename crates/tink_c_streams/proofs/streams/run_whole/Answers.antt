use Rattle.std.proofs.Common.{◌∙◌, ℕ, List, Ok, ap, sym}
use Rattle.std.proofs.lemmas.Result.{err_from_is_err_and}
use Rattle.tink_c_streams.specs.Streams.{Ran, RanNot, Writes, WritesNot}
use Rattle.tink_c_streams.proofs.StreamSteps.{read, unread}
use Rattle.tink_c_streams.proofs.streams.run_whole.Goals as goal

pub returns-in_err-wire : goal.returns-in_err-wire
returns-in_err-wire c =
    let p = err_from_is_err_and c.from_residual.result c.from_residual.ensures.1 in
    rw (p.1, p.2) (unread c.args.file.now (λ wire. Writes (Ran c.args.command wire c.args.associated_data.now c.args.random.now c.args.input.now))
    (λ wire. WritesNot (RanNot c.args.command wire c.args.associated_data.now c.args.random.now c.args.input.now)) c.in_err-wire.field-0.0 c.in_err-wire.ensures)

pub returns : goal.returns
returns c =
    read c.args.file.now (λ wire. Writes (Ran c.args.command wire c.args.associated_data.now c.args.random.now c.args.input.now))
    (λ wire. WritesNot (RanNot c.args.command wire c.args.associated_data.now c.args.random.now c.args.input.now)) c.as_slice.result.now c.run_in_wire.result (c.in_ok-wire.ensures ∙ ap (λ (x : List ℕ). Ok x) (sym c.as_slice.ensures)) c.run_in_wire.ensures
