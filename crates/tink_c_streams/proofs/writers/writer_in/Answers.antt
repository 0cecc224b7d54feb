use Rattle.std.proofs.Common.{sym, subst}
use Rattle.std.proofs.lemmas.Result.{err_from_is_err_and}
use Rattle.stream_model.specs.Order.{IsOfKeyset}
use Rattle.tink_run.proofs.LoadedFacts.{loaded_usable}
use Rattle.tink_streaming_keys.specs.StreamKinds.{key_in_set}
use Rattle.tink_c_streams.proofs.WriterFacts.{not_loaded, same_key, under_keyset}
use Rattle.tink_c_streams.proofs.writers.writer_in.Goals as goal

pub writer_under-requires : goal.writer_under-requires
writer_under-requires c =
    let l = c.in_ok-keys.ensures.answer in
    subst IsOfKeyset (same_key l.0.primary (key_in_set c.primary_key.result.now) _ l.2.primary c.primary_key.ensures) (loaded_usable c.args.wire.now l.0 l.1).1

pub returns-in_err-keys : goal.returns-in_err-keys
returns-in_err-keys c =
    let p = err_from_is_err_and c.from_residual.result c.from_residual.ensures.1 in
    rw (p.1, p.2) (not_loaded c.args.wire.now c.args.associated_data.now c.args.random.now c.in_err-keys.field-0.0 c.in_err-keys.ensures.answer)

pub returns : goal.returns
returns c =
    let l = c.in_ok-keys.ensures.answer in
    under_keyset c.args.associated_data.now c.args.random.now c.args.wire.now (key_in_set c.primary_key.result.now) l.0 c.writer_under.result l.1
    (sym (same_key l.0.primary (key_in_set c.primary_key.result.now) _ l.2.primary c.primary_key.ensures)) c.writer_under.ensures
