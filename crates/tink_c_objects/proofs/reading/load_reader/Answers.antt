use Rattle.std.proofs.Common.{inl}
use Rattle.std.proofs.lemmas.Result.{err_from_is_err_and}
use Rattle.tink_c_streams.specs.NewReaders.{BeginsNoReader, BeginsReader}
use Rattle.tink_c_objects.specs.declared.object.Object.TheVariants.{Reader}
use Rattle.tink_c_objects.specs.Readers.{OfReader}
use Rattle.tink_c_objects.proofs.Refilled.{boxed}
use Rattle.tink_c_objects.proofs.reading.load_reader.Goals as goal

pub returns-in_err-reader : goal.returns-in_err-reader
returns-in_err-reader c =
    let p = err_from_is_err_and c.from_residual.result c.from_residual.ensures.1 in
    rw (p.1, p.2) c.in_err-reader.ensures

pub returns : goal.returns
returns c =
    boxed (OfReader (BeginsReader c.args.file.now c.args.associated_data.now)) (BeginsNoReader c.args.file.now)
    (Reader c.in_ok-reader.reader) c.box_object.result (λ kind want. inl want) c.in_ok-reader.ensures c.box_object.ensures.ok c.box_object.ensures.err
