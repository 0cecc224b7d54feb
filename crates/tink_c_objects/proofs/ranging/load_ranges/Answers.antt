use Rattle.std.proofs.Common.{inl}
use Rattle.std.proofs.lemmas.Result.{err_from_is_err_and}
use Rattle.tink_c_streams.specs.NewReaders.{BeginsNoReader}
use Rattle.tink_c_streams.specs.RangeReaders.{IsRangeReader}
use Rattle.tink_c_objects.specs.declared.object.Object.TheVariants.{Ranges}
use Rattle.tink_c_objects.specs.Ranges.{OfRanges}
use Rattle.tink_c_objects.proofs.Refilled.{boxed}
use Rattle.tink_c_objects.proofs.ranging.load_ranges.Goals as goal

pub returns-in_err-ranges : goal.returns-in_err-ranges
returns-in_err-ranges c =
    let p = err_from_is_err_and c.from_residual.result c.from_residual.ensures.1 in
    rw (p.1, p.2) c.in_err-ranges.ensures

pub returns : goal.returns
returns c =
    boxed (OfRanges (IsRangeReader c.args.file.now c.args.associated_data.now)) (BeginsNoReader c.args.file.now)
    (Ranges c.in_ok-ranges.ranges) c.box_object.result (λ kind want. inl want) c.in_ok-ranges.ensures c.box_object.ensures.ok c.box_object.ensures.err
