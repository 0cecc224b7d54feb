use Rattle.tink_c_streams.specs.NewReaders.{BeginsNoReader}
use Rattle.tink_c_streams.specs.RangeReaders.{IsRangeReader}
use Rattle.tink_c_objects.specs.Ranges.{OfRanges}
use Rattle.tink_c_objects.proofs.Refilled.{refilled}
use Rattle.tink_c_objects.proofs.ranging.fill_ranges.Goals as goal

pub returns : goal.returns
returns c =
    refilled (OfRanges (IsRangeReader c.args.file.now c.args.associated_data.now)) (BeginsNoReader c.args.file.now)
    c.load_ranges-loaded.result _ _ _ c.load_ranges-loaded.ensures c.fill.ensures
