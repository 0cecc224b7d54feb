use Rattle.tink_c_streams.specs.NewReaders.{BeginsNoReader, BeginsReader}
use Rattle.tink_c_objects.specs.Readers.{OfReader}
use Rattle.tink_c_objects.proofs.Refilled.{refilled}
use Rattle.tink_c_objects.proofs.reading.fill_reader.Goals as goal

pub returns : goal.returns
returns c =
    refilled (OfReader (BeginsReader c.args.file.now c.args.associated_data.now)) (BeginsNoReader c.args.file.now)
    c.load_reader-loaded.result _ _ _ c.load_reader-loaded.ensures c.fill.ensures
