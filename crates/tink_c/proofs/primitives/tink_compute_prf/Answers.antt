use Rattle.tink_c_primitives.specs.Primitives.{PrfGives, PrfRefuses}
use Rattle.tink_c_bytes.proofs.Handing.{hands}
use Rattle.tink_c.proofs.primitives.tink_compute_prf.Goals as goal

pub returns : goal.returns
returns c =
    hands (PrfGives c.args.keyset.now c.args.input.now c.args.output_length) (PrfRefuses c.args.keyset.now c.args.input.now c.args.output_length)
    c.prf_compute.result _ c.prf_compute.ensures c.deliver.ensures.puts
