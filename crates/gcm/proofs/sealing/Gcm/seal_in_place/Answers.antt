use Rattle.std.proofs.Common.{◌-◌, length, arith, length-take}
use Rattle.gcm.proofs.sealing.Gcm.seal_in_place.Goals as goal

pub returns : goal.returns
returns g c =
    let n = length c.args.bytes.now - 16 in (
      record {
        aad_fits = c.in_ok-check_lengths.ensures.aad_fits;
        text_fits = omega (arith, c.in_ok-check_lengths.ensures.text_fits, length-take n c.args.bytes.now);
      },
      c.seal_here.ensures,
    )
