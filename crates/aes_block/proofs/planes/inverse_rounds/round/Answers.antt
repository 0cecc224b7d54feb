use Rattle.std.proofs.Common.{map}
use Rattle.standards.specs.Aes.{add_round_key}
use Rattle.standards.specs.AesInverse.{inv_mix_columns, inv_shift_rows, inv_sub_bytes}
use Rattle.aes_block.proofs.LinearSteps.{both}
use Rattle.aes_block.proofs.planes.inverse_rounds.round.Goals as goal

pub returns : goal.returns
returns g c p b key h k =
    both (λ v. add_round_key (inv_sub_bytes (inv_shift_rows v)) key) inv_mix_columns b _
    (c.inv_mix_planes.ensures p (map (λ v. add_round_key (inv_sub_bytes (inv_shift_rows v)) key) b) (c.last_round.ensures p b key h k))
