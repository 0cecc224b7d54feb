use Rattle.std.proofs.Common.{map}
use Rattle.standards.specs.Aes.{add_round_key}
use Rattle.standards.specs.AesInverse.{inv_shift_rows, inv_sub_bytes}
use Rattle.aes_block.proofs.LinearSteps.{both}
use Rattle.aes_block.proofs.planes.inverse_rounds.last_round.Goals as goal

pub returns : goal.returns
returns g c p b key h k =
    let s = both inv_shift_rows inv_sub_bytes b _ (c.inv_substitute.ensures p (map inv_shift_rows b) (c.inv_shift_planes.ensures p b h)) in
    both (λ v. inv_sub_bytes (inv_shift_rows v)) (λ v. add_round_key v key) b _ (c.add_planes.ensures p (map (λ v. inv_sub_bytes (inv_shift_rows v)) b) key s k)
