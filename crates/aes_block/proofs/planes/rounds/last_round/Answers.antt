use Rattle.std.proofs.Common.{map}
use Rattle.standards.specs.Aes.{add_round_key, shift_rows, sub_bytes}
use Rattle.aes_block.proofs.LinearSteps.{both}
use Rattle.aes_block.proofs.planes.rounds.last_round.Goals as goal

pub returns : goal.returns
returns g c p b key h k =
    let s = both sub_bytes shift_rows b _ (c.shift_planes.ensures p (map sub_bytes b) (c.substitute.ensures p b h)) in
    both (λ v. shift_rows (sub_bytes v)) (λ v. add_round_key v key) b _ (c.add_planes.ensures p (map (λ v. shift_rows (sub_bytes v)) b) key s k)
