use Rattle.std.proofs.Common.{map}
use Rattle.standards.specs.Aes.{add_round_key, mix_columns, shift_rows, sub_bytes}
use Rattle.aes_block.proofs.LinearSteps.{both}
use Rattle.aes_block.proofs.planes.rounds.round.Goals as goal

pub returns : goal.returns
returns g c p b key h k =
    let s = both sub_bytes shift_rows b _ (c.shift_planes.ensures p (map sub_bytes b) (c.substitute.ensures p b h)) in
    let m = both (λ v. shift_rows (sub_bytes v)) mix_columns b _ (c.mix_planes.ensures p (map (λ v. shift_rows (sub_bytes v)) b) s) in
    both (λ v. mix_columns (shift_rows (sub_bytes v))) (λ v. add_round_key v key) b _ (c.add_planes.ensures p (map (λ v. mix_columns (shift_rows (sub_bytes v))) b) key m k)
