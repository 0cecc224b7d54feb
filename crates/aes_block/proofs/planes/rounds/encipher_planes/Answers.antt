use Rattle.std.proofs.Common.{◌≡◌, ◌-◌, [], map, get_or, subst, sym, arith}
use Rattle.standards.specs.Aes.{add_round_key, key_at, mix_columns, shift_rows, state_after, sub_bytes}
use Rattle.aes_block.specs.BitPlanes.{AreBlocks, IsKey}
use Rattle.aes_block.proofs.LinearSteps.{both, step_all}
use Rattle.aes_block.proofs.planes.rounds.encipher_planes.Goals as goal

pub rounds-init : goal.rounds-init
unfolding state_after
rounds-init g c p b ks h k = c.add_planes-s.ensures p b (get_or ks 0 []) h (subst (IsKey (get_or ks 0 [])) (sym (c.key_at.ensures p)) (k 0 (omega arith)))

pub rounds-preserved : goal.rounds-preserved
rounds-preserved g c p b ks h k =
    let i = c.rounds.i in
    let held = c.rounds.invariant p b ks h k in
    let next = c.round-next.ensures p (map (λ v. state_after ks v (i - 1)) b) (get_or ks i []) held (subst (IsKey (get_or ks i [])) (sym (c.key_at-in-rounds.ensures p)) (k i (omega arith))) in
    subst (λ l. AreBlocks l (map (g.P.Plane.part p) c.round-next.result)) (step_all ks b i (omega arith)) (both (λ v. state_after ks v (i - 1)) (λ v. add_round_key (mix_columns (shift_rows (sub_bytes v))) (key_at ks i)) b _ next)

pub returns : goal.returns
returns g c p b ks h k =
    let r = c.args.rounds in
    let last : c.rounds.i ≡ r = omega arith in
    let held = subst (λ i. AreBlocks (map (λ v. state_after ks v (i - 1)) b) (map (g.P.Plane.part p) c.rounds.s)) last (c.rounds.invariant p b ks h k) in
    both (λ v. state_after ks v (r - 1)) (λ v. add_round_key (shift_rows (sub_bytes v)) (key_at ks r)) b _
    (c.last_round.ensures p (map (λ v. state_after ks v (r - 1)) b) (get_or ks r []) held (subst (IsKey (get_or ks r [])) (sym (c.key_at-2.ensures p)) (k r (omega arith))))
