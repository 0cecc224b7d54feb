use Rattle.std.proofs.Common.{◌≡◌, ◌-◌, [], map, get_or, subst, sym, arith}
use Rattle.standards.specs.Aes.{add_round_key, key_at}
use Rattle.standards.specs.AesInverse.{inv_mix_columns, inv_shift_rows, inv_state_after, inv_sub_bytes}
use Rattle.aes_block.specs.BitPlanes.{AreBlocks, IsKey}
use Rattle.aes_block.proofs.LinearSteps.{both, inv_step_all}
use Rattle.aes_block.proofs.planes.inverse_rounds.decipher_planes.Goals as goal

pub rounds-init : goal.rounds-init
unfolding inv_state_after
rounds-init g c p b ks h k =
    let r = c.args.rounds in c.add_planes-s.ensures p b (get_or ks r []) h (subst (IsKey (get_or ks r [])) (sym (c.key_at.ensures p)) (k r (omega arith)))

pub rounds-preserved : goal.rounds-preserved
rounds-preserved g c p b ks h k =
    let r = c.args.rounds in
    let i = c.rounds.i in
    let held = c.rounds.invariant p b ks h k in
    let key = subst (IsKey (get_or ks (r - i) [])) (sym (c.key_at-in-rounds.ensures p)) (k (r - i) (omega arith)) in
    let next = c.round-next.ensures p (map (λ v. inv_state_after r ks v (i - 1)) b) (get_or ks (r - i) []) held key in
    subst (λ l. AreBlocks l (map (g.P.Plane.part p) c.round-next.result)) (inv_step_all r ks b i (omega arith))
    (both (λ v. inv_state_after r ks v (i - 1)) (λ v. inv_mix_columns (add_round_key (inv_sub_bytes (inv_shift_rows v)) (key_at ks (r - i)))) b _ next)

pub returns : goal.returns
returns g c p b ks h k =
    let r = c.args.rounds in
    let last : c.rounds.i ≡ r = omega arith in
    let held = subst (λ i. AreBlocks (map (λ v. inv_state_after r ks v (i - 1)) b) (map (g.P.Plane.part p) c.rounds.s)) last (c.rounds.invariant p b ks h k) in
    let key = subst (IsKey (get_or ks 0 [])) (sym (c.key_at-2.ensures p)) (k 0 (omega arith)) in
    both (λ v. inv_state_after r ks v (r - 1)) (λ v. add_round_key (inv_sub_bytes (inv_shift_rows v)) (key_at ks 0)) b _
    (c.last_round.ensures p (map (λ v. inv_state_after r ks v (r - 1)) b) (get_or ks 0 []) held key)
