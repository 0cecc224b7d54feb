use Rattle.std.proofs.Common.{◌≡◌, ◌-◌, arith, ◌∙◌, ap}
use Rattle.standards.specs.Aes.{add_round_key, key_at, mix_columns, shift_rows, state_after, sub_bytes}
use Rattle.aes_block.proofs.Rounds.{state_step}
use Rattle.aes_block.proofs.encryption.encipher.Goals as goal

pub rounds-init : goal.rounds-init
unfolding state_after
rounds-init c = c.add_round_key-state.ensures ∙ ap (λ v. add_round_key v (key_at c.args.keys.now 0)) c.by_number.ensures

pub rounds-preserved : goal.rounds-preserved
rounds-preserved c =
    let ks = c.args.keys.now in
    c.add_round_key-state-in-rounds.ensures
    ∙ ap (λ v. add_round_key v (key_at ks c.rounds.i)) c.sub_shift_and_mix-mixed.ensures
    ∙ ap (λ v. add_round_key (mix_columns (shift_rows (sub_bytes v))) (key_at ks c.rounds.i)) c.rounds.invariant
    ∙ state_step ks c.args.block.now c.rounds.i (omega arith)

pub returns : goal.returns
returns c =
    let last : c.rounds.i ≡ c.args.rounds = omega arith in
    let ks = c.args.keys.now in
    c.last_round.ensures
    ∙ ap (λ v. add_round_key (shift_rows (sub_bytes v)) (key_at ks c.args.rounds)) (c.rounds.invariant ∙ ap (λ i. state_after ks c.args.block.now (i - 1)) last)
