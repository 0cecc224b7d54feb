use Rattle.std.proofs.Common.{◌≡◌, ◌-◌, arith, ◌∙◌, ap}
use Rattle.standards.specs.Aes.{add_round_key, key_at}
use Rattle.standards.specs.AesInverse.{inv_mix_columns, inv_shift_rows, inv_state_after, inv_sub_bytes}
use Rattle.aes_block.proofs.Rounds.{inv_state_step}
use Rattle.aes_block.proofs.decryption.decipher.Goals as goal

pub rounds-init : goal.rounds-init
unfolding inv_state_after
rounds-init c = c.add_round_key-state.ensures

pub rounds-preserved : goal.rounds-preserved
rounds-preserved c =
    let ks = c.args.keys.now in
    let r = c.args.rounds in
    let i = c.rounds.i in
    c.inv_mix_columns-state.ensures
    ∙ ap inv_mix_columns c.add_round_key-added.ensures
    ∙ ap (λ v. inv_mix_columns (add_round_key v (key_at ks (r - i)))) c.inv_shift_and_sub.ensures
    ∙ ap (λ v. inv_mix_columns (add_round_key (inv_sub_bytes (inv_shift_rows v)) (key_at ks (r - i)))) c.rounds.invariant
    ∙ inv_state_step r ks c.args.block.now i (omega arith)

pub returns : goal.returns
returns c =
    let ks = c.args.keys.now in
    let r = c.args.rounds in
    let last : c.rounds.i ≡ r = omega arith in
    c.add_round_key.ensures
    ∙ ap (λ v. add_round_key v (key_at ks 0)) c.inv_shift_and_sub-2.ensures
    ∙ ap (λ v. add_round_key (inv_sub_bytes (inv_shift_rows v)) (key_at ks 0)) (c.rounds.invariant ∙ ap (λ i. inv_state_after r ks c.args.block.now (i - 1)) last)
