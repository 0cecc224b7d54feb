use Rattle.std.proofs.Common.{◌≡◌, ℕ, ◌+◌, ◌%◌, ◌≤◌, ◌++◌, ap, drop, length, replicate, subst, sym, take, ◌∙◌}
use Rattle.std.proofs.lemmas.Simd.{length-replicate}
use Rattle.std.specs.Prelude.{◌↔◌}
use Rattle.std.specs.Result.{IsOk, IfOk}
use Rattle.cipher_modes.specs.Paddings.{missing}
use Rattle.cipher_modes.proofs.padding.ZeroPaddingPadding.pad.Goals as goal

pub returns-clause-ok : goal.returns-clause-ok
returns-clause-ok c =
    let m = missing c.args.block_size c.args.len % c.args.block_size in
    subst (λ k. IsOk c.fill_behind.result ↔ c.args.len + k ≤ length c.args.buffer.now) (ap (λ j. j % c.args.block_size) c.missing.ensures.value ∙ sym (length-replicate {A = ℕ} m 0)) c.fill_behind.ensures.ok

pub returns-clause-value : goal.returns-clause-value
returns-clause-value c =
    let m = missing c.args.block_size c.args.len % c.args.block_size in
    let old = c.args.buffer.now in
    let filled = λ (j k : ℕ). IfOk c.fill_behind.result (λ n. (n ≡ c.args.len + j) × (c.fill_behind.new.buffer ≡ take c.args.len old ++ replicate k 0 ++ drop n old)) in
    subst (λ k. filled k m) (sym (length-replicate {A = ℕ} m 0)) (subst (λ k. filled k k) (ap (λ j. j % c.args.block_size) c.missing.ensures.value) c.fill_behind.ensures.value)
