use Rattle.std.proofs.Common.{◌≡◌, ◌-◌, ◌≤◌, ℕ, refl, cond, eqb, List, [], take, drop, length, ap, sym, ◌∙◌, arith, length-drop, inl, inr}
use Rattle.std.proofs.lemmas.List.{drop-take, length-take-le, take_all}
use Rattle.std.proofs.lemmas.Bool.Decides.{eqb_tells}
use Rattle.cipher.specs.Buffers.{pick, part_of}
use Rattle.cipher.proofs.Parts.{pick-nil, pick-same}
use Rattle.cipher.proofs.buffers.InOutBufReserved.split_at.Goals as goal

-- the rest of a message, of what is read or of a prefix of the output
rest_read : {X : Type 0} (i o b p : List X) (n m : ℕ) → m ≤ n → n ≤ length o → b ≡ drop m o → p ≡ part_of i n m n → pick p (take (n - m) b) ≡ drop m (pick i (take n o))
rest_read {X} i o b p n m within room b_is p_is =
    let front : length (take n o) ≡ n = length-take-le n o room in
    let cut : take (n - m) b ≡ drop m (take n o) = ap (take (n - m)) b_is ∙ sym (drop-take m (n - m) o) ∙ ap (λ k. drop m (take k o)) (omega arith) in
    let size : length (take (n - m) b) ≡ n - m = ap length cut ∙ length-drop m (take n o) ∙ ap (λ k. k - m) front in
    elim (eqb_tells (length i) n) [
      | inl h ↦
          let whole : take (n - m) (drop m i) ≡ drop m i = take_all (n - m) (drop m i) (omega (arith, length-drop m i, h.1)) in
          let q : p ≡ drop m i = p_is ∙ (rw h.0 whole) in
          let same : length p ≡ length (take (n - m) b) = ap length q ∙ length-drop m i ∙ ap (λ k. k - m) h.1 ∙ sym size in
          pick-same p (take (n - m) b) same ∙ q ∙ ap (drop m) (sym (pick-same i (take n o) (h.1 ∙ sym front)))
      | inr h ↦
          let q : p ≡ [] = p_is ∙ (rw h.0 refl) in
          let other : pick i (take n o) ≡ take n o = ap (λ k. cond (eqb (length i) k) i (take n o)) front ∙ (rw h.0 refl) in
          ap (λ xs. pick xs (take (n - m) b)) q ∙ pick-nil (take (n - m) b) ∙ cut ∙ ap (drop m) (sym other)
    ]

pub returns-clause-back : goal.returns-clause-back
returns-clause-back g c =
    rest_read c.args.self.input.now c.args.self.output.now _ c.part_of-input_back.result.now c.args.self.len c.args.mid c.requires.order c.requires.room c.split_at_mut-front.ensures.back c.part_of-input_back.ensures.value
