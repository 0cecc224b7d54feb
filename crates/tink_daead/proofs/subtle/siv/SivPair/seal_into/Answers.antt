use Rattle.std.proofs.Common.{◌≡◌, ◌-◌, ℕ, List, ◌++◌, length, drop, ap, ap₂, ◌∙◌, arith, append-nil, length-drop}
use Rattle.std.proofs.Math.ListN.{drop_of_length-le}
use Rattle.std.proofs.lemmas.List.{take_at}
use Rattle.std.specs.Int.{w128}
use borrow.Rule.Slice.PartMut.{put_mid}
use Rattle.standards.specs.Counter.{ctr, plus_be}
use Rattle.standards.specs.Siv.{s2v, siv, siv_counter}
use Rattle.tink_daead.proofs.subtle.siv.SivPair.seal_into.Goals as goal

-- the prefix of 16 bytes, written over with v, and the rest with t
written : (xs v t : List ℕ) → length v ≡ 16 → put_mid 16 (length (v ++ drop 16 xs) - 16) (v ++ drop 16 xs) t ≡ v ++ t
written xs v t size =
    let whole = v ++ drop 16 xs in
    let none : drop (length whole - 16) (drop 16 whole) ≡ _ = drop_of_length-le (drop 16 whole) (omega (arith, length-drop 16 whole)) in
    ap₂ (λ a b. a ++ (t ++ b)) (take_at v (drop 16 xs) 16 size) none ∙ ap (λ b. v ++ b) (append-nil t)

-- V and the ciphertext under it
sealed : (Emac Ectr : List ℕ → List ℕ) (aad text v w t : List ℕ) → w ≡ v → v ≡ s2v Emac aad text → t ≡ ctr Ectr (plus_be w128) (siv_counter v) text → w ++ t ≡ siv Emac Ectr aad text
unfolding siv
sealed Emac Ectr aad text v w t same v_is t_is =
    ap₂ (λ a b. a ++ b) same t_is ∙ ap (λ x. x ++ ctr Ectr (plus_be w128) (siv_counter x) text) v_is

pub returns : goal.returns
returns g c =
    let v = c.copy_from_slice.new.self in
    let t = c.encrypt_into.new.out in
    written c.args.out.now v t (ap length c.copy_from_slice.ensures.after ∙ c.s2v_into.array_long)
    ∙ sealed (g.C.BlockCipherEncrypt.encrypts c.args.self.now.mac) (g.C.BlockCipherEncrypt.encrypts c.args.self.now.counter) c.args.aad.now c.args.text.now c.s2v_into.new.out v t
    c.copy_from_slice.ensures.after c.s2v_into.ensures.written c.encrypt_into.ensures
