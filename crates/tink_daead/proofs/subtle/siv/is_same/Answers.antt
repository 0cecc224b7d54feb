use Rattle.std.proofs.Common.{◌≡◌, ℕ, List, length, ap, sym, ◌∙◌, bit_xor}
use Rattle.std.proofs.lemmas.Bool.{eq-eqb, eqb-true}
use Rattle.std.specs.Int.{w128, from_be_bytes, to_be_bytes}
use Rattle.std.specs.Int.Bits.{xor_assoc, xor_self, xor_zero_l, xor_zero_r}
use Rattle.standards.specs.Lists.{AreBytes}
use Rattle.standards.proofs.ByteOrder.{to_be_bytes-from_be_bytes}
use Rattle.tink_daead.proofs.subtle.siv.is_same.Goals as goal

-- numbers whose sum is 0 are equal
none_differs : (a b : ℕ) → bit_xor a b ≡ 0 → a ≡ b
none_differs a b e = sym (xor_zero_r a) ∙ ap (bit_xor a) (sym (xor_self b)) ∙ sym (xor_assoc a b b) ∙ ap (λ v. bit_xor v b) e ∙ xor_zero_l b

-- blocks of the same number are equal
same_blocks : (xs ys : List ℕ) → length xs ≡ 16 → length ys ≡ 16 → AreBytes xs → AreBytes ys → from_be_bytes w128 xs ≡ from_be_bytes w128 ys → xs ≡ ys
same_blocks xs ys m n p q e = sym (to_be_bytes-from_be_bytes w128 xs m p) ∙ ap (to_be_bytes w128) e ∙ to_be_bytes-from_be_bytes w128 ys n q

pub returns : goal.returns
returns c =
    let x = c.from_be_bytes.result in
    let y = c.from_be_bytes-2.result in
    let x_is : x ≡ from_be_bytes w128 c.args.a.now = c.from_be_bytes.ensures in
    let y_is : y ≡ from_be_bytes w128 c.args.b.now = c.from_be_bytes-2.ensures in (
      λ t. same_blocks c.args.a.now c.args.b.now c.told-a c.told-b c.fits-a c.fits-b (sym x_is ∙ none_differs x y (eqb-true (bit_xor x y) 0 t) ∙ y_is),
      λ e. eq-eqb (bit_xor x y) 0 (ap (λ v. bit_xor v y) (x_is ∙ ap (from_be_bytes w128) e ∙ sym y_is) ∙ xor_self y),
    )
