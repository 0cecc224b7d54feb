use Rattle.std.proofs.Common.{◌≡◌, ℕ, List, length, ap, sym, ◌∙◌, bit_xor}
use Rattle.std.proofs.lemmas.Bool.{eq-eqb, eqb-true}
use Rattle.std.specs.Int.{w128, from_be_bytes, to_be_bytes}
use Rattle.std.specs.Int.Bits.{xor_assoc, xor_self, xor_zero_l, xor_zero_r}
use Rattle.standards.specs.Lists.{AreBytes}
use Rattle.standards.proofs.ByteOrder.{to_be_bytes-from_be_bytes}
use Rattle.gcm.proofs.bytes.is_same.Goals as goal

-- numbers whose sum is 0 are equal
none_differs : (a b : ℕ) → bit_xor a b ≡ 0 → a ≡ b
none_differs a b e = sym (xor_zero_r a) ∙ ap (bit_xor a) (sym (xor_self b)) ∙ sym (xor_assoc a b b) ∙ ap (λ v. bit_xor v b) e ∙ xor_zero_l b

-- blocks of the same number are equal
same_blocks : (xs ys : List ℕ) → length xs ≡ 16 → length ys ≡ 16 → AreBytes xs → AreBytes ys → from_be_bytes w128 xs ≡ from_be_bytes w128 ys → xs ≡ ys
same_blocks xs ys m n p q e = sym (to_be_bytes-from_be_bytes w128 xs m p) ∙ ap (to_be_bytes w128) e ∙ to_be_bytes-from_be_bytes w128 ys n q

pub returns : goal.returns
returns c =
    let tag = c.args.tag.now in
    let bytes = c.args.bytes.now in
    let a = c.from_be_bytes.result in
    let b = c.from_be_bytes-2.result in
    let a_is : a ≡ from_be_bytes w128 tag = c.from_be_bytes.ensures in
    let b_is : b ≡ from_be_bytes w128 bytes = c.from_be_bytes-2.ensures ∙ ap (from_be_bytes w128) c.copy_from_slice.ensures.after in (
      λ t. same_blocks tag bytes c.told-tag c.requires c.fits-tag (λ i. (c.type_inv.bytes i).fits) (sym a_is ∙ none_differs a b (eqb-true (bit_xor a b) 0 t) ∙ b_is),
      λ e. eq-eqb (bit_xor a b) 0 (ap (λ v. bit_xor v b) (a_is ∙ ap (from_be_bytes w128) e ∙ sym b_is) ∙ xor_self b),
    )
