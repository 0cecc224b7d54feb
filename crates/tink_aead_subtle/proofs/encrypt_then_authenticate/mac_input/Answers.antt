use Rattle.std.proofs.Common.{List, ◌++◌, ℕ, ap, ap₂, ◌∙◌}
use Rattle.tink_aead_subtle.proofs.encrypt_then_authenticate.mac_input.Goals as goal

pub returns : goal.returns
returns c =
    let sealed = c.args.sealed.now in
    c.in_ok-extend_from_slice-2.ensures.items
    ∙ ap₂ (λ (x y : List ℕ). x ++ y) (c.in_ok-extend_from_slice.ensures.items ∙ ap (λ (x : List ℕ). x ++ sealed) (c.in_ok-message.ensures.items_if_clones_equal (λ x y e. e))) c.to_be_bytes.ensures
