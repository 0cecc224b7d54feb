use Rattle.std.proofs.Common.{ℕ, List, ◌++◌, ap, ap₂, sym, ◌∙◌}
use Rattle.std.specs.Prelude.{Ok}
use Rattle.tink_io.specs.Answering.{made_of}
use Rattle.tink_mac.proofs.factory.prefixed_mac.Goals as goal

pub returns : goal.returns
returns g c =
    let prefix = c.in_ok-mac.ensures.items_if_clones_equal (λ x y e. e) ∙ c.as_slice.ensures in
    let is = c.from_vec.ensures ∙ c.in_ok-extend_from_slice.ensures.items ∙ ap₂ (λ (x y : List ℕ). x ++ y) prefix c.as_slice-2.ensures in
    ap (made_of (λ (tag : List ℕ). c.args.entry.now.prefix ++ tag)) c.in_ok-tag.ensures ∙ ap Ok (sym is)
