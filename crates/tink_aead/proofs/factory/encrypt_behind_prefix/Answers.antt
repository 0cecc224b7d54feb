use Rattle.std.proofs.Common.{inl, ℕ, List, ◌++◌, ap, ap₂, sym, ◌∙◌}
use Rattle.std.proofs.lemmas.Result.{err_from_is_err_and}
use Rattle.tink_primitives.specs.MeaningLaws.{replies_end}
use Rattle.std.specs.Prelude.{Ok}
use Rattle.tink_io.specs.Answering.{made_of}
use Rattle.tink_aead.proofs.factory.encrypt_behind_prefix.Goals as goal

pub returns : goal.returns
returns g c =
    let told = c.in_ok-sealed.ensures.replies in
    let prefix = c.in_ok-out.ensures.items_if_clones_equal (λ x y e. e) ∙ c.as_slice.ensures in
    let is = c.from_vec.ensures ∙ c.in_ok-extend_from_slice.ensures.items ∙ ap₂ (λ (x y : List ℕ). x ++ y) prefix c.as_slice-2.ensures in
    (ap (made_of (λ (sealed : List ℕ). c.args.entry.now.prefix ++ sealed)) told.0 ∙ ap Ok (sym is), told.1)

pub returns-in_err-extend_from_slice : goal.returns-in_err-extend_from_slice
returns-in_err-extend_from_slice g c =
    let returned = err_from_is_err_and c.from_residual-in_err-extend_from_slice.result c.from_residual-in_err-extend_from_slice.ensures.1 in
    let primitive = c.args.entry.now.primitive in
    let draws = c.args.draws.now in
    rw returned.1
    (inl (record {
      kind = ap (λ e. e.kind) returned.2;
      ends = replies_end (Ok c.in_ok-sealed.sealed) (g.P.Aead.encrypts primitive c.args.plaintext.now c.args.additional_data.now draws) draws c.encrypt.new.draws
          (g.met.P.Aead.encrypts_told primitive c.args.plaintext.now c.args.additional_data.now draws) c.in_ok-sealed.ensures.replies;
    }))
