use Rattle.std.proofs.Common.{Bool, List, ℕ, take, ap, sym, ◌∙◌}
use Rattle.std.specs.Prelude.{Ok, Err, if◌then◌else◌}
use Rattle.std.proofs.lemmas.Bool.{le-ltb}
use Rattle.tink_io.specs.declared.error.Kind.TheVariants.{OutputTooLong}
use Rattle.tink_prf_subtle.specs.AesCmac.{cmac_of}
use Rattle.tink_prf_subtle.proofs.aes_cmac.AesCmacPrfPrf.compute_prf.Goals as goal

pub returns : goal.returns
returns c =
    let n = c.args.output_length in
    let input = c.args.input.now in
    let code = cmac_of c.args.self.now input in
    let is = c.from_vec.ensures ∙ c.copy_from_slice.ensures.items ∙ ap (take n) c.cmac-code.ensures in
    record { answer = ap (λ (b : Bool). if b then Err OutputTooLong else Ok (take n code)) (le-ltb 16 n c.if-output_length-gt-AES_BLOCK_SIZE_IN_BYTES.false) ∙ ap Ok (sym is) }
