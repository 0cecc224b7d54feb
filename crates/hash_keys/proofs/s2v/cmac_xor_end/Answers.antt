use Rattle.std.proofs.Common.{◌≡◌, ◌≤◌, ◌+◌, ◌-◌, ◌*◌, ◌/◌, ℕ, List, length, take, drop, ap, ap₂, sym, ◌∙◌, arith, length-drop}
use Rattle.std.proofs.lemmas.List.{take_all, take_at}
use Rattle.standards.specs.Siv.{xor_end}
use Rattle.hash_keys.specs.CmacParts.{cmac_from}
use Rattle.hash_keys.proofs.CmacParts.{cmac-xor_end, length-xor_end}
use Rattle.hash_keys.proofs.s2v.cmac_xor_end.Goals as goal

pub returns : goal.returns
returns g c =
    let E = g.C.BlockCipherEncrypt.encrypts c.args.c.now in
    let text = c.args.text.now in
    let d = c.args.d in
    let k = length text / 16 - 1 in
    let rest : List ℕ = take (length text - 16 * k) (drop (16 * k) text) in
    let behind : rest ≡ drop (16 * k) text = take_all (length text - 16 * k) (drop (16 * k) text) (omega (arith, length-drop (16 * k) text)) in
    let fits : 16 * k + 16 ≤ length text = omega (arith, c.requires) in
    let long : 16 ≤ length rest = omega (arith, ap length behind, length-drop (16 * k) text, fits) in
    let out = c.xor_end.new.out in
    let size : length out ≡ length rest = ap length c.xor_end.ensures ∙ length-xor_end rest d long in
    c.cmac_from.ensures
    ∙ ap₂ (cmac_from E) c.chain-start.ensures (take_at out _ (length rest) size ∙ c.xor_end.ensures ∙ ap (λ r. xor_end r d) behind)
    ∙ sym (cmac-xor_end E text d k fits)
