use Rattle.std.proofs.Common.{◌≡◌, ◌-◌, List, ℕ, length, take, drop, ap, inr, sym, ◌∙◌, arith, length-drop}
use Rattle.std.specs.Prelude.{Ok, Err}
use Rattle.std.specs.Int.{w128}
use Rattle.std.proofs.lemmas.List.{take_all, take_at}
use Rattle.standards.specs.AesKeys.{aes}
use Rattle.standards.specs.Counter.{plus_be}
use Rattle.standards.specs.Siv.{siv_counter}
use Rattle.standards.proofs.Keystream.{length-ctr}
use Rattle.tink_daead.specs.AesSiv.{counter_half}
use Rattle.tink_daead.specs.SivCiphers.{whole_key}
use Rattle.tink_daead.proofs.SivFacts.{decrypted, fits_half, refused}
use Rattle.tink_daead.proofs.subtle.aes_siv.SivCiphers.decrypt.Goals as goal

-- what stands behind 16 bytes
behind : (input : List ℕ) → take (length input - 16) (drop 16 input) ≡ drop 16 input
behind input = take_all (length input - 16) (drop 16 input) (omega (arith, length-drop 16 input))

pub returns-then-not-open : goal.returns-then-not-open
returns-then-not-open c =
    let key = whole_key c.args.self.now in
    let input = c.args.input.now in
    let rest = c.deref_mut.ensures.value ∙ c.in_ok-text.ensures.items_if_clones_equal (λ x y e. e) ∙ behind input in
    inr (refused key (fits_half c.args.self.now c.requires) input c.args.aad.now c.copy_from_slice.new.self c.deref_mut.result.now c.open.new.bytes c.if-input-lt-SIV_SIZE.false
    c.copy_from_slice.ensures.after rest c.open.ensures.text (λ same. let clash = sym (c.open.ensures.value.1 same) ∙ c.if-not-open.true in absurd (cc))
    ∙ ap Err (sym (ap (λ e. e.kind) c.new-then-not-open.ensures)))

pub returns : goal.returns
returns c =
    let key = whole_key c.args.self.now in
    let input = c.args.input.now in
    let v = c.copy_from_slice.new.self in
    let text = c.open.new.bytes in
    let rest = c.deref_mut.ensures.value ∙ c.in_ok-text.ensures.items_if_clones_equal (λ x y e. e) ∙ behind input in
    let size : length text ≡ c.in_ok-text.text.len =
    ap length c.open.ensures.text ∙ length-ctr (aes (counter_half key)) (plus_be w128) (siv_counter v) c.deref_mut.result.now ∙ ap length rest ∙ sym (c.in_ok-text.ensures.len ∙ ap length (behind input)) in
    decrypted key input c.args.aad.now v c.deref_mut.result.now text c.if-input-lt-SIV_SIZE.false c.copy_from_slice.ensures.after rest c.open.ensures.text
    (c.open.ensures.value.0 c.if-not-open.false)
    ∙ ap Ok (sym (c.from_vec.ensures ∙ take_at text _ c.in_ok-text.text.len size))
