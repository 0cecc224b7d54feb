use Rattle.gcm.proofs.Parts.{cut_behind}
use Rattle.std.proofs.Common.{◌≡◌, ◌-◌, true, length, take, drop, ap, refl, sym, ◌∙◌, arith}
use Rattle.std.proofs.lemmas.List.{length-drop, take_all}
use Rattle.std.specs.Int.{w32}
use Rattle.standards.specs.Counter.{ctr, plus_le}
use Rattle.standards.specs.GcmSiv.{counter_block}
use Rattle.standards.specs.Polyval.{polyval}
use Rattle.gcm.specs.Siv.{tag_under}
use Rattle.gcm.proofs.Hashes.{polyval_of}
use Rattle.gcm.proofs.SivFacts.{length-sealed_under, opened, tag_of_sealed}
use Rattle.gcm.proofs.siv.open.Goals as goal

pub returns-then-sealed-lt16 : goal.returns-then-sealed-lt16
returns-then-sealed-lt16 g c =
    let keys = c.args.keys.now in
    let E = g.C.BlockCipherEncrypt.encrypts keys.cipher in
    (λ text e. omega (arith, ap length e, length-sealed_under E keys.authentication c.args.nonce.now c.args.aad.now text (g.met.C.BlockCipherEncrypt.sized keys.cipher)), refl)

pub returns-then-not-is_same : goal.returns-then-not-is_same
returns-then-not-is_same g c =
    let keys = c.args.keys.now in
    let E = g.C.BlockCipherEncrypt.encrypts keys.cipher in
    let nonce = c.args.nonce.now in
    let aad = c.args.aad.now in
    let sealed = c.args.sealed.now in
    let n = length c.args.out.now in
    let n_is : n ≡ length sealed - 16 = omega arith in
    let tag : c.copy_from_slice.new.self ≡ drop n sealed = c.copy_from_slice.ensures.after ∙ take_all (length sealed - n) (drop n sealed) (omega (arith, length-drop n sealed)) in
    let block : c.counter_block-block.result ≡ counter_block (drop n sealed) = c.counter_block-block.ensures ∙ ap counter_block tag in
    let made : c.tag_of.result ≡ tag_under E (polyval keys.authentication aad (ctr E (plus_le w32) (counter_block (drop n sealed)) (take n sealed))) nonce =
    c.tag_of.ensures ∙ ap (λ s. tag_under E s nonce) (c.hashed_as_opened-sum.ensures
    ∙ polyval_of keys.authentication aad (ctr E (plus_le w32) c.counter_block-block.result (take n sealed)) keys.element keys.element_of
    ∙ ap (λ b. polyval keys.authentication aad (ctr E (plus_le w32) b (take n sealed))) block) in (
      λ text e.
          let told : c.is_same.result ≡ true = c.is_same.ensures.1 (made ∙ tag_of_sealed E keys.authentication nonce aad text sealed n (g.met.C.BlockCipherEncrypt.sized keys.cipher) n_is e ∙ sym tag) in
          let not : c.is_same.result ≡ _ = c.if-not-is_same.true in
          (cc),
      refl,
    )

pub returns : goal.returns
returns g c =
    let keys = c.args.keys.now in
    let E = g.C.BlockCipherEncrypt.encrypts keys.cipher in
    let nonce = c.args.nonce.now in
    let aad = c.args.aad.now in
    let sealed = c.args.sealed.now in
    let n = length c.args.out.now in
    let tag : c.copy_from_slice.new.self ≡ drop n sealed = c.copy_from_slice.ensures.after ∙ take_all (length sealed - n) (drop n sealed) (omega (arith, length-drop n sealed)) in
    let block : c.counter_block-block.result ≡ counter_block (drop n sealed) = c.counter_block-block.ensures ∙ ap counter_block tag in
    let front : c.apply_keystream.new.bytes ≡ ctr E (plus_le w32) c.counter_block-block.result (take n sealed) = c.apply_keystream.ensures ∙ ap (ctr E (plus_le w32) c.counter_block-block.result) c.copy_from_slice-2.ensures.after in
    opened E keys.authentication nonce aad sealed c.apply_keystream.new.bytes n (front ∙ ap (λ b. ctr E (plus_le w32) b (take n sealed)) block)
    (ap (λ s. tag_under E (polyval keys.authentication aad s) nonce) front ∙ ap (λ s. tag_under E s nonce) (sym (c.hashed_as_opened-sum.ensures ∙ polyval_of keys.authentication aad (ctr E (plus_le w32) c.counter_block-block.result (take n sealed)) keys.element keys.element_of)) ∙ sym c.tag_of.ensures ∙ c.is_same.ensures.0 c.if-not-is_same.false ∙ tag)

pub copy_from_slice-requires-2 : goal.copy_from_slice-requires-2
copy_from_slice-requires-2 g c = cut_behind c.args.out.now c.args.sealed.now c.requires.room

pub slice_bounds-copy_from_slice-end-3 : goal.slice_bounds-copy_from_slice-end-3
slice_bounds-copy_from_slice-end-3 g c = cut_behind c.args.out.now c.args.sealed.now c.requires.room

pub slice_bounds-hashed_as_opened-end : goal.slice_bounds-hashed_as_opened-end
slice_bounds-hashed_as_opened-end g c = cut_behind c.args.out.now c.args.sealed.now c.requires.room
