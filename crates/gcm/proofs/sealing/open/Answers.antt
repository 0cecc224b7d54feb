use Rattle.gcm.proofs.Parts.{cut_behind}
use Rattle.std.proofs.Common.{◌≡◌, ◌-◌, true, length, take, drop, ap, refl, sym, ◌∙◌, arith}
use Rattle.std.proofs.lemmas.List.{length-drop, take_all}
use Rattle.standards.specs.Gcm.{gcm_tag, gcm_text}
use Rattle.standards.proofs.Lengths.{length-gcm}
use Rattle.gcm.proofs.GcmFacts.{opened, tag_of_sealed}
use Rattle.gcm.proofs.sealing.open.Goals as goal

pub returns-then-sealed-lt16 : goal.returns-then-sealed-lt16
returns-then-sealed-lt16 g c =
    let E = g.C.BlockCipherEncrypt.encrypts c.args.g.now.cipher in
    (λ text e. omega (arith, ap length e, length-gcm E c.args.nonce.now c.args.aad.now text), refl)

pub returns-then-not-is_same : goal.returns-then-not-is_same
returns-then-not-is_same g c =
    let E = g.C.BlockCipherEncrypt.encrypts c.args.g.now.cipher in
    let sealed = c.args.sealed.now in
    let n = length c.args.out.now in
    let n_is : length sealed - 16 ≡ n = omega arith in
    let all : take (length sealed - n) (drop n sealed) ≡ drop n sealed = take_all (length sealed - n) (drop n sealed) (omega (arith, length-drop n sealed)) in (
      λ text e.
          let tag : gcm_tag E c.args.nonce.now c.args.aad.now (take n sealed) ≡ drop n sealed =
          ap (λ k. gcm_tag E c.args.nonce.now c.args.aad.now (take k sealed)) (sym n_is) ∙ tag_of_sealed E c.args.nonce.now c.args.aad.now text sealed e ∙ ap (λ k. drop k sealed) n_is in
          let told : c.is_same.result ≡ true = c.is_same.ensures.1 (c.tag_of-tag.ensures ∙ tag ∙ sym all) in
          let not : c.is_same.result ≡ _ = c.if-not-is_same.true in
          (cc),
      refl,
    )

pub returns : goal.returns
returns g c =
    let E = g.C.BlockCipherEncrypt.encrypts c.args.g.now.cipher in
    let sealed = c.args.sealed.now in
    let n = length c.args.out.now in
    let all : take (length sealed - n) (drop n sealed) ≡ drop n sealed = take_all (length sealed - n) (drop n sealed) (omega (arith, length-drop n sealed)) in
    opened E c.args.nonce.now c.args.aad.now sealed c.apply_text.new.bytes n (c.apply_text.ensures ∙ ap (gcm_text E c.args.nonce.now) c.copy_from_slice.ensures.after)
    (sym c.tag_of-tag.ensures ∙ c.is_same.ensures.0 c.if-not-is_same.false ∙ all)

pub copy_from_slice-requires : goal.copy_from_slice-requires
copy_from_slice-requires g c = cut_behind c.args.out.now c.args.sealed.now c.requires.room

pub slice_bounds-copy_from_slice-end : goal.slice_bounds-copy_from_slice-end
slice_bounds-copy_from_slice-end g c = cut_behind c.args.out.now c.args.sealed.now c.requires.room

pub slice_bounds-tag_of-end : goal.slice_bounds-tag_of-end
slice_bounds-tag_of-end g c = cut_behind c.args.out.now c.args.sealed.now c.requires.room

pub apply_text-requires-clause-nonce : goal.apply_text-requires-clause-nonce
apply_text-requires-clause-nonce g c = c.requires.nonce
