use Rattle.std.proofs.Common.{◌≤◌, subst, sym}
use Rattle.gcm.proofs.Parts.{cut_before, cut_joined}
use Rattle.std.proofs.Common.{◌∙◌}
use Rattle.gcm.proofs.Hashes.{polyval_of}
use Rattle.gcm.proofs.SivFacts.{sealed_in_place}
use Rattle.gcm.proofs.siv.seal.Goals as goal

pub returns : goal.returns
returns g c =
    let keys = c.args.keys.now in
    sealed_in_place (g.C.BlockCipherEncrypt.encrypts keys.cipher) keys.authentication c.args.nonce.now c.args.aad.now c.args.text.now c.args.out.now
    c.copy_from_slice.new.self c.apply_keystream.new.bytes c.hashed_once-sum.result c.tag_of-tag.result c.counter_block.result c.copy_from_slice-2.new.self
    c.copy_from_slice.ensures.after (c.hashed_once-sum.ensures ∙ polyval_of keys.authentication c.args.aad.now c.args.text.now keys.element keys.element_of) c.tag_of-tag.ensures c.counter_block.ensures c.apply_keystream.ensures c.copy_from_slice-2.ensures.after

pub copy_from_slice-requires : goal.copy_from_slice-requires
copy_from_slice-requires g c = sym (cut_before c.args.text.now c.args.out.now c.requires.room)

pub slice_bounds-copy_from_slice-end-2 : goal.slice_bounds-copy_from_slice-end-2
slice_bounds-copy_from_slice-end-2 g c = cut_before c.args.text.now c.args.out.now c.requires.room

pub slice_bounds-apply_keystream-end-2 : goal.slice_bounds-apply_keystream-end-2
slice_bounds-apply_keystream-end-2 g c = cut_joined c.args.text.now c.copy_from_slice.new.self c.args.out.now c.copy_from_slice.ensures.len c.requires.room

pub apply_keystream-requires : goal.apply_keystream-requires
apply_keystream-requires g c = subst (λ n. n ≤ 68719476736) (cut_joined c.args.text.now c.copy_from_slice.new.self c.args.out.now c.copy_from_slice.ensures.len c.requires.room) c.requires.text
