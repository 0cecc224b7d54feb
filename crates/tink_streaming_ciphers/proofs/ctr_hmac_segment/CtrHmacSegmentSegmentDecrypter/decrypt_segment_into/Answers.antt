use Rattle.std.proofs.Common.{◌∙◌, ap, sym}
use Rattle.std.specs.Int.{w64}
use Rattle.standards.specs.AesKeys.{aes}
use Rattle.standards.specs.Counter.{ctr, plus_be}
use Rattle.tink_streaming_ciphers.specs.SegmentCiphers.{cipher_key}
use Rattle.tink_streaming_ciphers.specs.SegmentKeys.{SegmentKeys, segment_under}
use Rattle.tink_streaming_ciphers.proofs.SegmentSteps.{ends_in_tag, opened, too_short}
use Rattle.tink_streaming_ciphers.proofs.ctr_hmac_segment.CtrHmacSegmentSegmentDecrypter.decrypt_segment_into.Goals as goal

pub returns-then-segment-self-clause-refused : goal.returns-then-segment-self-clause-refused
returns-then-segment-self-clause-refused c t e =
    too_short _ c.args.nonce.now c.args.segment.now t c.self.invariant.0 c.if-segment-self.true (ap (λ (s : SegmentKeys). segment_under s c.args.nonce.now t) c.self.view_is ∙ e)

pub returns-then-not-is_same-clause-refused : goal.returns-then-not-is_same-clause-refused
returns-then-not-is_same-clause-refused c t e =
    let same = ends_in_tag _ c.args.nonce.now c.args.segment.now c.tag_of-tag.result t c.self.invariant.0 (c.tag_of-tag.ensures c.self.inside.tag_hash c.self.inside.hmac_key c.self.invariant.2) (ap (λ (s : SegmentKeys). segment_under s c.args.nonce.now t) c.self.view_is ∙ e) in
    let both = c.is_same.ensures.1 same in
    cc both

pub returns-clause-ok : goal.returns-clause-ok
returns-clause-ok c =
    let same = c.is_same.ensures.0 c.if-not-is_same.false in
    ap (λ (s : SegmentKeys). segment_under s c.args.nonce.now c.apply_in_place.new.bytes) (sym c.self.view_is) ∙ opened _ c.args.nonce.now c.args.segment.now c.tag_of-tag.result c.apply_in_place.new.bytes c.block_of.result (c.tag_of-tag.ensures c.self.inside.tag_hash c.self.inside.hmac_key c.self.invariant.2) same c.block_of.ensures
    (c.apply_in_place.ensures ∙ ap (ctr (aes (cipher_key c.self.inside.cipher)) (plus_be w64) c.block_of.result) c.copy_from_slice.ensures.after)
