use Rattle.std.proofs.Common.{◌≡◌, ap, ◌∙◌, ◌++◌, take, append_assoc}
use Rattle.standards.specs.Hmac.{block_key, hmac, pad}
use Rattle.hash_keys.specs.Hash.{block_size, digest_size, hash_of}
use Rattle.hash_keys.proofs.hmac.HmacKey.finish.Goals as goal

pub returns : goal.returns
unfolding hmac
returns c h key is =
    let k0 = block_key (hash_of h) (block_size h) key in
    let ipad = pad k0 0x36 in
    let opad = pad k0 0x5c in
    let x = c.args.a.now in
    let y = c.args.b.now in
    let z = c.args.c.now in
    let digest = c.finalize-digest.result in
    let after = c.update-3.ensures h ((ipad ++ x) ++ y) (c.update-2.ensures h (ipad ++ x) (c.update.ensures h ipad is.inner)) in
    let joined : ((ipad ++ x) ++ y) ++ z ≡ ipad ++ (x ++ y ++ z) = simp append_assoc in
    let inner : take (digest_size h) digest ≡ hash_of h (ipad ++ (x ++ y ++ z)) = c.finalize-digest.ensures h (((ipad ++ x) ++ y) ++ z) after ∙ ap (hash_of h) joined in
    let size = c.digest_size.ensures.value ∙ ap digest_size is.named in
    let outer = c.update-4.ensures h opad is.outer in
    c.finalize.ensures h (opad ++ take c.digest_size.result digest) outer ∙ ap (λ d. hash_of h (opad ++ d)) (ap (λ n. take n digest) size ∙ inner)
