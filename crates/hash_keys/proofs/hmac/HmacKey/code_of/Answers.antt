use Rattle.std.proofs.Common.{sym, subst}
use Rattle.standards.specs.Hmac.{block_key, pad}
use Rattle.hash_keys.specs.Hash.{block_size, hash_of}
use Rattle.hash_keys.specs.Hashers.{Holds}
use Rattle.hash_keys.proofs.hmac.HmacKey.code_of.Goals as goal

pub returns : goal.returns
returns c h key is =
    let k0 = block_key (hash_of h) (block_size h) key in
    c.finish.ensures h key
    record {
      named = is.named;
      inner = subst (λ s. Holds h s (pad k0 0x36)) (sym c.copy_of.ensures) is.inner;
      outer = subst (λ s. Holds h s (pad k0 0x5c)) (sym c.copy_of-2.ensures) is.outer;
    }
