use Rattle.std.proofs.Common.{◌≡◌, ◌∙◌, ap, ℕ, ◌+◌, ◌-◌, ◌/◌, List, [], ◌++◌, length, take}
use Rattle.std.proofs.lemmas.List.{append-nil}
use Rattle.standards.specs.Hkdf.{hkdf, expand}
use Rattle.hash_keys.specs.Hash.{hash_of, block_size, digest_size, hmac_of, hkdf_of}
use Rattle.hash_keys.specs.declared.Hash.{Hash}
use Rattle.hash_keys.proofs.hkdf_into.Goals as goal

-- the blocks under the extracted key are HKDF
expanded : (h : Hash) (ikm salt info code out : List ℕ) (size len : ℕ) → size ≡ digest_size h
    → take (digest_size h) code ≡ hmac_of h salt (ikm ++ [] ++ [])
    → out ≡ take len (expand (hash_of h) (block_size h) (take size code) info ((len + digest_size h - 1) / digest_size h))
    → out ≡ hkdf_of h ikm salt info len
unfolding hkdf
expanded h ikm salt info code out size len size_is code_is out_is =
    out_is ∙ ap (λ key. take len (expand (hash_of h) (block_size h) key info ((len + digest_size h - 1) / digest_size h)))
    (ap (λ n. take n code) size_is ∙ code_is ∙ ap (hmac_of h salt) (simp append-nil))

pub returns-clause-ok : goal.returns-clause-ok
returns-clause-ok c =
    expanded c.args.h c.args.ikm.now c.args.salt.now c.args.info.now c.finish-key.result c.expand_into.new.out c.digest_size-2.result (length c.args.out.now)
    c.digest_size-2.ensures.value (c.finish-key.ensures c.args.h c.args.salt.now c.new.ensures.of_key) c.expand_into.ensures
