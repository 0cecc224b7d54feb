use Rattle.std.proofs.Common.{◌≡◌, length, ap, sym, ◌∙◌, arith}
use Rattle.std.specs.Prelude.{Ok}
use Rattle.std.proofs.lemmas.List.{take_all, take_at}
use Rattle.hash_keys.specs.Hash.{hash_of}
use Rattle.hash_keys.proofs.Lengths.{length-hash_of}
use Rattle.tink_core_subtle.proofs.hashes.compute_hash.Goals as goal

pub returns : goal.returns
returns c =
    let h = c.args.hash_func.now.hash in
    let m = c.args.message.now in
    let size : length c.hash_into.new.out ≡ c.in_ok-digest.digest.len = omega (arith, c.hash_into.auto.out, c.deref_mut.ensures.len) in
    ap Ok (sym (c.from_vec.ensures
    ∙ (take_at c.hash_into.new.out _ c.in_ok-digest.digest.len size
    ∙ (c.hash_into.ensures.written ∙ take_all _ (hash_of h m) (omega (arith, length-hash_of h m, c.digest_size.ensures.value, c.in_ok-digest.ensures.len, c.deref_mut.ensures.len))))))
