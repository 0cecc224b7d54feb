use Rattle.std.proofs.Common.{◌≡◌, ◌≤◌, ◌<◌, ◌+◌, ◌-◌, ◌*◌, ℕ, List, [], ◌∷◌, ◌++◌, length, take, refl, sym, ◌∙◌, ap, add-one, arith}
use Rattle.std.proofs.lemmas.List.{length-take-le, take_all, take-take}
use Rattle.std.proofs.lemmas.Slice.{take-put_mid}
use Rattle.std.proofs.Math.Seq.{take-append-add, take-length}
use borrow.Rule.Slice.PartMut.{put_mid, same_len_mid}
use Rattle.standards.specs.Hkdf.{expand, expand_block}
use Rattle.hash_keys.specs.Hash.{hash_of, block_size, digest_size, hmac_of}
use Rattle.hash_keys.specs.declared.Hash.{Hash}
use Rattle.hash_keys.proofs.Lengths.{length-hmac_of, length-expand, just_enough_blocks}
use Rattle.hash_keys.proofs.expand_into.Goals as goal

next_block : (h : Hash) (key info last next : List ℕ) (have number : ℕ) → take have last ≡ expand_block (hash_of h) (block_size h) key info number
    → next ≡ hmac_of h key (take have last ++ info ++ (number + 1) ∷ [])
    → next ≡ expand_block (hash_of h) (block_size h) key info (number + 1)
unfolding expand_block
next_block h key info last next have number last_is next_is =
    rw add-one (next_is ∙ ap (λ xs. hmac_of h key (xs ++ info ++ (number + 1) ∷ [])) last_is)

expand_more : (h : Hash) (key info : List ℕ) (n : ℕ) → expand (hash_of h) (block_size h) key info (n + 1) ≡ expand (hash_of h) (block_size h) key info n ++ expand_block (hash_of h) (block_size h) key info (n + 1)
unfolding expand
expand_more h key info n = rw add-one

-- n bytes of a block are written behind the blocks before it
front_more : (before block out next written : List ℕ) (done n end size : ℕ) → done ≡ length before → take done out ≡ take done before → take size next ≡ block → length block ≡ size
    → written ≡ take n next → n ≤ size → done ≤ length out
    → take (done + n) (put_mid done end out written) ≡ take (done + n) (before ++ block)
front_more before block out next written done n end size at_end front next_is block_length written_is in_block within =
    let written_front : written ≡ take n block = written_is ∙ sym (take-take n size next in_block) ∙ ap (take n) next_is in
    let written_length : length written ≡ n = ap length written_front ∙ length-take-le n block (omega arith) in
    take-put_mid done end out written (done + n) (omega arith) within
    ∙ ap (λ xs. xs ++ written) (front ∙ ap (λ i. take i before) at_end ∙ take-length before)
    ∙ ap (λ xs. before ++ xs) written_front
    ∙ sym (take-append-add before block n)
    ∙ ap (λ i. take (i + n) (before ++ block)) (sym at_end)

pub loop-done-init : goal.loop-done-init
unfolding expand_block
loop-done-init c = record { kept = c.new-kept.ensures.of_key; within = omega arith; count = omega arith; few = omega arith; block = refl; front = refl }

pub loop-done-preserved : goal.loop-done-preserved
loop-done-preserved c =
    let h = c.args.h in
    let so_far = c.loop-done.invariant in
    let next_is = c.code_of-next.ensures h c.args.key.now so_far.kept in
    let block = next_block h c.args.key.now c.args.info.now c.loop-done.last (take (digest_size h) c.code_of-next.result) c.loop-done.have c.loop-done.number so_far.block next_is in
    let same_length = same_len_mid c.loop-done.done (c.loop-done.done + c.min-n.result - c.loop-done.done) c.loop-done.out c.copy_from_slice.new.self c.copy_from_slice.ensures.len in
    let at_end : c.loop-done.done ≡ length (expand (hash_of h) (block_size h) c.args.key.now c.args.info.now c.loop-done.number) =
    omega (arith, length-expand h c.args.key.now c.args.info.now c.loop-done.number) in
    let block_length = ap length (sym block) ∙ ap length next_is ∙ length-hmac_of h c.args.key.now _ in
    let in_block : c.min-n.result ≤ digest_size h = omega arith in
    record {
      kept = so_far.kept;
      within = omega arith;
      count = omega (arith, same_length);
      few = omega (arith, same_length);
      block = ap (λ n. take n c.code_of-next.result) c.digest_size-size.ensures.value ∙ block;
      front =
          front_more _ _ c.loop-done.out c.code_of-next.result c.copy_from_slice.new.self c.loop-done.done c.min-n.result _ (digest_size h) at_end so_far.front block block_length c.copy_from_slice.ensures.after in_block (omega arith)
          ∙ ap (take _) (sym (expand_more h c.args.key.now c.args.info.now c.loop-done.number));
    }

pub returns : goal.returns
returns c =
    let h = c.args.h in
    let so_far = c.loop-done.invariant in
    let some : 0 < digest_size h = omega arith in
    let done_all : c.loop-done.done ≡ length c.args.out.now = omega arith in
    let enough : length c.args.out.now ≤ digest_size h * c.loop-done.number = omega arith in
    let just : digest_size h * c.loop-done.number < length c.args.out.now + digest_size h = omega arith in
    let blocks = just_enough_blocks (digest_size h) (length c.args.out.now) c.loop-done.number some enough just in
    sym (take_all c.loop-done.done c.loop-done.out c.loop-done-test.false) ∙ so_far.front
    ∙ ap (λ k. take k (expand (hash_of h) (block_size h) c.args.key.now c.args.info.now c.loop-done.number)) done_all
    ∙ ap (λ k. take (length c.args.out.now) (expand (hash_of h) (block_size h) c.args.key.now c.args.info.now k)) blocks
