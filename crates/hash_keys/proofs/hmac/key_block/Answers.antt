use Rattle.std.proofs.Common.{◌≡◌, ◌≤◌, ◌<◌, ◌+◌, ◌-◌, ◌∙◌, ap, sym, ℕ, List, ◌++◌, length, take, drop, replicate, arith}
use Rattle.std.proofs.lemmas.Bool.{le-ltb, lt-ltb}
use Rattle.std.proofs.lemmas.List.{drop-replicate, take-replicate}
use Rattle.std.proofs.Math.Seq.{take-append-add}
use Rattle.standards.specs.Hmac.{block_key}
use Rattle.hash_keys.specs.Hash.{hash_of, block_size, digest_size}
use Rattle.hash_keys.specs.declared.Hash.{Hash}
use Rattle.hash_keys.proofs.Lengths.{length-hash_of}
use Rattle.hash_keys.proofs.hmac.key_block.Goals as goal

-- a key of at most a block, with zeros after it up to the block
filled : (size room n : ℕ) (front key : List ℕ) → front ≡ key → n ≡ length key → n ≤ size → size ≤ room
    → take size (front ++ drop n (replicate room 0)) ≡ key ++ replicate (size - length key) 0
filled size room n front key same n_is within fits =
    let whole : size ≡ length key + (size - length key) = omega arith in
    let left : size - length key ≤ room - length key = omega arith in
    rw (same, n_is, drop-replicate)
    (ap (λ i. take i (key ++ replicate (room - length key) 0)) whole
    ∙ take-append-add key (replicate (room - length key) 0) (size - length key)
    ∙ ap (λ zeros. key ++ zeros) (take-replicate (size - length key) (room - length key) 0 left))

-- a key longer than a block is hashed first
hashed : (h : Hash) (size : ℕ) (key digest front : List ℕ) → block_size h < length key → size ≡ digest_size h → size ≤ block_size h → block_size h ≤ 128
    → front ≡ take size digest → take (digest_size h) digest ≡ hash_of h key
    → take (block_size h) (front ++ drop size (replicate 128 0)) ≡ block_key (hash_of h) (block_size h) key
hashed h size key digest front long size_is in_block in_room front_is digest_is =
    let whole : front ≡ hash_of h key = front_is ∙ ap (λ n. take n digest) size_is ∙ digest_is in
    rw (lt-ltb (block_size h) (length key) long)
    (filled (block_size h) 128 size front (hash_of h key) whole (size_is ∙ sym (length-hash_of h key)) in_block in_room)

pub returns-then-key-block_size : goal.returns-then-key-block_size
returns-then-key-block_size c =
    let long : block_size c.args.h < length c.args.key.now = omega arith in
    let in_block : c.digest_size-size.result ≤ block_size c.args.h = omega arith in
    let in_room : block_size c.args.h ≤ 128 = omega arith in
    hashed c.args.h c.digest_size-size.result c.args.key.now c.digest_of-digest.result c.copy_from_slice.new.self
    long c.digest_size-size.ensures.value in_block in_room c.copy_from_slice.ensures.after c.digest_of-digest.ensures

short : (h : Hash) (key front : List ℕ) → length key ≤ block_size h → block_size h ≤ 128 → front ≡ key
    → take (block_size h) (front ++ drop (length key) (replicate 128 0)) ≡ block_key (hash_of h) (block_size h) key
short h key front in_block in_room same =
    rw (le-ltb (block_size h) (length key) in_block)
    (let whole : length key ≡ length key = omega arith in filled (block_size h) 128 (length key) front key same whole in_block in_room)

pub returns-else-key-block_size : goal.returns-else-key-block_size
returns-else-key-block_size c =
    let in_block : length c.args.key.now ≤ block_size c.args.h = omega arith in
    let in_room : block_size c.args.h ≤ 128 = omega arith in
    short c.args.h c.args.key.now c.copy_from_slice-else-key-block_size.new.self in_block in_room c.copy_from_slice-else-key-block_size.ensures.after
