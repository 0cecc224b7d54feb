use Rattle.std.proofs.Common.{◌≡◌, ◌<◌, ◌≤◌, ◌+◌, ◌*◌, ◌-◌, min, length, take}
use Rattle.standards.specs.Hkdf.{expand, expand_block}
use Rattle.hash_keys.specs.Hash.{hash_of, block_size, digest_size}
use Rattle.hash_keys.specs.Hashers.{IsHmacKey}
use Rattle.hash_keys.proofs.expand_into.Given as goal

-- a prefix of T (1) ++ .. ++ T (number) is written, and T (number) is at hand
abbrev pub invariant-loop-done : goal.invariant-loop-done
invariant-loop-done l = record {
  kept : IsHmacKey l.kept l.fn.h l.key;
  within : l.have ≤ 64;
  count : l.done ≡ min (digest_size l.fn.h * l.number) (length l.out);
  few : digest_size l.fn.h * l.number < length l.out + digest_size l.fn.h;
  block : take l.have l.last ≡ expand_block (hash_of l.fn.h) (block_size l.fn.h) l.key l.info l.number;
  front : take l.done l.out ≡ take l.done (expand (hash_of l.fn.h) (block_size l.fn.h) l.key l.info l.number);
}

abbrev pub decreases-loop-done : goal.decreases-loop-done
decreases-loop-done l = length l.out - l.done
