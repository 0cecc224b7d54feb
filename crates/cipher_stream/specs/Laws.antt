-- Laws of stream ciphers, over what their calls tell.
use Rattle.std.specs.Prelude.{◌≡◌, ℕ, ◌+◌, List, Some, length, drop}
use Rattle.cipher_stream.specs.Keystream.{xored}
use Rattle.cipher_stream.specs.ByteStream.{ByteStream, to_come, position, IsSame, HasMoved}

-- what an accepted application does: bytes xs become ys
pub record Applies (s : ByteStream) (xs ys : List ℕ) (t : ByteStream) : Type 0 where
  pub value : ys ≡ xored (to_come s) xs
  pub moved : HasMoved s (length xs) t

-- what an accepted seek does: the position is p
pub record Seeks (s : ByteStream) (p : ℕ) (t : ByteStream) : Type 0 where
  pub placed : position t ≡ Some p
  pub same : IsSame s t
  pub ahead : (j : ℕ) → to_come t j ≡ s.byte_at (p + j)

-- applying twice from one position is the identity
abbrev pub ApplyingTwice : Type 0
ApplyingTwice =
    (s s1 s2 s3 s4 : ByteStream) (p : ℕ) (xs ys zs : List ℕ)
    → Seeks s p s1 → Applies s1 xs ys s2 → Seeks s2 p s3 → Applies s3 ys zs s4 → zs ≡ xs

-- from a position on, one gets what a run from 0 gives there
abbrev pub SeekingInto : Type 0
SeekingInto =
    (s s1 s2 s3 s4 : ByteStream) (p : ℕ) (xs ys zs : List ℕ)
    → Seeks s 0 s1 → Applies s1 xs ys s2 → Seeks s2 p s3 → Applies s3 (drop p xs) zs s4 → zs ≡ drop p ys
