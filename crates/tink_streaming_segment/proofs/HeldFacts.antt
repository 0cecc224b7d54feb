-- Bytes that are held and bytes that are left.
use Rattle.std.proofs.Common.{◌≡◌, ◌≤◌, ◌<◌, ◌+◌, ◌-◌, ℕ, List, [], ◌++◌, length, take, drop, Some, None, ap, sym, ◌∙◌, arith, append_assoc, length-append}
use Rattle.std.proofs.lemmas.List.{length-take, take-append-le}
use Rattle.std.proofs.Math.Seq.{take-append-add}
use lib.Seq.{take-append_seam}
use borrow.Rule.Slice.PartMut.{put_mid}
use Rattle.std.specs.declared.option.Option.{Option}
use Rattle.std.specs.Prelude.{Result, Ok, Err, OnOk}
use Rattle.std.specs.Io.KnownBytes.{Keeps, Consumes, IsAtEnd, prepend_known}
use Rattle.std.proofs.KnownBytes.{Consumes-nil, Consumes-trans}
use Rattle.tink_io.specs.Taken.{LosesAtMost}
use Rattle.tink_io.specs.declared.outside.Failed.{Failed}
use Rattle.tink_streaming_segment.specs.Opening.{HoldsOrFails}

-- what was read is held
pub held_more : (a b c : Option (List ℕ)) (xs ys : List ℕ) → Keeps a (prepend_known xs b) → Consumes b c ys → Keeps a (prepend_known (xs ++ ys) c)
held_more None b c xs ys p q = tt
held_more (Some x) None c xs ys p q = absurd p
held_more (Some x) (Some y) None xs ys p q = absurd q
held_more (Some x) (Some y) (Some z) xs ys p q = append_assoc xs ys z ∙ ap (λ l. xs ++ l) (sym q) ∙ p

-- what is held stays held where nothing was read
pub held_still : (a b c : Option (List ℕ)) (xs : List ℕ) → Keeps a (prepend_known xs b) → Keeps b c → Keeps a (prepend_known xs c)
held_still None b c xs p q = tt
held_still (Some x) None c xs p q = absurd p
held_still (Some x) (Some y) None xs p q = absurd q
held_still (Some x) (Some y) (Some z) xs p q = ap (λ l. xs ++ l) q ∙ p

-- the prefix of a buffer after a read into its middle
pub front_read : (n k m : ℕ) (xs ys : List ℕ) → n ≤ length xs → m ≤ length ys → take (n + m) (put_mid n k xs ys) ≡ take n xs ++ take m ys
front_read n k m xs ys h e =
    let l : length (take n xs) ≡ n = omega (arith, length-take n xs) in
    ap (λ i. take (i + m) (put_mid n k xs ys)) (sym l) ∙ take-append-add (take n xs) (ys ++ drop k (drop n xs)) m ∙ ap (λ x. take n xs ++ x) (take-append-le m ys (drop k (drop n xs)) e)

-- where nothing was read, the prefix stays
pub front_still : (n k : ℕ) (xs ys : List ℕ) → n ≤ length xs → take n (put_mid n k xs ys) ≡ take n xs
front_still n k xs ys h =
    let l : length (take n xs) ≡ n = omega (arith, length-take n xs) in
    ap (λ i. take i (put_mid n k xs ys)) (sym l) ∙ take-append_seam (take n xs) (ys ++ drop k (drop n xs))

-- nothing was lost
pub kept_consumes : (a b : Option (List ℕ)) → Keeps a b → Consumes a b []
kept_consumes None b p = tt
kept_consumes (Some x) None p = absurd p
kept_consumes (Some x) (Some y) p = sym p

-- nothing was read
pub loses_none : (n : ℕ) (a : Option (List ℕ)) → LosesAtMost n a a
loses_none n a = ([], omega arith, Consumes-nil a)

-- by the bytes that are held in place of their number
pub loses_by_held : (size n : ℕ) (items : List ℕ) (a b : Option (List ℕ)) → n ≤ length items → LosesAtMost (size - n) a b → LosesAtMost (size - length (take n items)) a b
loses_by_held size n items a b there lost = (lost.0, omega (arith, there, lost.1, length-take n items), lost.2)

-- more was lost
pub loses_more : (m k n : ℕ) (a b c : Option (List ℕ)) (front : List ℕ) → LosesAtMost m a b → Consumes b c front → length front ≤ k → m + k ≤ n → LosesAtMost n a c
loses_more m k n a b c front lost more few room = (lost.0 ++ front, omega (arith, lost.1, length-append lost.0 front), Consumes-trans a b c lost.0 front lost.2 more)

-- more than a chunk is held, or nothing is left, unless the source failed
pub holds_or_fails : (size n : ℕ) (all left : Option (List ℕ)) (items : List ℕ) (r : Result (Unit {0}) Failed) → n ≤ length items → Keeps all (prepend_known (take n items) left)
    → OnOk r (n < size + 1 → IsAtEnd left) → HoldsOrFails size all (take n items) left r
holds_or_fails size n all left items (Ok v) there kept end = record { all = kept; end = λ few. end (omega (arith, few, there, length-take n items)) }
holds_or_fails size n all left items (Err e) there kept end = kept
