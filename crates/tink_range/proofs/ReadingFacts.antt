-- Bytes of an object that are read piece by piece.
use Rattle.std.proofs.Common.{◌≡◌, ◌⊎◌, inl, inr, ◌≤◌, ◌<◌, ◌+◌, min, nat_le, ℕ, zero, suc, Bool, true, false, List, ◌++◌, length, take, drop, Some, None, IfSome, ap, refl, sym, ◌∙◌, subst, arith, length-drop}
use Rattle.std.proofs.Math.Seq.{take-add}
use Rattle.std.proofs.lemmas.List.{drop-drop, length-take, take-append-le, take_all}
use Rattle.std.proofs.Math.Seq.{take-append-add}
use borrow.Rule.Slice.PartMut.{put_mid}
use Rattle.std.specs.declared.option.Option.{Option}
use Rattle.tink_range.specs.ChunkReading.{OpensAt, ChunkOpensTo}

-- the bytes of a buffer up to n are those of an object from a place on
abbrev pub AreRead : ℕ → ℕ → List ℕ → List ℕ → Type 0
AreRead n at buf S = take n buf ≡ take n (drop at S)

-- the prefix of a buffer after a read into its middle
front_read : (n k m : ℕ) (xs ys : List ℕ) → n ≤ length xs → m ≤ length ys → take (n + m) (put_mid n k xs ys) ≡ take n xs ++ take m ys
front_read n k m xs ys h e =
    let l : length (take n xs) ≡ n = omega (arith, length-take n xs) in
    ap (λ i. take (i + m) (put_mid n k xs ys)) (sym l) ∙ take-append-add (take n xs) (ys ++ drop k (drop n xs)) m ∙ ap (λ x. take n xs ++ x) (take-append-le m ys (drop k (drop n xs)) e)

-- more was read
read_on : (n k m at : ℕ) (buf piece S : List ℕ) → n ≤ length buf → m ≤ length piece → AreRead n at buf S → take m piece ≡ take m (drop (at + n) S)
    → AreRead (n + m) at (put_mid n k buf piece) S
read_on n k m at buf piece S h e before now =
    front_read n k m buf piece h e ∙ ap (λ x. x ++ take m piece) before ∙ ap (λ x. take n (drop at S) ++ x) (now ∙ ap (take m) (sym (drop-drop n at S)))
    ∙ sym (take-add n m (drop at S))

pub told_read_on : (old now : Option (List ℕ)) (n k m at : ℕ) (buf piece : List ℕ) → now ≡ old → n ≤ length buf → m ≤ length piece → IfSome old (AreRead n at buf)
    → IfSome now (λ S. take m piece ≡ take m (drop (at + n) S)) → IfSome old (AreRead (n + m) at (put_mid n k buf piece))
told_read_on old now n k m at buf piece same h e before given = by old before (subst (λ (o : Option (List ℕ)). IfSome o (λ S. take m piece ≡ take m (drop (at + n) S))) same given)
  where
    by : (o : Option (List ℕ)) → IfSome o (AreRead n at buf) → IfSome o (λ S. take m piece ≡ take m (drop (at + n) S)) → IfSome o (AreRead (n + m) at (put_mid n k buf piece))
    by None p q = tt
    by (Some S) p q = read_on n k m at buf piece S h e p q

-- a fact of known bytes from another
pub told_weaker : (o : Option (List ℕ)) (P Q : List ℕ → Type 0) → ((S : List ℕ) → P S → Q S) → IfSome o P → IfSome o Q
told_weaker None P Q f p = tt
told_weaker (Some S) P Q f p = f S p

-- what was read of a chunk was opened, or is the segment of no text
pub opened_as : (all : Option (List ℕ)) (seg : ℕ → Bool → List ℕ → List ℕ) (number : ℕ) (last : Bool) (chunk : List ℕ) (of : List ℕ → List ℕ) (ok : Bool) (text : List ℕ)
    → IfSome all (λ S. chunk ≡ of S) → (ok ≡ true → seg number last text ≡ chunk) → (ok ≡ false → (t : List ℕ) → seg number last t ≡ chunk → ⊥)
    → IfSome all (λ S. ChunkOpensTo seg number last (of S) ok text)
opened_as None seg number last chunk of ok text read opens none = tt
opened_as (Some S) seg number last chunk of true text read opens none = opens refl ∙ read
opened_as (Some S) seg number last chunk of false text read opens none = λ t e. none refl t (e ∙ sym read)

fits_or_not : (m n : ℕ) → (m ≤ n) ⊎ (n < m)
fits_or_not zero n = inl (omega arith)
fits_or_not (suc m) zero = inr (omega arith)
fits_or_not (suc m) (suc n) = elim (fits_or_not m n) [ inl h ↦ inl (omega arith) | inr h ↦ inr (omega arith) ]

-- the chunk that was read is the one at that place
pub opened_at : (all : Option (List ℕ)) (seg : ℕ → Bool → List ℕ → List ℕ) (number at rest room size len n total : ℕ) (ok : Bool) (text : List ℕ)
    → size ≡ room → len ≡ min rest size → n ≡ len → at + rest ≡ total → IfSome all (λ S. length S ≡ total)
    → IfSome all (λ S. ChunkOpensTo seg number (nat_le rest size) (take n (drop at S)) ok text)
    → OpensAt seg (record { number = number; start = at; rest = rest; room = room }) all ok text
opened_at None seg number at rest room size len n total ok text e l m sum long opens = tt
opened_at (Some S) seg number at rest room size len n total ok text e l m sum long opens =
    let count : n ≡ min rest room = omega arith in
    let same : take n (drop at S) ≡ take room (drop at S) = ap (λ k. take k (drop at S)) count ∙ take_least rest room (drop at S) (omega (arith, length-drop at S)) in
    subst (λ (c : List ℕ). ChunkOpensTo seg number (nat_le rest room) c ok text) same
    (subst (λ (k : ℕ). ChunkOpensTo seg number (nat_le rest k) (take n (drop at S)) ok text) e opens)
  where
    take_least : (rest room : ℕ) (X : List ℕ) → length X ≡ rest → take (min rest room) X ≡ take room X
    take_least rest room X long = elim (fits_or_not rest room) [
      | inl fits ↦ take_all (min rest room) X (omega arith) ∙ sym (take_all room X (omega arith))
      | inr more ↦ let least : min rest room ≡ room = omega arith in ap (λ k. take k X) least
    ]

-- as many bytes are read as are asked for
pub chunk_length : (len rest size most sealed : ℕ) (held : List ℕ) → len ≡ min rest size → size ≤ most → most ≤ sealed → length held ≡ sealed → length (take len held) ≡ len
chunk_length len rest size most sealed held l a b e = omega (arith, length-take len held)

pub whole_chunk : (text n len rest size room : ℕ) → text ≡ n → n ≡ len → len ≡ min rest size → size ≡ room → text ≡ min rest room
whole_chunk text n len rest size room a b c d = omega arith
