-- Opening at the head of held bytes, said of all bytes that are held or left.
use Rattle.std.proofs.Common.{◌≡◌, ◌⊎◌, inl, inr, ◌≤◌, ◌<◌, ◌+◌, ◌-◌, ◌^◌, ℕ, zero, suc, Bool, true, false, List, [], ◌∷◌, ◌++◌, length, take, drop, Some, None, IfSome, ap, sym, ◌∙◌, arith, length-append}
use Rattle.std.proofs.lemmas.List.{append-nil, length-take, take-append-le, drop-append-le, take_all}
use Rattle.std.proofs.lemmas.Bool.{le-leb, lt-leb}
use Rattle.std.proofs.Math.ListN.{drop_of_length-le}
use Rattle.std.specs.Prelude.{nat_le, min, max}
use Rattle.std.specs.declared.option.Option.{Option}
use Rattle.std.specs.Io.KnownBytes.{IsAtEnd, prepend_known}
use Rattle.std.proofs.KnownBytes.{prepend_known-end, Keeps-refl}
use Rattle.stream_model.specs.Cut.{cut, room_at}
use Rattle.stream_model.specs.Agree.{Agree}
use Rattle.stream_model.proofs.CutFacts.{cut_none, room_at_next}
use Rattle.stream_model.proofs.AgreeFacts.{Agree-empty, Agree-used_up, Agree-none_last, Agree-none_more, Leads-last, Leads-more}
use Rattle.tink_streaming_segment.specs.Opening.{HeadOpensTo, HoldsChunk}
use Rattle.tink_streaming_segment.proofs.HeadFacts.{fits_or_not}
use Rattle.tink_io.specs.declared.error.Cause.{Cause}
use Rattle.tink_streaming_io.specs.Reading.{TellsLeads}
use Rattle.tink_streaming_io.specs.declared.progress.Progress.TheVariants.{Running, Ended, Failed}

-- what is held is all where nothing is left
all_held : (H X Y : List ℕ) → H ++ Y ≡ X → Y ≡ [] → X ≡ H
all_held H X Y p e = sym p ∙ ap (λ y. H ++ y) e ∙ append-nil H

-- the segment of a chunk that nothing follows, and of one that is followed
opens_last : (seg : ℕ → Bool → List ℕ → List ℕ) (i size : ℕ) (H t : List ℕ) → length H ≤ size → seg i (nat_le (length H) size) t ≡ take size H → seg i true t ≡ H
opens_last seg i size H t fits o = ap (λ m. seg i m t) (sym (le-leb (length H) size fits)) ∙ o ∙ take_all size H fits

opens_more : (seg : ℕ → Bool → List ℕ → List ℕ) (i size : ℕ) (H t : List ℕ) → size < length H → seg i (nat_le (length H) size) t ≡ take size H → seg i false t ≡ take size H
opens_more seg i size H t more o = ap (λ m. seg i m t) (sym (lt-leb (length H) size more)) ∙ o

is_opened_last : (seg : ℕ → Bool → List ℕ → List ℕ) (i size : ℕ) (H t : List ℕ) → 0 < length H → length H ≤ size → seg i true t ≡ H → HeadOpensTo seg i size H t
is_opened_last seg i size H t some fits o = record { some = some; segment = ap (λ m. seg i m t) (le-leb (length H) size fits) ∙ o ∙ sym (take_all size H fits) }

is_opened_more : (seg : ℕ → Bool → List ℕ → List ℕ) (i size : ℕ) (H t : List ℕ) → 0 < length H → size < length H → seg i false t ≡ take size H → HeadOpensTo seg i size H t
is_opened_more seg i size H t some more o = record { some = some; segment = ap (λ m. seg i m t) (lt-leb (length H) size more) ∙ o }

-- the text of a segment leads to what is behind its chunk
pub opened_front : (seg : ℕ → Bool → List ℕ → List ℕ) (a b i : ℕ) (r0 r1 : Option (List ℕ)) (H t : List ℕ) → i < 2 ^ 32 → 0 < room_at a b i → 0 < b → HoldsChunk (room_at a b i) r0 H r1 → HeadOpensTo seg i (room_at a b i) H t
    → TellsLeads seg a b i r0 (t ∷ []) (prepend_known (drop (room_at a b i) H) r1)
opened_front seg a b i None r1 H t few p q h o = tt
opened_front seg a b i (Some X) None H t few p q h o = absurd h.all
opened_front seg a b i (Some X) (Some Y) H t few p q h o =
    let size : ℕ = room_at a b i in
    elim (fits_or_not (length H) size) [
      | inl fits ↦
          let whole : X ≡ H = all_held H X Y h.all (h.end fits) in
          let none : drop size H ++ Y ≡ [] = ap (λ x. x ++ Y) (drop_of_length-le H {i = size} fits) ∙ h.end fits in
          rw (whole, none, room_at_next a b i) (Leads-last seg i size b H t few o.some fits (opens_last seg i size H t fits o.segment))
      | inr more ↦
          let front : take size X ≡ take size H = ap (take size) (sym h.all) ∙ take-append-le size H Y (omega arith) in
          let back : drop size X ≡ drop size H ++ Y = ap (drop size) (sym h.all) ∙ drop-append-le size H Y (omega arith) in
          rw (sym back, room_at_next a b i) (Leads-more seg i size b X t few p q (omega (arith, ap length h.all, length-append H Y)) (opens_more seg i size H t more o.segment ∙ sym front))
    ]

-- where it is the segment of no text, nothing comes
pub refused_front : (seg : ℕ → Bool → List ℕ → List ℕ) (a b i : ℕ) (r0 r1 : Option (List ℕ)) (H : List ℕ) → 0 < room_at a b i → 0 < b → HoldsChunk (room_at a b i) r0 H r1 → ((t : List ℕ) → HeadOpensTo seg i (room_at a b i) H t → ⊥)
    → IfSome r0 (λ X. Agree seg i (cut (room_at a b i) b X) [])
refused_front seg a b i None r1 H p q h none = tt
refused_front seg a b i (Some X) None H p q h none = absurd h.all
refused_front seg a b i (Some X) (Some Y) [] p q h none =
    let nothing : X ≡ [] = all_held [] X Y h.all (h.end (omega arith)) in
    rw (nothing, cut_none (room_at a b i) b) (Agree-empty seg i)
refused_front seg a b i (Some X) (Some Y) (x ∷ H) p q h none =
    let size : ℕ = room_at a b i in
    let some : 0 < length (x ∷ H) = omega arith in
    elim (fits_or_not (length (x ∷ H)) size) [
      | inl fits ↦
          let whole : X ≡ x ∷ H = all_held (x ∷ H) X Y h.all (h.end fits) in
          rw whole (Agree-none_last seg i size b (x ∷ H) some fits (λ t e. none t (is_opened_last seg i size (x ∷ H) t some fits e)))
      | inr more ↦
          let front : take size X ≡ take size (x ∷ H) = ap (take size) (sym h.all) ∙ take-append-le size (x ∷ H) Y (omega arith) in
          Agree-none_more seg i size b X p q (omega (arith, ap length h.all, length-append (x ∷ H) Y)) (λ t e. none t (is_opened_more seg i size (x ∷ H) t some more (e ∙ front)))
    ]

-- the numbers are used up
pub none_numbered : (seg : ℕ → Bool → List ℕ → List ℕ) (a b i : ℕ) (r0 : Option (List ℕ)) → 2 ^ 32 ≤ i → IfSome r0 (λ X. Agree seg i (cut (room_at a b i) b X) [])
none_numbered seg a b i None h = tt
none_numbered seg a b i (Some X) h = Agree-used_up seg i (cut (room_at a b i) b X) h

pub some_left : (size : ℕ) (r0 r1 : Option (List ℕ)) (H : List ℕ) → HoldsChunk size r0 H r1 → 0 < length H → IfSome r0 (λ X. 0 < length X)
some_left size None r1 H h some = tt
some_left size (Some X) None H h some = absurd h.all
some_left size (Some X) (Some Y) H h some = omega (arith, ap length h.all, length-append H Y)

-- the next chunk is the prefix of what is held
next_chunk : (size : ℕ) (H X Y : List ℕ) → HoldsChunk size (Some X) H (Some Y) → take size X ≡ take size H
next_chunk size H X Y h = elim (fits_or_not (length H) size) [
  | inl fits ↦ ap (take size) (all_held H X Y h.all (h.end fits))
  | inr more ↦ ap (take size) (sym h.all) ∙ take-append-le size H Y (omega arith)
]

-- fewer bytes than the overhead are held, or none
pub short_front : (overhead size i : ℕ) (r0 r1 : Option (List ℕ)) (H : List ℕ) → HoldsChunk size r0 H r1 → length H < max overhead 1 → (0 < i → 0 < length H)
    → IfSome r0 (λ X. ((length (take size X) < overhead) ⊎ (X ≡ [])) × (0 < i → 0 < length X))
short_front overhead size i None r1 H h few some = tt
short_front overhead size i (Some X) None H h few some = absurd h.all
short_front overhead size i (Some X) (Some Y) [] h few some = (inr (all_held [] X Y h.all (h.end (omega arith))), λ later. let none : 0 < 0 = some later in absurd (omega arith))
short_front overhead size i (Some X) (Some Y) (x ∷ H) h few some =
    (inl (omega (arith, ap length (next_chunk size (x ∷ H) X Y h), length-take size (x ∷ H))), λ later. omega (arith, ap length h.all, length-append (x ∷ H) Y))

-- no fewer are held
pub long_front : (overhead size : ℕ) (r0 r1 : Option (List ℕ)) (H : List ℕ) → HoldsChunk size r0 H r1 → overhead ≤ size → overhead ≤ length H → IfSome r0 (λ X. overhead ≤ length (take size X))
long_front overhead size None r1 H h fits many = tt
long_front overhead size (Some X) None H h fits many = absurd h.all
long_front overhead size (Some X) (Some Y) H h fits many = omega (arith, ap length (next_chunk size H X Y h), length-take size H)

-- and some are
pub some_front : (size : ℕ) (r0 r1 : Option (List ℕ)) (H : List ℕ) → HoldsChunk size r0 H r1 → 0 < size → 0 < length H → IfSome r0 (λ X. 0 < length (take size X))
some_front size None r1 H h fits some = tt
some_front size (Some X) None H h fits some = absurd h.all
some_front size (Some X) (Some Y) H h fits some = omega (arith, ap length (next_chunk size H X Y h), length-take size H)

-- the least and the most of the first and each later size
pub size_least : (a b i : ℕ) → a ≤ b → a ≤ room_at a b i
size_least a b zero p = omega arith
size_least a b (suc i) p = p

pub size_most : (a b i : ℕ) → a ≤ b → room_at a b i ≤ b
size_most a b zero p = p
size_most a b (suc i) p = omega arith

-- what stays held of n bytes, where a chunk or all of them are gone
pub stays : (n m size : ℕ) (items : List ℕ) → n ≤ length items → m ≡ min n size → drop size (take n items) ≡ drop m (take n items)
stays n m size items there e = elim (fits_or_not n size) [
  | inl fits ↦ drop_of_length-le (take n items) {i = size} (omega (arith, length-take n items)) ∙ sym (drop_of_length-le (take n items) {i = m} (omega (arith, length-take n items)))
  | inr more ↦ let same : size ≡ m = omega arith in ap (λ k. drop k (take n items)) same
]

-- nothing stays held, and nothing is left
pub ended : (n m size : ℕ) (r0 r1 : Option (List ℕ)) (items xs : List ℕ) → HoldsChunk size r0 (take n items) r1 → m ≡ min n size → n - m ≡ 0 → IsAtEnd (prepend_known (take (n - m) xs) r1)
ended n m size r0 r1 items xs h e none =
    prepend_known-end _ r1 (take (n - m) xs) (Keeps-refl _) (ap (λ k. take k xs) none) (h.end (omega (arith, length-take n items)))

-- what was read is in the buffer
pub held_in : (filled before size room most len was : ℕ) → filled ≤ max before (size + 1) → before ≤ was → size ≡ room → room ≤ most → most < was → len ≡ was → filled ≤ len
held_in filled before size room most len was count fits same least more kept = omega arith

pub less_in : (a b c : ℕ) → a < b → c ≡ b → a < c
less_in a b c less same = omega arith

pub within_in : (a b c : ℕ) → a ≤ b → c ≡ b → a ≤ c
within_in a b c within same = omega arith

pub fits_in : (a b c : ℕ) → a ≤ b → c ≡ a → c ≤ b
fits_in a b c fits same = omega arith

pub less_within : (n m len more : ℕ) → n ≤ len → more ≡ len → n - m ≤ more
less_within n m len more within same = omega arith

pub one_some : (n : ℕ) → 0 < n + 1
one_some n = omega arith

-- an empty text is small
pub none_small : (len : ℕ) (xs : List ℕ) → len ≡ length xs → xs ≡ [] → len < 2 ^ 32
none_small len xs is none = omega (arith, ap length none)

-- a reader that has failed neither runs nor has ended
pub failed_runs_not : (c : Cause) → Failed c ≡ Running → ⊥
failed_runs_not c is = cc

pub failed_ends_not : (c : Cause) → Failed c ≡ Ended → ⊥
failed_ends_not c is = cc

pub within_small : (a b : ℕ) → a ≤ b → b < 2 ^ 32 → a < 2 ^ 32
within_small a b within small = omega arith

-- some byte has room, and the overhead has
pub within_size : (over a b i : ℕ) → over < a → a ≤ b → over ≤ room_at a b i
within_size over a b i some fits = omega (arith, size_least a b i fits)

pub some_size : (over a b i : ℕ) → over < a → a ≤ b → 0 < room_at a b i
some_size over a b i some fits = omega (arith, size_least a b i fits)

pub some_most : (over a b : ℕ) → over < a → a ≤ b → 0 < b
some_most over a b some fits = omega arith

-- as many bytes as are filled are fewer than this, or no fewer
-- no more than a chunk is held
pub short_of : (filled size room : ℕ) → filled < size + 1 → size ≡ room → filled ≤ room
short_of filled size room short is = omega arith

pub short_held : (len filled most m : ℕ) → len ≡ filled → filled < most → most ≡ m → len < m
short_held len filled most m same short is = omega arith

pub many_held : (len filled most over : ℕ) → len ≡ filled → most ≤ filled → most ≡ max over 1 → over ≤ len
many_held len filled most over same many is = omega arith

pub some_held : (len filled most over : ℕ) → len ≡ filled → most ≤ filled → most ≡ max over 1 → 0 < len
some_held len filled most over same many is = omega arith

pub still_some : (was now len : ℕ) → 0 < was → was ≤ now → len ≡ now → 0 < len
still_some was now len some more same = omega arith

-- the number behind the last one
pub at_last : (i : ℕ) → i ≡ 2 ^ 32 → 2 ^ 32 ≤ i
at_last i is = omega arith

pub some_last : (i : ℕ) → i ≡ 2 ^ 32 → 0 < i
some_last i is = omega arith
