-- The last chunk of an object.
use Rattle.std.proofs.Common.{◌≡◌, ◌<◌, ◌≤◌, ◌+◌, ◌-◌, nat_le, ℕ, true, false, List, length, take, drop, replicate, sym, ap, subst, ◌∙◌, arith, Some, None, IfSome, length-drop}
use Rattle.std.specs.declared.option.Option.{Option}
use Rattle.std.proofs.lemmas.Bool.{le-leb}
use Rattle.std.proofs.lemmas.List.{drop-drop, length-replicate, take_all}
use Rattle.stream_model.specs.Cut.{last_chunk}
use Rattle.tink_io.specs.declared.error.Kind.{Kind}
use Rattle.tink_io.specs.declared.error.TinkError.{TinkError}
use Rattle.tink_range.specs.ChunkReading.{ChunkAt, OpensAt}
use Rattle.tink_range.specs.Giving.{Cutting, chunks_in}
use Rattle.tink_range.specs.RangeReading.{LastRefused, RefusesLast}
use Rattle.tink_range.specs.Ranges.{LastAgrees, chunk_count}
use Rattle.tink_range.specs.Shapes.{IsLast}

module _ (c : Cutting) (behind number start room : ℕ) (inside : start < behind) (fits : behind ≤ start + room) (last : (X : List ℕ) → length X ≡ behind → IsLast c.first c.size X number start) where
  abbrev chunk : ChunkAt
  chunk = record { number = number; start = c.front + start; rest = behind - start; room = room }

  mark : nat_le (behind - start) room ≡ true
  mark = le-leb (behind - start) room (omega arith)

  module _ (S : List ℕ) (long : length S ≡ c.front + behind) where
    abbrev X : List ℕ
    X = drop c.front S

    is : IsLast c.first c.size X number start
    is = last X (omega (arith, length-drop c.front S))

    whole : take room (drop (c.front + start) S) ≡ last_chunk (chunks_in c S)
    whole = take_all room (drop (c.front + start) S) (omega (arith, length-drop (c.front + start) S)) ∙ sym (drop-drop start c.front S) ∙ sym is.last_is

    number_is : length (chunks_in c S) - 1 ≡ number
    number_is = omega (arith, is.chunks)

    length_last : length (last_chunk (chunks_in c S)) ≡ behind - start
    length_last = ap length is.last_is ∙ omega (arith, length-drop start X, length-drop c.front S)

    agrees : (t : List ℕ) → c.seg number (nat_le (behind - start) room) t ≡ take room (drop (c.front + start) S) → LastAgrees c.seg (chunks_in c S)
    agrees t opens = (t, ap (λ n. c.seg n true t) number_is ∙ ap (λ m. c.seg number m t) (sym mark) ∙ opens ∙ whole)

    disagrees : ((t : List ℕ) → c.seg number (nat_le (behind - start) room) t ≡ take room (drop (c.front + start) S) → ⊥) → (t : List ℕ) → c.seg number true t ≡ last_chunk (chunks_in c S) → ⊥
    disagrees none t e = none t (ap (λ m. c.seg number m t) mark ∙ e ∙ sym whole)

  pub told_agrees : (all : Option (List ℕ)) (t : List ℕ) → IfSome all (λ S. length S ≡ c.front + behind) → OpensAt c.seg chunk all true t → IfSome all (λ S. LastAgrees c.seg (chunks_in c S))
  told_agrees None t long opens = tt
  told_agrees (Some S) t long opens = agrees S long t opens

  pub told_refused : (all : Option (List ℕ)) (t : List ℕ) (P : ℕ → Type 0) → P (behind - start) → IfSome all (λ S. length S ≡ c.front + behind) → OpensAt c.seg chunk all false t → RefusesLast c behind all number P
  told_refused all t P size long opens = record { number = count; none = by_none all long opens; size = by_size all long }
    where
      count : number + 1 ≡ chunk_count c.first c.size behind
      count = sym (last (replicate behind 0) (length-replicate {A = ℕ} behind 0)).chunks

      by_none : (o : Option (List ℕ)) → IfSome o (λ S. length S ≡ c.front + behind) → OpensAt c.seg chunk o false t → IfSome o (λ S. (t : List ℕ) → c.seg number true t ≡ last_chunk (chunks_in c S) → ⊥)
      by_none None l h = tt
      by_none (Some S) l h = disagrees S l h

      by_size : (o : Option (List ℕ)) → IfSome o (λ S. length S ≡ c.front + behind) → IfSome o (λ S. P (length (last_chunk (chunks_in c S))))
      by_size None l = tt
      by_size (Some S) l = subst P (sym (length_last S l)) size

-- a refusal by this kind
pub last_refusal : (c : Cutting) (behind : ℕ) (all : Option (List ℕ)) (before after : ℕ) (error : TinkError) (kind : Kind) → error ≡ record { kind = kind } → LastRefused c behind all before after kind → LastRefused c behind all before after error.kind
last_refusal c behind all before after error kind is r = subst (λ (x : TinkError). LastRefused c behind all before after x.kind) (sym is) r
