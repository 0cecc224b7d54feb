-- Counter blocks of vectors that are drawn.
use Rattle.std.proofs.Common.{◌≡◌, ◌≤◌, ◌-◌, ℕ, Bool, true, false, List, ◌++◌, length, take, drop, nat_le, replicate, ap, refl, sym, subst, ◌∙◌}
use Rattle.std.specs.Prelude.{Result, Ok, Err, if◌then◌else◌}
use Rattle.std.proofs.lemmas.Bool.{leb-true}
use Rattle.std.proofs.lemmas.List.{drop-replicate, length-take-le}
use Rattle.tink_io.specs.Answering.{takes}
use Rattle.tink_io.specs.declared.error.Kind.{Kind}
use Rattle.tink_io.specs.declared.error.Kind.TheVariants.{RandomFault}
use Rattle.tink_aead_subtle.specs.CounterMode.{counter_block, drawn_block}

-- a value and what is left, or no value where too few are left
abbrev choice : {T : Type 0} → Bool → T → List ℕ → List ℕ → Result T Kind × List ℕ
choice b v rest draws = if b then (Ok v, rest) else (Err RandomFault, draws)

was_whole : (b : Bool) (rest draws : List ℕ) → (choice b (tt {0}) rest draws).0 ≡ Ok (tt {0}) → b ≡ true
was_whole true rest draws e = refl
was_whole false rest draws e = absurd (cc)

-- a vector that was drawn over a prefix of zeros
pub drawn : (n m : ℕ) (draws out rest : List ℕ) → m ≡ n → n ≤ 16 → out ≡ take m draws → ((takes m draws).0 ≡ Ok (tt {0})) × (rest ≡ (takes m draws).1)
    → ((drawn_block n draws).0 ≡ Ok (out ++ drop n (replicate 16 0))) × (rest ≡ (drawn_block n draws).1)
drawn n m draws out rest same fits is told =
    let whole : nat_le m (length draws) ≡ true = was_whole (nat_le m (length draws)) (drop m draws) draws told.0 in
    let enough : nat_le n (length draws) ≡ true = subst (λ k. nat_le k (length draws) ≡ true) same whole in
    let left : rest ≡ drop n draws = told.1 ∙ ap (λ (b : Bool). (choice b (tt {0}) (drop m draws) draws).1) whole ∙ ap (λ k. drop k draws) same in
    let front : out ≡ take n draws = is ∙ ap (λ k. take k draws) same in
    let size : length (take n draws) ≡ n = length-take-le n draws (leb-true n (length draws) enough) in
    let block : counter_block (take n draws) ≡ out ++ drop n (replicate 16 0) =
    ap (λ k. take n draws ++ replicate (16 - k) 0) size ∙ sym (ap (λ f. f ++ drop n (replicate 16 0)) front ∙ ap (λ z. take n draws ++ z) (drop-replicate n 16 0)) in (
      ap (λ (b : Bool). (choice b (counter_block (take n draws)) (drop n draws) draws).0) enough ∙ ap Ok block,
      left ∙ sym (ap (λ (b : Bool). (choice b (counter_block (take n draws)) (drop n draws) draws).1) enough),
    )
