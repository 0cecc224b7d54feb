-- What ranges give, chunk by chunk.
use Rattle.std.proofs.Common.{◌≡◌, ◌<◌, ◌≤◌, ◌+◌, ◌-◌, ◌*◌, max, min, ℕ, zero, suc, Bool, false, List, [], ◌∷◌, ◌++◌, length, take, drop, refl, sym, ap, subst, ◌∙◌, arith, add-zero, append_assoc, length-drop}
use Rattle.std.proofs.lemmas.Bool.Decides.{nat_tests}
use Rattle.std.proofs.lemmas.List.{length-take-le, drop-drop}
use Rattle.stream_model.specs.Cut.{cut, room_at}
use Rattle.stream_model.specs.Agree.{is_last}
use Rattle.stream_model.proofs.CutFacts.{cut_more}
use Rattle.tink_range.specs.Ranges.{Gives, GivesOne, all_places, is_touched, places}
use Rattle.tink_range.specs.Shapes.{start_at}

-- the parts of equal size begin at multiples of it
start_at_same : (b n : ℕ) → start_at b b n ≡ n * b
start_at_same b zero = omega arith
start_at_same b (suc n) = omega arith

room_at_same : (b n : ℕ) → room_at b b n ≡ b
room_at_same b zero = refl
room_at_same b (suc n) = refl

untouched : (lo hi at n : ℕ) → min hi (at + n) ≤ max lo at → is_touched lo hi at n ≡ false
untouched lo hi at n h = grind (arith, nat_tests)

module _ (seg : ℕ → Bool → List ℕ → List ℕ) (over lo hi : ℕ) where
  -- more than some chunks
  pub Gives-trans : (i at : ℕ) (cs : List (List ℕ)) (n : ℕ) (xs : List ℕ) (mid : ℕ) (ms : List (List ℕ)) (m : ℕ) (ys : List ℕ) (end : ℕ) (rest : List (List ℕ))
      → Gives seg over lo hi i at cs n xs mid ms → Gives seg over lo hi (i + n) mid ms m ys end rest → Gives seg over lo hi i at cs (n + m) (xs ++ ys) end rest
  Gives-trans i at cs zero xs mid ms m ys end rest p q =
      subst (λ (k : ℕ). Gives seg over lo hi i at cs k (xs ++ ys) end rest) (omega arith)
      (subst (λ (zs : List ℕ). Gives seg over lo hi i at cs m (zs ++ ys) end rest) (sym p.0)
      (subst (λ (ks : List (List ℕ)). Gives seg over lo hi i at ks m ys end rest) p.2
      (subst (λ (k : ℕ). Gives seg over lo hi i k ms m ys end rest) p.1
      (subst (λ (k : ℕ). Gives seg over lo hi k mid ms m ys end rest) (add-zero i) q))))
  Gives-trans i at [] (suc n) xs mid ms m ys end rest p q = absurd p
  Gives-trans i at (c ∷ cs) (suc n) xs mid ms m ys end rest p q =
      let number : i + suc n ≡ (i + 1) + n = omega arith in
      let count : suc (n + m) ≡ suc n + m = omega arith in
      let tail = Gives-trans (i + 1) (at + places over c) cs n p.1 mid ms m ys end rest p.4 (subst (λ (k : ℕ). Gives seg over lo hi k mid ms m ys end rest) number q) in
      subst (λ (k : ℕ). Gives seg over lo hi i at (c ∷ cs) k (xs ++ ys) end rest) count
      (p.0, p.1 ++ ys, ap (λ zs. zs ++ ys) p.2 ∙ append_assoc p.0 p.1 ys, p.3, tail)

  -- as many chunks as are behind and before
  pub gives_length : (i at : ℕ) (cs : List (List ℕ)) (n : ℕ) (xs : List ℕ) (end : ℕ) (rest : List (List ℕ)) → Gives seg over lo hi i at cs n xs end rest → length cs ≡ n + length rest
  gives_length i at cs zero xs end rest p = omega (arith, ap length p.2)
  gives_length i at [] (suc n) xs end rest p = absurd p
  gives_length i at (c ∷ cs) (suc n) xs end rest p = omega (arith, gives_length (i + 1) (at + places over c) cs n p.1 end rest p.4)

  -- no chunk is touched from the range's end on, or where the range is empty
  pub none_touched : (i at : ℕ) (cs : List (List ℕ)) → hi ≤ max lo at → Gives seg over lo hi i at cs (length cs) [] (at + all_places over cs) []
  none_touched i at [] past = (refl, omega arith, refl)
  none_touched i at (c ∷ cs) past =
      let not : is_touched lo hi at (places over c) ≡ false = untouched lo hi at (places over c) (omega arith) in
      let rest = none_touched (i + 1) (at + places over c) cs (omega arith) in
      let end : (at + places over c) + all_places over cs ≡ at + (places over c + all_places over cs) = omega arith in (
        [],
        [],
        refl,
        subst (λ (b : Bool). GivesOne seg lo hi b i (is_last cs) at c []) (sym not) refl,
        subst (λ (e : ℕ). Gives seg over lo hi (i + 1) (at + places over c) cs (length cs) [] e []) end rest,
      )

  -- the chunks before the range
  pub skipped : (i at a b : ℕ) (X : List ℕ) (n : ℕ) → over < a → over < b → start_at a b n < length X → at + start_at (a - over) (b - over) n ≤ lo
      → Gives seg over lo hi i at (cut a b X) n [] (at + start_at (a - over) (b - over) n) (cut (room_at a b n) b (drop (start_at a b n) X))
  skipped i at a b X zero p q more before = (refl, add-zero at, refl)
  skipped i at a b X (suc n) p q more before =
      let long : a < length X = omega arith in
      let split = cut_more a b X long (omega arith) (omega arith) in
      let own : places over (take a X) ≡ a - over = ap (λ k. k - over) (length-take-le a X (omega arith)) in
      let start : start_at b b n ≡ n * b = start_at_same b n in
      let text : start_at (b - over) (b - over) n ≡ n * (b - over) = start_at_same (b - over) n in
      let not : is_touched lo hi at (places over (take a X)) ≡ false = untouched lo hi at (places over (take a X)) (omega (arith, own)) in
      let rest = skipped (i + 1) (at + places over (take a X)) b b (drop a X) n q q (omega (arith, length-drop a X, start)) (omega (arith, own, text)) in
      let end : (at + places over (take a X)) + start_at (b - over) (b - over) n ≡ at + ((a - over) + n * (b - over)) = omega (arith, own, text) in
      let tail : cut (room_at b b n) b (drop (start_at b b n) (drop a X)) ≡ cut b b (drop (a + n * b) X) =
      ap (λ k. cut k b (drop (start_at b b n) (drop a X))) (room_at_same b n) ∙ ap (λ k. cut b b (drop k (drop a X))) start ∙ ap (cut b b) (drop-drop (n * b) a X) in
      subst (λ (cs : List (List ℕ)). Gives seg over lo hi i at cs (suc n) [] (at + ((a - over) + n * (b - over))) (cut b b (drop (a + n * b) X))) (sym split) (
        [],
        [],
        refl,
        subst (λ (v : Bool). GivesOne seg lo hi v i (is_last (cut b b (drop a X))) at (take a X) []) (sym not) refl,
        subst (λ (e : ℕ). Gives seg over lo hi (i + 1) (at + places over (take a X)) (cut b b (drop a X)) n [] e (cut b b (drop (a + n * b) X))) end
            (subst (λ (cs : List (List ℕ)). Gives seg over lo hi (i + 1) (at + places over (take a X)) (cut b b (drop a X)) n [] ((at + places over (take a X)) + start_at (b - over) (b - over) n) cs) tail rest),
      )
