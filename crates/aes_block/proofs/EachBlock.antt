-- A map on each of some blocks.
use Rattle.std.proofs.Common.{◌≡◌, ◌<◌, ℕ, suc, List, [], ◌∷◌, ◌++◌, map, take, length, get_or, set, arith, refl, ap, ◌∙◌, subst}

-- two maps that agree at each block
pub map_same : (f g : List ℕ → List ℕ) → ((v : List ℕ) → f v ≡ g v) → (b : List (List ℕ)) → map f b ≡ map g b
map_same f g h [] = refl
map_same f g h (v ∷ b) = ap (λ w. w ∷ map f b) (h v) ∙ ap (λ ws. g v ∷ ws) (map_same f g h b)

-- two maps that agree at those blocks
pub map_same_at : (f g : List ℕ → List ℕ) (b : List (List ℕ)) → ((i : ℕ) → i < length b → f (get_or b i []) ≡ g (get_or b i [])) → map f b ≡ map g b
map_same_at f g [] h = refl
map_same_at f g (v ∷ b) h = ap (λ w. w ∷ map f b) (h 0 (omega arith)) ∙ ap (λ ws. g v ∷ ws) (map_same_at f g b (λ i l. h (suc i) (omega (arith, l))))

-- the front of what a map makes of a front and more
pub take-map_front : (f : List ℕ → List ℕ) (xs ys : List (List ℕ)) (n : ℕ) → length xs ≡ n → take n (map f (xs ++ ys)) ≡ map f xs
take-map_front f [] ys n e = subst (λ m. take m (map f ys) ≡ []) e refl
take-map_front f (x ∷ xs) ys n e = subst (λ m. take m (f x ∷ map f (xs ++ ys)) ≡ f x ∷ map f xs) e (ap (λ l. f x ∷ l) (take-map_front f xs ys (length xs) refl))

-- one block alone
pub map_one : (f : List ℕ → List ℕ) (xs ys : List (List ℕ)) (v : List ℕ) → length xs ≡ 1 → length ys ≡ 1 → v ≡ f (get_or xs 0 []) → set ys 0 v ≡ map f xs
map_one f (x ∷ []) (y ∷ []) v p q e = ap (λ w. w ∷ []) e
map_one f (x ∷ []) (y ∷ z ∷ ys) v p q e = absurd (omega (arith, q))
map_one f (x ∷ []) [] v p q e = absurd (omega (arith, q))
map_one f (w ∷ x ∷ xs) ys v p q e = absurd (omega (arith, p))
map_one f [] ys v p q e = absurd (omega (arith, p))
