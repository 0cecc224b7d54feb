-- The largest segment of some keys, key by key.
use Rattle.std.proofs.Common.{◌≡◌, ◌≤◌, ◌<◌, ◌+◌, ℕ, List, [], ◌∷◌, ◌++◌, length, map, take, max, All, get_or, refl, sym, ap, subst, ◌∙◌, arith}
use Rattle.std.proofs.lemmas.List.{map_more}
use Rattle.std.proofs.lemmas.List.Elements.{All-append, All-cons, All-nil}
use Rattle.std.proofs.lemmas.List.Recursion.{max_push}
use Rattle.stream_model.specs.Key.{IsUsable, StreamKey}
use Rattle.tink_streaming_aead.specs.DecryptReaders.{largest}

-- this is a byte more than the most that one of these keys has, and each is usable
pub record IsMost (keys : List StreamKey) (n : ℕ) : Type 0 where
  pub value : n ≡ largest keys + 1
  pub usable : All IsUsable keys

pub none_most : IsMost [] 1
none_most = record { value = refl; usable = All-nil IsUsable }

-- one key more
one_most : (keys : List StreamKey) (k : StreamKey) (n : ℕ) → IsMost keys n → IsUsable k → IsMost (keys ++ k ∷ []) (max n (length k.out + k.segment + 1))
one_most keys k n m u = record {
  value = let most : largest (keys ++ k ∷ []) ≡ max (largest keys) (length k.out + k.segment) = max_push largest (λ (j : StreamKey). length j.out + j.segment) refl (λ j js. refl) keys k in omega (arith, m.value, most);
  usable = All-append IsUsable keys (k ∷ []) m.usable (All-cons IsUsable k [] u (All-nil IsUsable));
}

-- one turn of the loop
pub next_most : {X : Type 0} (f : X → StreamKey) (xs : List X) (i : ℕ) (x : X) (n m : ℕ) → i < length xs → x ≡ get_or xs i x → IsMost (map f (take i xs)) n → IsUsable (f x) → m ≡ max n (length (f x).out + (f x).segment + 1) → IsMost (map f (take (i + 1) xs)) m
next_most f xs i x n m h is most u e =
    let front = map f (take i xs) in
    let more : map f (take (i + 1) xs) ≡ front ++ f x ∷ [] = map_more f xs i x h ∙ ap (λ y. front ++ f y ∷ []) (sym is) in
    subst (λ ks. IsMost ks m) (sym more) (subst (IsMost (front ++ f x ∷ [])) (sym e) (one_most front (f x) n most u))

-- no key has more
pub all_within : {X : Type 0} (f : X → StreamKey) (xs : List X) (n : ℕ) → largest (map f xs) + 1 ≤ n → All (λ x. length (f x).out + (f x).segment < n) xs
all_within f [] n h = All-nil (λ x. length (f x).out + (f x).segment < n)
all_within f (x ∷ xs) n h = All-cons (λ y. length (f y).out + (f y).segment < n) x xs (omega (arith, h)) (all_within f xs n (omega (arith, h)))
