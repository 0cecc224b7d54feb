-- Parts of eight planes, each plane by its place.
use Rattle.std.proofs.Common.{◌≡◌, ℕ, ◌/◌, ◌*◌, ◌%◌, ◌^◌, ◌<◌, T, List, [], ◌∷◌, length, map, get_or, bit_and, bit_xor, replicate, refl, sym, ap, ap₂, ◌∙◌, subst, arith, lit<}
use Rattle.std.specs.Int.{bit_at}
use Rattle.std.proofs.lemmas.List.{length-map}
use lib.Lanes.{zip2}
use Rattle.aes_block.specs.BitPlanes.{AreBlocks, IsKey}
use Rattle.aes_block.specs.Transposition.{IsSwap, IsTransposed, IsVector}
use Rattle.aes_block.proofs.Cases.{below_8}
use Rattle.aes_block.proofs.Exchanges.{masks, moves, parts, swap_is}

pub eight_parts : {A : Type 0} (part : A → List ℕ) (q : List A) → length q ≡ 8 → (d0 d1 d2 d3 d4 d5 d6 d7 : A)
    → map part q ≡ part (get_or q 0 d0) ∷ part (get_or q 1 d1) ∷ part (get_or q 2 d2) ∷ part (get_or q 3 d3) ∷ part (get_or q 4 d4) ∷ part (get_or q 5 d5) ∷ part (get_or q 6 d6) ∷ part (get_or q 7 d7) ∷ []
eight_parts part (a ∷ b ∷ c ∷ d ∷ e ∷ f ∷ g ∷ h ∷ []) n d0 d1 d2 d3 d4 d5 d6 d7 = refl
eight_parts part (a ∷ b ∷ c ∷ d ∷ e ∷ f ∷ g ∷ h ∷ i ∷ q) n d0 d1 d2 d3 d4 d5 d6 d7 = absurd (omega (arith, n))
eight_parts part (a ∷ b ∷ c ∷ d ∷ e ∷ f ∷ g ∷ []) n d0 d1 d2 d3 d4 d5 d6 d7 = absurd (omega (arith, n))
eight_parts part (a ∷ b ∷ c ∷ d ∷ e ∷ f ∷ []) n d0 d1 d2 d3 d4 d5 d6 d7 = absurd (omega (arith, n))
eight_parts part (a ∷ b ∷ c ∷ d ∷ e ∷ []) n d0 d1 d2 d3 d4 d5 d6 d7 = absurd (omega (arith, n))
eight_parts part (a ∷ b ∷ c ∷ d ∷ []) n d0 d1 d2 d3 d4 d5 d6 d7 = absurd (omega (arith, n))
eight_parts part (a ∷ b ∷ c ∷ []) n d0 d1 d2 d3 d4 d5 d6 d7 = absurd (omega (arith, n))
eight_parts part (a ∷ b ∷ []) n d0 d1 d2 d3 d4 d5 d6 d7 = absurd (omega (arith, n))
eight_parts part (a ∷ []) n d0 d1 d2 d3 d4 d5 d6 d7 = absurd (omega (arith, n))
eight_parts part [] n d0 d1 d2 d3 d4 d5 d6 d7 = absurd (omega (arith, n))

pub blocks_of_parts : {A : Type 0} (part : A → List ℕ) (q : List A) (b : List (List ℕ)) → AreBlocks b (map part q) → (d0 d1 d2 d3 d4 d5 d6 d7 : A)
    → AreBlocks b (part (get_or q 0 d0) ∷ part (get_or q 1 d1) ∷ part (get_or q 2 d2) ∷ part (get_or q 3 d3) ∷ part (get_or q 4 d4) ∷ part (get_or q 5 d5) ∷ part (get_or q 6 d6) ∷ part (get_or q 7 d7) ∷ [])
blocks_of_parts part q b h d0 d1 d2 d3 d4 d5 d6 d7 = subst (AreBlocks b) (eight_parts part q (sym (length-map q part) ∙ h.planes.count) d0 d1 d2 d3 d4 d5 d6 d7) h

pub key_of_parts : {A : Type 0} (part : A → List ℕ) (q : List A) (key : List ℕ) → IsKey key (map part q) → (d0 d1 d2 d3 d4 d5 d6 d7 : A)
    → IsKey key (part (get_or q 0 d0) ∷ part (get_or q 1 d1) ∷ part (get_or q 2 d2) ∷ part (get_or q 3 d3) ∷ part (get_or q 4 d4) ∷ part (get_or q 5 d5) ∷ part (get_or q 6 d6) ∷ part (get_or q 7 d7) ∷ [])
key_of_parts part q key h d0 d1 d2 d3 d4 d5 d6 d7 = subst (IsKey key) (eight_parts part q (sym (length-map q part) ∙ h.planes.count) d0 d1 d2 d3 d4 d5 d6 d7) h

-- two vectors after an exchange, step by step
swapped : (n mask : ℕ) (a b s x m t u c d : List ℕ) → T (moves n) → T (masks n mask) → mask < 256 → IsVector a → IsVector b
    → s ≡ zip2 (λ x y. x / 2 ^ y) a (replicate 16 n) → x ≡ zip2 bit_xor s b → m ≡ replicate 16 mask → t ≡ zip2 bit_and x m
    → u ≡ zip2 (λ x y. x * 2 ^ y % 256) t (replicate 16 n) → c ≡ zip2 bit_xor a u → d ≡ zip2 bit_xor b t → IsSwap n a b c d
swapped n mask a b s x m t u c d shifts marks few va vb s_is x_is m_is t_is u_is c_is d_is =
    let t_all : t ≡ parts n mask a b = t_is ∙ ap₂ (zip2 bit_and) (x_is ∙ ap (λ z. zip2 bit_xor z b) s_is) m_is in
    let c_all : c ≡ zip2 bit_xor a (zip2 (λ x y. x * 2 ^ y % 256) (parts n mask a b) (replicate 16 n)) = c_is ∙ ap (zip2 bit_xor a) (u_is ∙ ap (λ z. zip2 (λ x y. x * 2 ^ y % 256) z (replicate 16 n)) t_all) in
    let d_all : d ≡ zip2 bit_xor b (parts n mask a b) = d_is ∙ ap (zip2 bit_xor b) t_all in
    subst (λ v. IsSwap n a b v d) (sym c_all) (subst (λ v. IsSwap n a b (zip2 bit_xor a (zip2 (λ x y. x * 2 ^ y % 256) (parts n mask a b) (replicate 16 n))) v) (sym d_all) (swap_is n mask a b shifts marks few va vb))

-- the same of a part of two planes, which are first seen as bytes
pub swapped_parts : {A : Type 0} (part : A → List ℕ) (n mask : ℕ) (a b a_seen b_seen s x m t u c d : A) → T (moves n) → T (masks n mask) → mask < 256
    → a_seen ≡ a → b_seen ≡ b → IsVector (part a) → IsVector (part b)
    → part s ≡ zip2 (λ x y. x / 2 ^ y) (part a_seen) (replicate 16 n) → part x ≡ zip2 bit_xor (part s) (part b_seen) → part m ≡ replicate 16 mask → part t ≡ zip2 bit_and (part x) (part m)
    → part u ≡ zip2 (λ x y. x * 2 ^ y % 256) (part t) (replicate 16 n) → part c ≡ zip2 bit_xor (part a) (part u) → part d ≡ zip2 bit_xor (part b_seen) (part t)
    → IsSwap n (part a) (part b) (part c) (part d)
swapped_parts part n mask a b a_seen b_seen s x m t u c d shifts marks few a_is b_is va vb s_is x_is m_is t_is u_is c_is d_is =
    swapped n mask (part a) (part b) (part s) (part x) (part m) (part t) (part u) (part c) (part d) shifts marks few va vb
    (s_is ∙ ap (λ v. zip2 (λ x y. x / 2 ^ y) (part v) (replicate 16 n)) a_is) (x_is ∙ ap (λ v. zip2 bit_xor (part s) (part v)) b_is) m_is t_is u_is c_is
    (d_is ∙ ap (λ v. zip2 bit_xor (part v) (part t)) b_is)

pub map_itself : {A : Type 0} (xs : List A) → map (λ x. x) xs ≡ xs
map_itself [] = refl
map_itself (x ∷ xs) = ap (λ l. x ∷ l) (map_itself xs)

pub eight_whole : (q : List (List ℕ)) → length q ≡ 8 → (d0 d1 d2 d3 d4 d5 d6 d7 : List ℕ)
    → get_or q 0 d0 ∷ get_or q 1 d1 ∷ get_or q 2 d2 ∷ get_or q 3 d3 ∷ get_or q 4 d4 ∷ get_or q 5 d5 ∷ get_or q 6 d6 ∷ get_or q 7 d7 ∷ [] ≡ q
eight_whole q e d0 d1 d2 d3 d4 d5 d6 d7 = sym (eight_parts (λ x. x) q e d0 d1 d2 d3 d4 d5 d6 d7) ∙ map_itself q

-- a key in the place of each block, and its planes
pub key_transposed : (key : List ℕ) (r : List (List ℕ)) → IsTransposed (key ∷ key ∷ key ∷ key ∷ key ∷ key ∷ key ∷ key ∷ []) r → IsKey key r
key_transposed key r t =
    let each = below_8 (λ i. (j k : ℕ) → j < 8 → k < 16 → bit_at (get_or (get_or r j []) k 0) i ≡ bit_at (get_or key k 0) j)
    (λ j k l m. t.bits j k 0 l m (lit< tt)) (λ j k l m. t.bits j k 1 l m (lit< tt)) (λ j k l m. t.bits j k 2 l m (lit< tt)) (λ j k l m. t.bits j k 3 l m (lit< tt))
    (λ j k l m. t.bits j k 4 l m (lit< tt)) (λ j k l m. t.bits j k 5 l m (lit< tt)) (λ j k l m. t.bits j k 6 l m (lit< tt)) (λ j k l m. t.bits j k 7 l m (lit< tt)) in
    let v = t.from 0 (lit< tt) in
    record {
      size = v.size;
      planes = record {
        below = λ k i l m. v.below k l;
        count = t.count;
        size = λ j l. (t.vectors j l).size;
        bits = λ j k i l m n. each i n j k l m;
      };
    }

-- the planes of blocks of one part, under the trivial part
pub key_of_vectors : (key : List ℕ) (r s : List (List ℕ)) → IsTransposed (key ∷ key ∷ key ∷ key ∷ key ∷ key ∷ key ∷ key ∷ []) (map (λ x. x) r) → s ≡ r → IsKey key s
key_of_vectors key r s t e = subst (IsKey key) (map_itself r ∙ sym e) (key_transposed key (map (λ x. x) r) t)

pub of_vectors : (f : List ℕ → List ℕ) (v r s b : List (List ℕ)) → map (λ x. x) r ≡ map f (map (λ x. x) v) → s ≡ r → v ≡ b → s ≡ map f b
of_vectors f v r s b e same read = same ∙ sym (map_itself r) ∙ e ∙ ap (map f) (map_itself v ∙ read)
