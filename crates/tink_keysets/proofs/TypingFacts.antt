-- Converting the entries of a set, group by group.
use Rattle.std.proofs.Common.{◌≡◌, ◌∙◌, ℕ, List, [], ◌∷◌, Bool, true, false, cond, Option, Some, None, Result, Ok, Err, refl, sym, ap, subst}
use Rattle.std.specs.Prelude.{Vec, filter, find, unwrap_or}
use Rattle.std.specs.Str.{bytes_eq}
use Rattle.std.specs.Cmp.Lexicographic.{bytes_decides}
use Rattle.std.specs.BTreeMap.{BTreeMap}
use Rattle.tink_io.specs.declared.error.Kind.{Kind}
use Rattle.tink_sets.specs.Converting.{before, converted, IsConverted, AreConverted}
use Rattle.tink_sets.specs.Groups.{group_at, group_of}

module _ {E F : Type 0} (f : E → Result F Kind) where
  -- what was converted behind the first
  ok_before : (v : F) (rest : Result (List F) Kind) (ys : List F) → before (Ok v) rest ≡ Ok ys → (vs : List F) × (rest ≡ Ok vs) × (ys ≡ v ∷ vs)
  ok_before v (Ok vs) ys e = let same : ys ≡ v ∷ vs = cc in (vs, refl, same)
  ok_before v (Err k) ys e = absurd (cc)

  refused_rest : (v : F) (rest : Result (List F) Kind) (k : Kind) → before (Ok v) rest ≡ Err k → rest ≡ Err k
  refused_rest v (Ok vs) k e = absurd (cc)
  refused_rest v (Err j) k e = e

  -- what is there is converted
  abbrev pub IsFound : Option E → Option F → Type 0
  IsFound None o = o ≡ None
  IsFound (Some x) o = (y : F) × (f x ≡ Ok y) × (o ≡ Some y)

  -- a test on values that what they are converted to keeps
  module _ (t : E → Bool) (u : F → Bool) (keeps : (x : E) (y : F) → f x ≡ Ok y → t x ≡ u y) where
    kept_one : (b : Bool) (x : E) (v : F) (xs : List E) (vs : List F) → f x ≡ Ok v → converted f xs ≡ Ok vs → converted f (cond b (x ∷ xs) xs) ≡ Ok (cond b (v ∷ vs) vs)
    kept_one true x v xs vs one rest = ap (λ r. before r (converted f xs)) one ∙ ap (before (Ok v)) rest
    kept_one false x v xs vs one rest = rest

    kept_step : (x : E) (xs : List E) (r : Result F Kind) → f x ≡ r → ((ys : List F) → converted f xs ≡ Ok ys → converted f (filter t xs) ≡ Ok (filter u ys)) → (ys : List F) → before r (converted f xs) ≡ Ok ys → converted f (filter t (x ∷ xs)) ≡ Ok (filter u ys)
    kept_step x xs (Err k) is more ys e = absurd (cc)
    kept_step x xs (Ok v) is more ys e =
        let w = ok_before v (converted f xs) ys e in
        kept_one (t x) x v (filter t xs) (filter u w.0) is (more w.0 w.1)
        ∙ ap (λ b. Ok (cond b (v ∷ filter u w.0) (filter u w.0))) (keeps x v is)
        ∙ ap (λ l. Ok (filter u l)) (sym w.2)

    -- what is converted and passes is what passes and is converted
    pub converted-filter : (xs : List E) (ys : List F) → converted f xs ≡ Ok ys → converted f (filter t xs) ≡ Ok (filter u ys)
    converted-filter [] ys e = let same : ys ≡ [] = cc in ap (λ l. Ok (filter u l)) (sym same)
    converted-filter (x ∷ xs) ys e = kept_step x xs (f x) refl (converted-filter xs) ys e

    found_one : (b : Bool) (x : E) (v : F) (o : Option E) (q : Option F) → f x ≡ Ok v → IsFound o q → IsFound (cond b (Some x) o) (cond b (Some v) q)
    found_one true x v o q one rest = (v, one, refl)
    found_one false x v o q one rest = rest

    found_step : (x : E) (xs : List E) (r : Result F Kind) → f x ≡ r → ((ys : List F) → converted f xs ≡ Ok ys → IsFound (find t xs) (find u ys)) → (ys : List F) → before r (converted f xs) ≡ Ok ys → IsFound (find t (x ∷ xs)) (find u ys)
    found_step x xs (Err k) is more ys e = absurd (cc)
    found_step x xs (Ok v) is more ys e =
        let w = ok_before v (converted f xs) ys e in
        let one = found_one (t x) x v (find t xs) (find u w.0) is (more w.0 w.1) in
        let same = ap (λ b. cond b (Some v) (find u w.0)) (keeps x v is) ∙ ap (find u) (sym w.2) in
        subst (IsFound (find t (x ∷ xs))) same one

    pub converted-find : (xs : List E) (ys : List F) → converted f xs ≡ Ok ys → IsFound (find t xs) (find u ys)
    converted-find [] ys e = let same : ys ≡ [] = cc in ap (find u) same
    converted-find (x ∷ xs) ys e = found_step x xs (f x) refl (converted-find xs) ys e

  -- a list that is refused is refused by the entries of some prefix
  module _ (prefix_of : E → List ℕ) where
    abbrev pub of_prefix : List E → List ℕ → List E
    of_prefix xs p = filter (λ x. bytes_eq (prefix_of x) p) xs

    refused_later : (b : Bool) (x : E) (v : F) (xs : List E) (k : Kind) → f x ≡ Ok v → converted f xs ≡ Err k → converted f (cond b (x ∷ xs) xs) ≡ Err k
    refused_later true x v xs k one rest = ap (λ r. before r (converted f xs)) one ∙ ap (before (Ok v)) rest
    refused_later false x v xs k one rest = rest

    refused_step : (x : E) (xs : List E) (r : Result F Kind) (k : Kind) → f x ≡ r → (converted f xs ≡ Err k → (p : List ℕ) × (converted f (of_prefix xs p) ≡ Err k)) → before r (converted f xs) ≡ Err k → (p : List ℕ) × (converted f (of_prefix (x ∷ xs) p) ≡ Err k)
    refused_step x xs (Err j) k is more e =
        let rest = of_prefix xs (prefix_of x) in
        (prefix_of x, ap (λ b. converted f (cond b (x ∷ rest) rest)) ((bytes_decides (prefix_of x) (prefix_of x)).1 refl) ∙ ap (λ r. before r (converted f rest)) is ∙ e)
    refused_step x xs (Ok v) k is more e =
        let w = more (refused_rest v (converted f xs) k e) in
        (w.0, refused_later (bytes_eq (prefix_of x) w.0) x v (of_prefix xs w.0) k is w.1)

    pub refused_under : (xs : List E) (k : Kind) → converted f xs ≡ Err k → (p : List ℕ) × (converted f (of_prefix xs p) ≡ Err k)
    refused_under [] k e = absurd (cc)
    refused_under (x ∷ xs) k e = refused_step x xs (f x) k refl (refused_under xs k) e

  -- only nothing is converted to nothing
  something : (r : Result F Kind) (rest : Result (List F) Kind) → before r rest ≡ Ok [] → ⊥
  something (Err k) rest e = absurd (cc)
  something (Ok v) (Err k) e = absurd (cc)
  something (Ok v) (Ok vs) e = absurd (cc)

  pub converted-nothing : (xs : List E) → converted f xs ≡ Ok [] → xs ≡ []
  converted-nothing [] e = refl
  converted-nothing (x ∷ xs) e = absurd (something (f x) (converted f xs) e)

  pub converted-none : (o : Option (List E)) (q : Option (List F)) → IsConverted f o q → o ≡ None → q ≡ None
  converted-none None None h none = refl
  converted-none None (Some ys) h none = absurd h
  converted-none (Some xs) q h none = absurd (cc)

  -- the lists of a map that is converted
  at_prefix : (o : Option (List E)) (q : Option (List F)) → IsConverted f o q → converted f (unwrap_or o []) ≡ Ok (unwrap_or q [])
  at_prefix None None h = refl
  at_prefix None (Some ys) h = absurd h
  at_prefix (Some xs) None h = absurd h
  at_prefix (Some xs) (Some ys) h = h

  pub group-converted : {A : Type 0} (m : BTreeMap (Vec ℕ A) (List E)) (n : BTreeMap (Vec ℕ A) (List F)) → AreConverted f m n → (p : List ℕ) → converted f (group_of m p) ≡ Ok (group_of n p)
  group-converted m n h p = at_prefix (group_at m p) (group_at n p) (h p)
