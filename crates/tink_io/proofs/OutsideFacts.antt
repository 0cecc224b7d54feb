-- What follows from known bytes that were read and written.
use Rattle.std.proofs.Common.{◌≡◌, ℕ, List, [], ◌∷◌, ◌++◌, refl, sym, ap, ◌∙◌, Some, None}
use Rattle.std.specs.declared.option.Option.{Option}
use Rattle.std.specs.Prelude.{IfSome}
use Rattle.std.specs.Io.KnownBytes.{Appends, Consumes, IsAtEnd}

-- what was appended to known bytes
pub told_appended : (a b : Option (List ℕ)) (G bs : List ℕ) → a ≡ Some G → Appends a b bs → b ≡ Some (G ++ bs)
told_appended None b G bs e h = absurd (cc)
told_appended (Some xs) None G bs e h = absurd h
told_appended (Some xs) (Some ys) G bs e h = let same : xs ≡ G = cc in ap Some (h ∙ ap (λ x. x ++ bs) same)

-- what was read of known bytes, and what is left
pub told_consumed : (a b : Option (List ℕ)) (T R : List ℕ) → a ≡ Some T → Consumes a b R → (rest : List ℕ) × (b ≡ Some rest) × (T ≡ R ++ rest)
told_consumed None b T R e h = absurd (cc)
told_consumed (Some xs) None T R e h = absurd h
told_consumed (Some xs) (Some ys) T R e h = let same : xs ≡ T = cc in (ys, refl, sym same ∙ h)

told_end : (b : Option (List ℕ)) (rest : List ℕ) → b ≡ Some rest → IsAtEnd b → rest ≡ []
told_end None rest e h = absurd (cc)
told_end (Some xs) rest e h = let same : xs ≡ rest = cc in sym same ∙ h

-- all was read
pub told_whole : (a b : Option (List ℕ)) (T R : List ℕ) → a ≡ Some T → Consumes a b R → IsAtEnd b → (T ≡ R) × (b ≡ Some [])
told_whole a b T R e h end =
    let c = told_consumed a b T R e h in
    let none = told_end b c.0 c.1 end in
    (c.2 ∙ ap (λ x. R ++ x) none ∙ append_none R, c.1 ∙ ap Some none)
  where
    append_none : (xs : List ℕ) → xs ++ [] ≡ xs
    append_none [] = refl
    append_none (x ∷ xs) = ap (λ ys. x ∷ ys) (append_none xs)

pub told_if : (P : List ℕ → Type 0) (a : Option (List ℕ)) (S : List ℕ) → a ≡ Some S → IfSome a P → P S
told_if P a S e h = rw e at h

-- a given end can't come to tell nothing
pub told_left : (b : Option (List ℕ)) → (S : List ℕ) → b ≡ Some S → IsAtEnd b → b ≡ Some []
told_left b S e h = e ∙ ap Some (told_end b S e h)
