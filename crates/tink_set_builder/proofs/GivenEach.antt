-- What is given of each of a list, one by one.
use Rattle.std.proofs.Common.{◌≡◌, ℕ, suc, ◌+◌, ◌<◌, ◌++◌, ◌∷◌, ◌∙◌, [], List, Ok, Err, Result, length, drop, get_or, refl, sym, ap, append_assoc, add-one, drop-cons}
use Rattle.tink_io.specs.declared.error.Kind.{Kind}
use Rattle.tink_set_builder.specs.Given.{before, given_each}

-- values before those that follow, or the first refusal
abbrev pub behind : {T : Type 0} → List T → Result (List T) Kind → Result (List T) Kind
behind front (Ok vs) = Ok (front ++ vs)
behind front (Err kind) = Err kind

pub none_yet : {T : Type 0} (rest : Result (List T) Kind) → rest ≡ behind [] rest
none_yet (Ok vs) = refl
none_yet (Err kind) = refl

-- one value more
pub behind_more : {T : Type 0} (front : List T) (v : T) (rest : Result (List T) Kind) → behind front (before (Ok v) rest) ≡ behind (front ++ v ∷ []) rest
behind_more front v (Ok vs) = ap Ok (sym (append_assoc front (v ∷ []) vs))
behind_more front v (Err kind) = refl

here : {S T : Type 0} (give : S → Result T Kind) (xs : List S) (i : ℕ) (x : S) → i < length xs → x ≡ get_or xs i x → given_each give (drop i xs) ≡ before (give x) (given_each give (drop (i + 1) xs))
here give xs i x within is = rw (add-one) (ap (given_each give) (drop-cons xs i x within) ∙ ap (λ y. before (give y) (given_each give (drop (suc i) xs))) (sym is))

pub one_more : {S T : Type 0} (give : S → Result T Kind) (xs : List S) (i : ℕ) (x : S) (front : List T) (v : T) → i < length xs → x ≡ get_or xs i x → give x ≡ Ok v
    → behind front (given_each give (drop i xs)) ≡ behind (front ++ v ∷ []) (given_each give (drop (i + 1) xs))
one_more give xs i x front v within is given =
    ap (behind front) (here give xs i x within is ∙ ap (λ r. before r (given_each give (drop (i + 1) xs))) given) ∙ behind_more front v (given_each give (drop (i + 1) xs))

pub none_more : {S T : Type 0} (give : S → Result T Kind) (xs : List S) (i : ℕ) (x : S) (front : List T) (kind : Kind) → i < length xs → x ≡ get_or xs i x → give x ≡ Err kind
    → behind front (given_each give (drop i xs)) ≡ Err kind
none_more give xs i x front kind within is given = ap (behind front) (here give xs i x within is ∙ ap (λ r. before r (given_each give (drop (i + 1) xs))) given)
