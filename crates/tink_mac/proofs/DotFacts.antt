-- Where the dot of a token stands: no spelling has one.
use Rattle.std.proofs.Common.{◌≡◌, ◌∙◌, ◌+◌, ◌-◌, ◌*◌, ◌/◌, ◌%◌, ◌<◌, ◌++◌, ℕ, zero, suc, List, [], ◌∷◌, Bool, true, false, not, ◌&&◌, cond, Some, None, length, take, drop, get_or, slice_index, nat_eq, position, refl, sym, ap, arith, append-nil, append_assoc}
use Rattle.std.specs.List.{list_all, position_or_len, prefix_len}
use Rattle.std.proofs.lemmas.Bool.Decides.{Decides-eqb, Decides-ltb}
use Rattle.std.proofs.lemmas.List.{drop_at, drop_more, length-append, take-append-drop, take_at, take_rest}
use Rattle.std.proofs.lemmas.List.Quantifiers.{position-Some}
use Rattle.base64.specs.Rfc4648.{encode_symbols}
use Rattle.base64.specs.Engines.{url_safe_no_pad}
use Rattle.base64.specs.GeneralPurpose.{engine_symbols}
use Rattle.tink_mac.specs.Reading.{IsSplit}
use Rattle.tink_mac.specs.Tokens.{dot, spelled, token_of}

abbrev is_dot : ℕ → Bool
is_dot c = nat_eq c dot

abbrev is_other : ℕ → Bool
is_other c = not (is_dot c)

both : (a b : Bool) → a && b ≡ true → (a ≡ true) × (b ≡ true)
both true b e = (refl, e)
both false b e = absurd (cc)

-- ---- the first dot behind others

stops : (xs ys : List ℕ) → list_all is_other xs ≡ true → prefix_len is_other (xs ++ dot ∷ ys) ≡ length xs
stops [] ys all = refl
stops (x ∷ xs) ys all =
    let w = both (is_other x) (list_all is_other xs) all in
    let later = stops xs ys w.1 in
    rw (w.0, later) (omega arith)

position_behind : (xs ys : List ℕ) → list_all is_other xs ≡ true → position is_dot (xs ++ dot ∷ ys) ≡ Some (length xs)
position_behind xs ys all =
    let at : position_or_len is_dot (xs ++ dot ∷ ys) ≡ length xs = stops xs ys all in
    let inside : length xs < length (xs ++ dot ∷ ys) = rw (length-append xs (dot ∷ ys)) (omega arith) in
    rw at (ap (λ b. cond b (Some (length xs)) None) ((Decides-ltb (length xs) (length (xs ++ dot ∷ ys))).1 inside))

-- ---- spellings

of_all : (xs : List ℕ) (i : ℕ) → list_all is_other xs ≡ true → is_other (slice_index xs i) ≡ true
of_all [] i all = refl
of_all (x ∷ xs) zero all = (both (is_other x) (list_all is_other xs) all).0
of_all (x ∷ xs) (suc i) all = of_all xs i (both (is_other x) (list_all is_other xs) all).1

abbrev alphabet : List ℕ
alphabet = engine_symbols url_safe_no_pad

symbol : (i : ℕ) → is_other (slice_index alphabet i) ≡ true
symbol i = of_all alphabet i refl

symbols : (m : List ℕ) → list_all is_other (encode_symbols alphabet m) ≡ true
unfolding encode_symbols
symbols [] = refl
symbols (a ∷ []) = rw (symbol (a / 4), symbol (a % 4 * 16)) refl
symbols (a ∷ b ∷ []) = rw (symbol (a / 4), symbol (a % 4 * 16 + b / 16), symbol (b % 16 * 4)) refl
symbols (a ∷ b ∷ c ∷ rest) =
    rw (symbol (a / 4), symbol (a % 4 * 16 + b / 16), symbol (b % 16 * 4 + c / 64), symbol (c % 64)) (symbols rest)

no_dots : (m : List ℕ) → list_all is_other (spelled m) ≡ true
no_dots m = ap (list_all is_other) (append-nil (encode_symbols alphabet m)) ∙ symbols m

-- ---- tokens

of_token : (token p m : List ℕ) → token ≡ token_of p m → position is_dot token ≡ Some (length (spelled p))
of_token token p m is = ap (position is_dot) is ∙ position_behind (spelled p) (spelled m) (no_dots p)

-- a text without a dot is no token
pub not_split : (token : List ℕ) → position is_dot token ≡ None → (p m : List ℕ) → token ≡ token_of p m → ⊥
not_split token none p m is = let two = sym none ∙ of_token token p m is in absurd (cc)

behind : (xs ys : List ℕ) (i : ℕ) → length xs ≡ i → drop (i + 1) (xs ++ dot ∷ ys) ≡ ys
behind xs ys i is =
    let front : length (xs ++ dot ∷ []) ≡ i + 1 = rw (length-append xs (dot ∷ [])) (omega (arith, is)) in
    ap (drop (i + 1)) (sym (append_assoc xs (dot ∷ []) ys)) ∙ drop_at (xs ++ dot ∷ []) ys (i + 1) front

some_same : (i j : ℕ) → Some i ≡ Some j → i ≡ j
some_same i j e = cc

-- the two sides of the first dot
pub is_split : (token : List ℕ) (i : ℕ) → position is_dot token ≡ Some i
    → IsSplit token (take i token) (take (length token - (i + 1)) (drop (i + 1) token))
is_split token i at =
    let there = position-Some is_dot token i 0 at in
    let found : get_or token i 0 ≡ dot = (Decides-eqb (get_or token i 0) dot).0 there.1 in
    let rest = take_rest token (i + 1) in
    let back : drop i token ≡ dot ∷ drop (i + 1) token =
    drop_more token i 0 there.0 ∙ ap (λ c. c ∷ drop (i + 1) token) found in
    record {
      whole = sym (take-append-drop i token) ∙ ap (λ l. take i token ++ l) (back ∙ ap (λ l. dot ∷ l) (sym rest));
      alone = λ p m is.
          let same : i ≡ length (spelled p) = some_same i (length (spelled p)) (sym at ∙ of_token token p m is) in (
            ap (take i) is ∙ take_at (spelled p) (dot ∷ spelled m) i (sym same),
            rest ∙ ap (drop (i + 1)) is ∙ behind (spelled p) (spelled m) i (sym same),
          );
    }
