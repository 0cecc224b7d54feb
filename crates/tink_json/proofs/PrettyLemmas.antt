-- A pretty text is read as its tokens, and is UTF-8 where theirs are.
use Rattle.std.proofs.Common.{◌≡◌, inl, inr, ℕ, zero, suc, ◌*◌, List, [], ◌∷◌, ◌++◌, map, Bool, true, false, ◌&&◌, replicate, refl, sym, ap, ◌∙◌, subst, append_assoc}
use Rattle.std.specs.List.{list_all}
use Rattle.std.specs.Str.{IsUtf8}
use Rattle.std.proofs.lemmas.Str.{IsUtf8-append, IsUtf8-nil}
use Rattle.json.specs.Lex.{tokens}
use Rattle.json.specs.Layout.{Last, nothing, bracket, name, value, is_value, line, gap, depth_at, after, step, piece, pretty, pretty_from}
use Rattle.json.specs.Print.{token_text, separator, ends, begins, IsPrintable, ArePrintable}
use Rattle.json.specs.Spaced.{IsGap, AreGaps, print_spaced}
use Rattle.json.specs.Token.{Token, begin_object, end_object, begin_array, end_array, key, string, number, boolean, null, bad}
use Rattle.json.proofs.Printed.Tokens.{tokens-print_spaced}
use Rattle.json.proofs.Printed.Utf8.{IsUtf8-separator, IsUtf8-IsGap}
use Rattle.tink_json.specs.Whole.{is_whole_token}

-- each token with what stands before it, after its comma
abbrev spaced : Last × ℕ → List Token → List (List ℕ × Token)
spaced s [] = []
spaced s (t ∷ ts) = (gap s.0 (begins t) (depth_at s.1 t), t) ∷ spaced (step s t) ts

spaced-tokens : (s : Last × ℕ) (ts : List Token) → map (λ p. p.1) (spaced s ts) ≡ ts
spaced-tokens s [] = refl
spaced-tokens s (t ∷ ts) = ap (λ us. t ∷ us) (spaced-tokens (step s t) ts)

spaces : (n : ℕ) → IsGap (replicate n 32)
spaces zero = tt
spaces (suc n) = (inl refl, spaces n)

gap-is : (l : Last) (opens : Bool) (depth : ℕ) → IsGap (gap l opens depth)
gap-is nothing opens depth = tt
gap-is bracket true depth = (inr refl, spaces (2 * depth))
gap-is bracket false depth = tt
gap-is name opens depth = (inl refl, tt)
gap-is value opens depth = (inr refl, spaces (2 * depth))

spaced-gaps : (s : Last × ℕ) (ts : List Token) → AreGaps (spaced s ts)
spaced-gaps s [] = tt
spaced-gaps s (t ∷ ts) = (gap-is s.0 (begins t) (depth_at s.1 t), spaced-gaps (step s t) ts)

ends-after : (t : Token) (depth : ℕ) → is_value (after t depth).0 ≡ ends t
ends-after begin_object depth = refl
ends-after end_object depth = refl
ends-after begin_array depth = refl
ends-after end_array depth = refl
ends-after (key s) depth = refl
ends-after (string s) depth = refl
ends-after (number s) depth = refl
ends-after (boolean b) depth = refl
ends-after null depth = refl
ends-after bad depth = refl

pretty_from-spaced : (s : Last × ℕ) (ts : List Token) → pretty_from s ts ≡ print_spaced (is_value s.0) (spaced s ts)
unfolding pretty_from print_spaced
pretty_from-spaced s [] = refl
pretty_from-spaced s (t ∷ ts) =
    let g = gap s.0 (begins t) (depth_at s.1 t) in
    let rest = pretty_from (step s t) ts in
    let later : rest ≡ print_spaced (ends t) (spaced (step s t) ts) =
    pretty_from-spaced (step s t) ts ∙ ap (λ b. print_spaced b (spaced (step s t) ts)) (ends-after t (depth_at s.1 t)) in
    append_assoc (separator (is_value s.0) t) (g ++ token_text t) rest
    ∙ ap (λ l. separator (is_value s.0) t ++ l) (append_assoc g (token_text t) rest ∙ ap (λ l. g ++ (token_text t ++ l)) later)

pub tokens-pretty : (ts : List Token) → ArePrintable ts → tokens (pretty ts) ≡ ts
tokens-pretty ts printable =
    let s : Last × ℕ = (nothing, 0) in
    ap tokens (pretty_from-spaced s ts)
    ∙ tokens-print_spaced (spaced s ts) (spaced-gaps s ts) (subst ArePrintable (sym (spaced-tokens s ts)) printable)
    ∙ spaced-tokens s ts

-- a token that is written, with a text in UTF-8 and a whole number
pub record IsSound (t : Token) : Type 0 where
  pub printable : IsPrintable t
  pub whole : is_whole_token t ≡ true
  pub utf8 : IsUtf8 (token_text t)

unfoldable pub AreSound : List Token → Type 0
AreSound [] = Unit {0}
AreSound (t ∷ ts) = IsSound t × AreSound ts

pub AreSound-append : (ts us : List Token) → AreSound ts → AreSound us → AreSound (ts ++ us)
unfolding AreSound
AreSound-append [] us h k = k
AreSound-append (t ∷ ts) us h k = (h.0, AreSound-append ts us h.1 k)

pub sound-printable : (ts : List Token) → AreSound ts → ArePrintable ts
unfolding ArePrintable AreSound
sound-printable [] h = tt
sound-printable (t ∷ ts) h = (h.0.printable, sound-printable ts h.1)

pub sound-whole : (ts : List Token) → AreSound ts → list_all is_whole_token ts ≡ true
unfolding AreSound
sound-whole [] h = refl
sound-whole (t ∷ ts) h = rw h.0.whole (sound-whole ts h.1)

sound-utf8_from : (s : Last × ℕ) (ts : List Token) → AreSound ts → IsUtf8 (pretty_from s ts)
unfolding pretty_from AreSound
sound-utf8_from s [] h = IsUtf8-nil
sound-utf8_from s (t ∷ ts) h =
    IsUtf8-append _ _
    (IsUtf8-append _ _ (IsUtf8-separator (is_value s.0) t)
    (IsUtf8-append _ _ (IsUtf8-IsGap _ (gap-is s.0 (begins t) (depth_at s.1 t))) h.0.utf8))
    (sound-utf8_from (step s t) ts h.1)

pub sound-utf8 : (ts : List Token) → AreSound ts → IsUtf8 (pretty ts)
sound-utf8 ts h = sound-utf8_from (nothing, 0) ts h
