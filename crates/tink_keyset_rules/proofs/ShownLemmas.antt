-- What is printed of a keyset.
use Rattle.std.proofs.Common.{◌≡◌, ℕ, ◌+◌, ◌<◌, List, [], ◌∷◌, ◌++◌, map, flat_map, take, length, get_or, true, Some, refl, sym, ap, ◌∙◌}
use Rattle.std.proofs.Output.{has_written_append, has_written_of_eq}
use Rattle.std.proofs.lemmas.List.{flat_map_more, take_more}
use Rattle.std.specs.Char.{is_ascii}
use Rattle.std.specs.Fmt.{DisplaysOnOk, HasWritten, debug_str}
use Rattle.std.specs.List.{list_all}
use Rattle.std.specs.Prelude.{Result}
use Rattle.std.specs.declared.fmt.Error.{Error}
use Rattle.std.specs.declared.fmt.Formatter.{Formatter}
use Rattle.keyset_model.specs.Secrets.{key_info}
use Rattle.tink_keyset_rules.specs.ShownTexts.{further_text, key_text, keys_text, url_text}
use Rattle.tink_proto.specs.declared.messages.keys.Key.{Key}

-- a URL in quotes
pub quoted_url : {W : Type 0} (took : W → List ℕ → W → Type 0) (f g : Formatter W) (r : Result (Unit {0}) Error) (url : List ℕ)
    → list_all is_ascii url ≡ true → DisplaysOnOk took f r (debug_str url) g → DisplaysOnOk took f r (Some (url_text url)) g
quoted_url took f g r url e h = let w = rw e at h in rw e w

-- one more of a list
pub next_written : {W X : Type 0} (took : W → List ℕ → W → Type 0) (f g h : Formatter W) (text : X → List ℕ) (xs : List X) (i : ℕ) (x : X) → i < length xs → x ≡ get_or xs i x
    → HasWritten took f (flat_map text (take i xs)) g → HasWritten took g (text x) h → HasWritten took f (flat_map text (take (i + 1) xs)) h
next_written {W} {X} took f g h text xs i x within is so_far more =
    let grown : take (i + 1) xs ≡ take i xs ++ x ∷ [] = take_more xs i x within ∙ ap (λ (y : X). take i xs ++ y ∷ []) (sym is) in
    has_written_of_eq took f (flat_map text (take i xs) ++ text x) (flat_map text (take (i + 1) xs)) h
    (flat_map_more text [] (take i xs) x ∙ ap (flat_map text) (sym grown))
    (has_written_append took f (flat_map text (take i xs)) g (text x) h so_far more)

further : (ks : List Key) → flat_map (λ k. further_text (key_info k)) ks ≡ flat_map further_text (map key_info ks)
further [] = refl
further (k ∷ ks) = ap (λ l. further_text (key_info k) ++ l) (further ks)

-- a key and those behind it
pub keys_written : {W : Type 0} (took : W → List ℕ → W → Type 0) (f g h : Formatter W) (ks : List Key) (x : Key) (rest : List Key) → ks ≡ x ∷ rest
    → HasWritten took f (key_text (key_info x)) g → HasWritten took g (flat_map (λ k. further_text (key_info k)) rest) h → HasWritten took f (keys_text (map key_info ks)) h
keys_written took f g h ks x rest e begun ended =
    has_written_of_eq took f (key_text (key_info x) ++ flat_map (λ k. further_text (key_info k)) rest) (keys_text (map key_info ks)) h
    (ap (λ l. key_text (key_info x) ++ l) (further rest) ∙ ap (λ l. keys_text (map key_info l)) (sym e))
    (has_written_append took f (key_text (key_info x)) g (flat_map (λ k. further_text (key_info k)) rest) h begun ended)
