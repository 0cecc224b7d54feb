use Rattle.std.proofs.Common.{◌≡◌, ◌∙◌, ◌<◌, ℕ, List, get_or, length, sym, ap, subst}
use Rattle.std.specs.Prelude.{All, IsUtf8, Vec}
use Rattle.std.proofs.lemmas.List.{get_or-map, length-map}
use Rattle.tink_cli_words.specs.Words.{byte_words}
use Rattle.tink_cli.proofs.texts.texts_of.Goals as goal

-- a word among words that are UTF-8
utf8_at : {A : Type 0} (words : List (Vec ℕ A)) (i : ℕ) (w : Vec ℕ A) → i < length words → All IsUtf8 (byte_words words) → IsUtf8 (get_or words i w).items
utf8_at words i w lt all =
    let long : length (byte_words words) ≡ length words = length-map words (λ v. v.items) in
    subst (λ (bytes : List ℕ). IsUtf8 bytes) (get_or-map (λ v. v.items) words i w w.items lt) (all i w.items (subst (λ (n : ℕ). i < n) (sym long) lt))

pub returns-in-Err-clause-texts : goal.returns-in-Err-clause-texts
returns-in-Err-clause-texts c = λ all.
    let text = c.as_slice.ensures.value ∙ ap (λ v. v.items) c.word-item.is in
    c.in-Err.ensures.cases.0 (subst (λ (bytes : List ℕ). IsUtf8 bytes) (sym text)
    (utf8_at c.args.words.now c.words.word-index c.word-item.result c.words-test.true all))
