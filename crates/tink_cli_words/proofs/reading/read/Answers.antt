use Rattle.std.proofs.Common.{◌≡◌, ◌∙◌, ◌+◌, ℕ, List, ◌∷◌, [], drop, get_or, refl, sym, ap, subst, Result, Ok, Err}
use Rattle.std.proofs.lemmas.List.{at_drop_more, at_drop_all}
use Rattle.tink_cli_words.specs.Words.{byte_words}
use Rattle.tink_cli_words.specs.Texts.{TextsRead}
use Rattle.tink_cli_words.specs.Lines.{and_then, ended, meaning, read_on, with_meaning}
use Rattle.tink_cli_words.specs.declared.form.Action.{Action}
use Rattle.tink_cli_words.specs.declared.reading.Meaning.{Meaning}
use Rattle.tink_cli_words.specs.declared.wrong.Why.{Why}
use Rattle.tink_cli_words.proofs.reading.read.Goals as goal

-- one word more is read
one_more : (action : Action) (t : TextsRead) (word : List ℕ) (words : List (List ℕ)) (m : Meaning) → Ok m ≡ meaning action t word → read_on action t (word ∷ words) ≡ read_on action (with_meaning t m) words
unfolding read_on
one_more action t word words m is = subst (λ (r : Result Meaning Why). and_then r (λ m. read_on action (with_meaning t m) words) ≡ read_on action (with_meaning t m) words) is refl

-- a word is wrong
refused : (action : Action) (t : TextsRead) (word : List ℕ) (words : List (List ℕ)) (why : Why) → Err why ≡ meaning action t word → read_on action t (word ∷ words) ≡ Err why
unfolding read_on
refused action t word words why is = subst (λ (r : Result Meaning Why). and_then r (λ m. read_on action (with_meaning t m) words) ≡ Err why) is refl

-- no word is left
all_read : (action : Action) (t : TextsRead) → read_on action t [] ≡ ended t
unfolding read_on
all_read action t = refl

pub returns-in-Err : goal.returns-in-Err
returns-in-Err c =
    let words = c.args.words.now in
    let i = c.words.word-index in
    let t = c.words.texts in
    let action = c.args.action in
    let word = get_or words i c.word-item.result in
    let left = at_drop_more (λ l. read_on action t (byte_words l)) words i c.word-item.result c.words-test.true in
    let text = c.as_slice.ensures.value ∙ ap (λ v. v.items) c.word-item.is in
    let says : Err c.in-Err.why ≡ meaning action t c.as_slice.result.now = c.in-Err.ensures in
    let said = subst (λ (w : List ℕ). Err c.in-Err.why ≡ meaning action t w) text says in
    sym (refused action t word.items (byte_words (drop (i + 1) words)) c.in-Err.why said) ∙ sym left ∙ c.words.invariant

pub words-preserved : goal.words-preserved
words-preserved c =
    let words = c.args.words.now in
    let i = c.words.word-index in
    let t = c.words.texts in
    let action = c.args.action in
    let m = c.in-Ok.meaning in
    let word = get_or words i c.word-item.result in
    let rest = byte_words (drop (i + 1) words) in
    let left = at_drop_more (λ l. read_on action t (byte_words l)) words i c.word-item.result c.words-test.true in
    let text = c.as_slice.ensures.value ∙ ap (λ v. v.items) c.word-item.is in
    let says : Ok m ≡ meaning action t c.as_slice.result.now = c.in-Ok.ensures in
    let said = subst (λ (w : List ℕ). Ok m ≡ meaning action t w) text says in
    ap (λ (next : TextsRead). read_on action next rest) c.with_meaning-texts.ensures ∙ sym (one_more action t word.items rest m said) ∙ sym left ∙ c.words.invariant

pub returns : goal.returns
returns c =
    let words = c.args.words.now in
    let i = c.words.word-index in
    let t = c.words.texts in
    let action = c.args.action in
    let left = at_drop_all (λ l. read_on action t (byte_words l)) words i c.words-test.false in
    c.finish.ensures ∙ sym (all_read action t) ∙ sym left ∙ c.words.invariant
