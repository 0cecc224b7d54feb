use Rattle.std.proofs.Common.{◌≡◌, ◌∙◌, ◌+◌, ℕ, List, ◌∷◌, false, drop, get_or, refl, sym, subst, Bor, if◌then◌else◌, Some}
use Rattle.std.proofs.lemmas.List.{at_drop_more}
use Rattle.tink_cli_words.specs.Words.{is, value_named}
use Rattle.tink_cli_words.proofs.names.value_named.Goals as goal

-- a row with another name is passed over
passed : {A : Type 0} (name : List ℕ) (row : Bor (List ℕ) × A) (rows : List (Bor (List ℕ) × A)) → false ≡ is name row.0.now → value_named (row ∷ rows) name ≡ value_named rows name
passed name row rows other = subst (λ b. (if b then Some row.1 else value_named rows name) ≡ value_named rows name) other refl

pub rows-preserved : goal.rows-preserved
rows-preserved g c =
    let rows = c.args.rows.now in
    let i = c.rows.known-index in
    let name = c.args.name.now in
    let differs = subst (λ (known : List ℕ). false ≡ is name known) c.as_bytes.ensures.value c.if-eq.ensures in
    let other = subst (λ row. false ≡ is name row.0.now) c.rows-item.is differs in
    let left = at_drop_more (λ l. value_named l name) rows i c.rows-item.result c.rows-test.true in
    sym (left ∙ passed name (get_or rows i c.rows-item.result) (drop (i + 1) rows) other) ∙ c.rows.invariant
