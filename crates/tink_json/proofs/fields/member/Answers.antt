use Rattle.std.proofs.Common.{◌≡◌, ◌∙◌, true, false, Some, None, Option, ap, sym}
use Rattle.std.specs.Prelude.{is_some}
use Rattle.std.specs.Option.{option_or}
use Rattle.serde_json.specs.Data.{Data}
use Rattle.serde_json.specs.Find.{as_null, get}
use Rattle.serde_json.specs.View.{view}
use Rattle.tink_json.proofs.fields.member.Goals.{in-Some, in-None+in_ok-found-in-None}
use Rattle.tink_json.proofs.fields.member.Goals as goal

pub returns-in_err-found-in-None : goal.returns-in_err-found-in-None
returns-in_err-found-in-None c =
    let first : get c.args.camel.now (view c.args.object.now) ≡ None = sym c.in-None.ensures in
    let second : get c.args.snake.now (view c.args.object.now) ≡ None = sym c.in_err-found-in-None.ensures in
    rw (c.from_residual.ensures, first, second)

pub returns-then-is_null : goal.returns-then-is_null
returns-then-is_null c =
    let snake : Option Data = get c.args.snake.now (view c.args.object.now) in
    let found : option_or (get c.args.camel.now (view c.args.object.now)) snake ≡ Some (view c.match-get.found.now) = elim c.match-get.branch [
      | in-Some w ↦ ap (λ (o : Option Data). option_or o snake) (sym w.in-Some.ensures) ∙ ap (λ f. Some (view f.now)) (sym w.found-is)
      | in-None+in_ok-found-in-None w ↦
          ap (λ (o : Option Data). option_or o snake) (sym w.in-None.ensures) ∙ sym w.in_ok-found-in-None.ensures ∙ ap (λ f. Some (view f.now)) (sym w.found-is)
    ] in
    let null : is_some (as_null (view c.match-get.found.now)) ≡ true = sym c.is_null.ensures ∙ c.if-is_null.true in
    rw (found, null)

pub returns-else-is_null : goal.returns-else-is_null
returns-else-is_null c =
    let snake : Option Data = get c.args.snake.now (view c.args.object.now) in
    let found : option_or (get c.args.camel.now (view c.args.object.now)) snake ≡ Some (view c.match-get.found.now) = elim c.match-get.branch [
      | in-Some w ↦ ap (λ (o : Option Data). option_or o snake) (sym w.in-Some.ensures) ∙ ap (λ f. Some (view f.now)) (sym w.found-is)
      | in-None+in_ok-found-in-None w ↦
          ap (λ (o : Option Data). option_or o snake) (sym w.in-None.ensures) ∙ sym w.in_ok-found-in-None.ensures ∙ ap (λ f. Some (view f.now)) (sym w.found-is)
    ] in
    let value : is_some (as_null (view c.match-get.found.now)) ≡ false = sym c.is_null.ensures ∙ c.if-is_null.false in
    rw (found, value)
