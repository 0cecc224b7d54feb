use Rattle.std.proofs.Common.{◌≡◌, ◌∙◌, Bool, true, false, cond, None, Option, ap, subst, sym}
use Rattle.std.specs.Prelude.{option_and_then}
use Rattle.serde_json.specs.Data.{Data}
use Rattle.serde_json.specs.View.{view}
use Rattle.tink_proto.specs.Outcome.{Reads}
use Rattle.tink_proto.specs.declared.error.ProtoError.TheVariants.{BadJson}
use Rattle.tink_json.specs.Messages.{message_of, value_of}
use Rattle.tink_json.specs.Whole.{are_whole}
use Rattle.tink_json.proofs.messages.from_text.Goals as goal

pub returns-then-not-branch : goal.returns-then-not-branch
returns-then-not-branch g c =
    let other : are_whole c.args.text.now ≡ false = sym c.in_ok-has_whole_numbers.ensures ∙ c.if-not-branch.true in
    ap (λ (b : Bool). cond b (option_and_then g.M.Json.form (value_of c.args.text.now)) None) other

pub returns : goal.returns
returns g c =
    let whole : are_whole c.args.text.now ≡ true = sym c.in_ok-has_whole_numbers.ensures ∙ c.if-not-branch.false in
    let told : message_of g.M.Json.form c.args.text.now ≡ g.M.Json.form (view c.in_ok-value.value) =
    ap (λ (b : Bool). cond b (option_and_then g.M.Json.form (value_of c.args.text.now)) None) whole
    ∙ ap (λ (d : Option Data). option_and_then g.M.Json.form d) c.in_ok-value.ensures in
    subst (λ m. Reads BadJson c.from_value.result m) (sym told) c.from_value.ensures
