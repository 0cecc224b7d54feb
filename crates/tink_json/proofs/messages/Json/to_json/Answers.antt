use Rattle.std.proofs.Common.{◌∙◌}
use Rattle.tink_json.proofs.TextLemmas.{pretty_text-of}
use Rattle.tink_json.proofs.messages.Json.to_json.Goals as goal

pub returns-clause-text : goal.returns-clause-text
returns-clause-text g c =
    let written = c.in_ok-to_string_pretty.ensures in
    c.from_string.ensures ∙ pretty_text-of _ _ _ c.in_ok-value.ensures (g.met.Self.Json.plain _) written.layout written.order
