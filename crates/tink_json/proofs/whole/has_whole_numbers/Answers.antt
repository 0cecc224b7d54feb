use Rattle.std.proofs.Common.{sym, ap, ◌∙◌}
use Rattle.std.specs.List.{list_all}
use Rattle.json.specs.Lex.{tokens}
use Rattle.tink_json.specs.Whole.{is_whole_token}
use Rattle.tink_json.proofs.TextLemmas.{are_whole-other, are_whole-utf8}
use Rattle.tink_json.proofs.whole.has_whole_numbers.Goals as goal

pub returns-in_default : goal.returns-in_default
returns-in_default c = sym (are_whole-other _ c.in_default.ensures.cases.0)

pub returns : goal.returns
returns c =
    c.rest_is_whole.ensures ∙ ap (list_all is_whole_token) c.in_ok-reader.ensures.ok ∙ ap (λ t. list_all is_whole_token (tokens t)) c.in-Ok.ensures.cases.0
    ∙ are_whole-utf8 _ c.in-Ok.ensures.cases.1
