use Rattle.std.proofs.Common.{rules, ◌≡◌, ◌==◌, ◌++◌, ◌∙◌, ap, decimal}
use Rattle.std.proofs.lemmas.Result.{on_ok_weaker}
use Rattle.tink_keyset_io.specs.Listed.{type_word}
use Rattle.tink_keyset_io.specs.ListedJson.{prefix_member, primary_member, quoted, status_member}
use Rattle.tink_keyset_io.proofs.LineLemmas.{five_parts}
use Rattle.tink_keyset_io.proofs.key_files.json_list.put_members.Goals as goal

pub returns-clause-ok : goal.returns-clause-ok
returns-clause-ok c =
    let key = c.args.key.now in
    let id : c.put.new.text.items ≡ c.args.text.now.items ++ decimal key.key_id = search rules in
    let status : c.put-2.new.text.items ≡ c.put.new.text.items ++ status_member key.status = search rules in
    let prefix : c.put-3.new.text.items ≡ c.put-2.new.text.items ++ prefix_member key.output_prefix_type = search rules in
    let type : c.put_quoted.new.text.items ≡ c.put-3.new.text.items ++ quoted (type_word key.type_url) = search rules in
    let end : c.primary_member.result.now ≡ primary_member (key.key_id == c.args.primary) = search rules in
    on_ok_weaker c.put-4.result
    (λ last. five_parts _ _ _ _ _ _ _ _ _ _ _ id status prefix type (last ∙ ap (λ e. c.put_quoted.new.text.items ++ e) end))
    c.put-4.ensures.ok
