use Rattle.std.proofs.Common.{rules, ◌≡◌, ◌==◌, ◌++◌, ◌∙◌, ap, decimal}
use Rattle.std.proofs.lemmas.Result.{on_ok_weaker}
use Rattle.tink_keyset_io.specs.Listed.{line_end, prefix_word, printed, status_word, type_word}
use Rattle.tink_keyset_io.proofs.LineLemmas.{five_parts}
use Rattle.tink_keyset_io.proofs.key_files.listing.put_key.Goals as goal

pub returns-clause-ok : goal.returns-clause-ok
returns-clause-ok c =
    let key = c.args.key.now in
    let id : c.put.new.text.items ≡ c.args.text.now.items ++ decimal key.key_id = search rules in
    let status : c.put-2.new.text.items ≡ c.put.new.text.items ++ status_word key.status = search rules in
    let prefix : c.put-3.new.text.items ≡ c.put-2.new.text.items ++ prefix_word key.output_prefix_type = search rules in
    let type : c.put_printed.new.text.items ≡ c.put-3.new.text.items ++ printed (type_word key.type_url) = search rules in
    let end : c.line_end.result.now ≡ line_end (key.key_id == c.args.primary) = search rules in
    on_ok_weaker c.put-4.result
    (λ last. five_parts _ _ _ _ _ _ _ _ _ _ _ id status prefix type (last ∙ ap (λ e. c.put_printed.new.text.items ++ e) end))
    c.put-4.ensures.ok
