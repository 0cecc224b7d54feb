use Rattle.std.specs.Prelude.{None}
use Rattle.tink_cli_files.specs.Saved.{new_file}
use Rattle.tink_c_keysets.specs.Formats.{format_by}
use Rattle.tink_c_keysets.proofs.Given.{by_two}
use Rattle.tink_c_keysets.proofs.making.create.Goals as goal

pub returns : goal.returns
returns c =
    by_two (λ format draws. new_file c.args.template.now None format draws) c.format_by.result (format_by c.args.json) c.in_ok-draws.draws c.args.random.now
    c.new_file.result c.format_by.ensures c.in_ok-draws.ensures.ok c.new_file.ensures.answer
