use Rattle.tink_cli_files.specs.Saved.{added_file}
use Rattle.tink_c_keysets.proofs.Given.{by_two}
use Rattle.tink_c_keysets.proofs.making.add.Goals as goal

pub returns : goal.returns
returns c =
    by_two (λ file draws. added_file file c.args.template.now draws) c.in_ok-file.file.items c.args.file.now c.in_ok-draws.draws c.args.random.now
    c.added_file.result c.in_ok-file.ensures.ok c.in_ok-draws.ensures.ok c.added_file.ensures.answer
