use Rattle.tink_cli_files.specs.Wrapping.{wrapped_file}
use Rattle.tink_c_keysets.specs.Formats.{format_by}
use Rattle.tink_c_keysets.proofs.Given.{by_three}
use Rattle.tink_c_keysets.proofs.wrapping.wrap_now.Goals as goal

pub returns : goal.returns
returns c =
    λ m is. by_three (λ file format draws. wrapped_file m file c.args.associated_data.now format draws) c.in_ok-file.file.items c.args.file.now
    c.format_by.result (format_by c.args.json) c.in_ok-draws.draws c.args.random.now c.wrap_file.result c.in_ok-file.ensures.ok c.format_by.ensures
    c.in_ok-draws.ensures.ok (c.wrap_file.ensures.answer m is)
