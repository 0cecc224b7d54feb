use Rattle.tink_cli_files.specs.Saved.{converted_file}
use Rattle.tink_c_keysets.specs.Formats.{format_by}
use Rattle.tink_c_keysets.proofs.Given.{by_two}
use Rattle.tink_c_keysets.proofs.making.convert.Goals as goal

pub returns : goal.returns
returns c =
    by_two converted_file c.in_ok-file.file.items c.args.file.now c.format_by.result (format_by c.args.json)
    c.converted_file.result c.in_ok-file.ensures.ok c.format_by.ensures c.converted_file.ensures
