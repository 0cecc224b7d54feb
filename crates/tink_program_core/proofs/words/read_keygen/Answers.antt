use Rattle.std.proofs.Common.{◌∙◌, refl, sym}
use Rattle.tink_program_core.proofs.WordLemmas.{keygen_found, keygen_no_seed, text_at}
use Rattle.tink_program_core.proofs.words.read_keygen.Goals as goal

pub returns-in_default-from_hex : goal.returns-in_default-from_hex
returns-in_default-from_hex c = keygen_no_seed c.args.words.now _ _ (text_at _ 1 0 _ _ c.in-len2.len_at_least c.seed-item.is c.as_str.ensures.value) (sym c.from_hex.ensures ∙ c.in_default-from_hex.is)

pub returns-in-Ok-from_str : goal.returns-in-Ok-from_str
returns-in-Ok-from_str c =
    keygen_found c.args.words.now _ _ _ _ c.in-len2.len_at_least c.in-len2.len_below
    (text_at _ 0 1 _ _ c.in-len2.len_at_least c.template-item.is c.as_str-2.ensures.value)
    (text_at _ 1 0 _ _ c.in-len2.len_at_least c.seed-item.is c.as_str.ensures.value)
    (sym c.from_hex.ensures ∙ c.in-Ok.is) (c.in-Ok-from_str.ensures.ok ∙ refl)
