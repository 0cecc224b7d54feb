use Rattle.tink_program_core.proofs.WordLemmas.{read_by, unnamed}
use Rattle.tink_program_core.proofs.words.read.Goals as goal

pub returns-in_default-as_str : goal.returns-in_default-as_str
returns-in_default-as_str c =
    let other = c.in_default-as_str in
    unnamed c.args.words.now c.name-item.result _ c.in-len1-up.len_at_least c.name-item.is c.as_str.ensures.value
    other.not-seal other.not-open other.not-keygen other.not-rotate other.not-large other.not-range other.not-sign other.not-verify other.not-rewrap

pub returns-in-seal : goal.returns-in-seal
returns-in-seal c = read_by c.args.words.now c.name-item.result _ _ c.read_seal.result c.in-len1-up.len_at_least c.name-item.is c.as_str.ensures.value c.in-seal.is c.read_seal.ensures

pub returns-in-open : goal.returns-in-open
returns-in-open c = read_by c.args.words.now c.name-item.result _ _ c.read_open.result c.in-len1-up.len_at_least c.name-item.is c.as_str.ensures.value c.in-open.is c.read_open.ensures

pub returns-in-keygen : goal.returns-in-keygen
returns-in-keygen c = read_by c.args.words.now c.name-item.result _ _ c.read_keygen.result c.in-len1-up.len_at_least c.name-item.is c.as_str.ensures.value c.in-keygen.is c.read_keygen.ensures

pub returns-in-rotate : goal.returns-in-rotate
returns-in-rotate c = read_by c.args.words.now c.name-item.result _ _ c.read_rotate.result c.in-len1-up.len_at_least c.name-item.is c.as_str.ensures.value c.in-rotate.is c.read_rotate.ensures

pub returns-in-large : goal.returns-in-large
returns-in-large c = read_by c.args.words.now c.name-item.result _ _ c.read_large.result c.in-len1-up.len_at_least c.name-item.is c.as_str.ensures.value c.in-large.is c.read_large.ensures

pub returns-in-range : goal.returns-in-range
returns-in-range c = read_by c.args.words.now c.name-item.result _ _ c.read_range.result c.in-len1-up.len_at_least c.name-item.is c.as_str.ensures.value c.in-range.is c.read_range.ensures

pub returns-in-sign : goal.returns-in-sign
returns-in-sign c = read_by c.args.words.now c.name-item.result _ _ c.read_sign.result c.in-len1-up.len_at_least c.name-item.is c.as_str.ensures.value c.in-sign.is c.read_sign.ensures

pub returns-in-verify : goal.returns-in-verify
returns-in-verify c = read_by c.args.words.now c.name-item.result _ _ c.read_verify.result c.in-len1-up.len_at_least c.name-item.is c.as_str.ensures.value c.in-verify.is c.read_verify.ensures

pub returns-in-rewrap : goal.returns-in-rewrap
returns-in-rewrap c = read_by c.args.words.now c.name-item.result _ _ c.read_rewrap.result c.in-len1-up.len_at_least c.name-item.is c.as_str.ensures.value c.in-rewrap.is c.read_rewrap.ensures
