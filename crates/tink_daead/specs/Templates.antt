-- The registered template of deterministic AEAD keys under its name.
use Rattle.std.specs.Prelude.{ℕ, List, [], ◌∷◌, codes}
use Rattle.tink_proto.specs.declared.messages.keys.KeyTemplate.{KeyTemplate}
use Rattle.tink_daead.specs.KeyTypes.{aes_siv_template}

abbrev pub daead_templates : List (List ℕ × KeyTemplate)
daead_templates = (codes "AES256_SIV", aes_siv_template) ∷ []
