use Rattle.tink_daead.proofs.SivFacts.{accepts_exactly, has_one_text, refuses_others, refuses_short}
use Rattle.tink_daead.proofs.subtle.aes_siv.law_aes_siv.Goals as goal

pub returns : goal.returns
returns c = record { accepts = accepts_exactly; too_short = refuses_short; decrypt_failed = refuses_others; one_text = has_one_text }
