use Rattle.tink_cli_streams.proofs.OpenableLemmas.{checked_opens, decrypted_opens}
use Rattle.tink_cli_streams.proofs.SuccessLemmas.{checked_decrypts}
use Rattle.tink_cli_streams.proofs.checking.law_checked_is_decrypted.Goals as goal

pub returns-clause-checked : goal.returns-clause-checked
returns-clause-checked c = λ line s is. checked_opens line s is

pub returns-clause-decrypted : goal.returns-clause-decrypted
returns-clause-decrypted c = λ line old new got got_after tells made. decrypted_opens line old new got got_after tells made

pub returns-clause-decrypts : goal.returns-clause-decrypts
returns-clause-decrypts c = λ line s before now status checked cause. checked_decrypts line s before now status checked cause
