use Rattle.aes_block.proofs.KeyedBlocks.{decrypted-encrypted, encrypted-decrypted}
use Rattle.aes_block.proofs.law_round_trip.Goals as goal

pub returns-clause-decryption_undoes : goal.returns-clause-decryption_undoes
returns-clause-decryption_undoes c = decrypted-encrypted

pub returns-clause-encryption_undoes : goal.returns-clause-encryption_undoes
returns-clause-encryption_undoes c = encrypted-decrypted
