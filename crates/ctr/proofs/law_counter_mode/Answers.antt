use Rattle.ctr.proofs.StandardCounter.{xored_be, xored_buffered, xored_gcm, xored_gcm_siv, xored_le}
use Rattle.ctr.proofs.law_counter_mode.Goals as goal

pub returns-clause-last_bytes : goal.returns-clause-last_bytes
returns-clause-last_bytes c = xored_be

pub returns-clause-first_bytes : goal.returns-clause-first_bytes
returns-clause-first_bytes c = xored_le

pub returns-clause-gcm : goal.returns-clause-gcm
returns-clause-gcm c = xored_gcm

pub returns-clause-gcm_siv : goal.returns-clause-gcm_siv
returns-clause-gcm_siv c = xored_gcm_siv

pub returns-clause-buffered : goal.returns-clause-buffered
returns-clause-buffered c = xored_buffered
