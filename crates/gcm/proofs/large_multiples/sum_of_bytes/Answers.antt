use Rattle.gcm.proofs.large_multiples.sum_of_bytes.Goals as goal

pub returns : goal.returns
returns c m n v_is w_is = c.sum_of.ensures m n v_is w_is
