use Rattle.tink_c_streams.proofs.choice.choice_of.Goals as goal

pub returns-clause-keys : goal.returns-clause-keys
returns-clause-keys c = c.in_ok-keys.ensures.value

pub returns-clause-data : goal.returns-clause-data
returns-clause-data c = c.in_ok-data.ensures.items_if_clones_equal (λ x y e. e)
