use Rattle.loading_model.specs.Loading.{opening_keys}
use Rattle.tink_c_streams.proofs.TextFacts.{ended, opened, runs_once}
use Rattle.tink_c_streams.proofs.laws.law_pieces_give_the_text.Goals as goal

pub returns-clause-whole : goal.returns-clause-whole
returns-clause-whole c = λ file aad random came given wire loaded old new is loads reads ends. record {
  wire = wire;
  reads = is;
  holds = opened wire aad random came given loaded loads (ended (opening_keys aad loaded) came given old new reads ends);
}

pub returns-clause-one : goal.returns-clause-one
returns-clause-one c = λ file aad random others came given text a b. runs_once file aad random others came given text a b
