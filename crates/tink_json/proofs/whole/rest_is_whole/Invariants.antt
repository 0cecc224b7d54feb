use Rattle.std.proofs.Common.{◌≡◌, length}
use Rattle.std.specs.List.{list_all}
use Rattle.tink_json.specs.Whole.{is_whole_token}
use Rattle.tink_json.proofs.whole.rest_is_whole.Given as goal

-- the tokens so far were whole
abbrev pub invariant-loop-token : goal.invariant-loop-token
invariant-loop-token l = list_all is_whole_token l.reader ≡ list_all is_whole_token l.fn.reader

abbrev pub decreases-loop-token : goal.decreases-loop-token
decreases-loop-token l = length l.reader
