-- From the command that the words ask for to the program.
use Rattle.std.proofs.Common.{List, inl, inr, refl, ℕ, ◌≡◌}
use Rattle.std.specs.Prelude.{Err}
use Rattle.tink_io.specs.declared.error.Kind.{Kind}
use Rattle.tink_io.specs.declared.error.Kind.TheVariants.{OutOfMemory}
use Rattle.tink_io.specs.Outside.{Outside}
use Rattle.tink_tokens.proofs.InputSteps.{none_taken}
use Rattle.tink_program_core.specs.declared.outcomes.Outcome.{Outcome}
use Rattle.tink_program_core.specs.declared.outcomes.Outcome.TheVariants.{Refused}
use Rattle.tink_program_core.specs.Draws.{draws_in}
use Rattle.tink_program_core.specs.Keysets.{of_keyset, of_no_keys}
use Rattle.tink_io.specs.Statuses.{kind_status}
use Rattle.tink_program_core.specs.Program.{status_of, CommandMeans, OutcomeMeans, Promised, Promises, StatusMeans}
use Rattle.tink_program_core.specs.Words.{Asked, Spells}
use Rattle.tink_program_core.specs.Words.Asked.{Making, Measuring, Opening, Ranging, Rewrapping, Rotating, Sealing, Signing, Verifying}
use Rattle.tink_program_core.proofs.KeysetLemmas.{keygen_facts, keyset_promised, rotate_facts}
use Rattle.tink_program_core.proofs.LargeLemmas.{large_facts, large_promised}
use Rattle.tink_program_core.proofs.RangeLemmas.{range_facts, range_promised}
use Rattle.tink_program_core.proofs.RewrapLemmas.{rewrap_facts, rewrap_promised, want_moved}
use Rattle.tink_program_core.proofs.Spelling.{along}
use Rattle.tink_program_core.proofs.StatusLemmas.{command_status, nothing_status, want_status, CommandFacts}
use Rattle.tink_program_core.proofs.StreamLemmas.{open_facts, open_promised, seal_facts, seal_promised, want_opened, want_ran}
use Rattle.tink_program_core.proofs.TokenLemmas.{sign_facts, sign_promised, verify_facts, verify_promised}

command_facts : (a : Asked) (old new : Outside) (outcome : Outcome) → CommandMeans a old new outcome → CommandFacts a old new (status_of outcome)
command_facts (Sealing keyset aad seed) old new outcome m = seal_facts keyset aad seed old new outcome m
command_facts (Opening keyset aad) old new outcome m = open_facts keyset aad old new outcome m.means
command_facts (Making template seed) old new outcome m = keygen_facts template seed old new outcome m
command_facts (Rotating keyset template seed) old new outcome m = rotate_facts keyset template seed old new outcome m
command_facts (Measuring n) old new outcome m = large_facts n old new outcome m
command_facts (Ranging keyset aad start len) old new outcome m = range_facts keyset aad start len old new outcome m
command_facts (Signing keyset) old new outcome m = sign_facts keyset old new outcome m
command_facts (Verifying keyset) old new outcome m = verify_facts keyset old new outcome m
command_facts (Rewrapping sides seed) old new outcome m = rewrap_facts sides seed old new outcome m

-- what an outcome says of its words
pub status_means : (words : List (List ℕ)) (old new : Outside) (outcome : Outcome) → OutcomeMeans words old new outcome → StatusMeans words old new (status_of outcome)
status_means words old new outcome (inl done) = command_status words done.asked old new (status_of outcome) done.spelled (command_facts done.asked old new outcome done.means)
status_means words old new outcome (inr (inl nothing)) = rw nothing.outcome_is (nothing_status words old new nothing.nothing)
status_means words old new outcome (inr (inr want)) = rw want.outcome_is (want_status words old new want.untouched)

-- what a status promises of what was read, it promises of the words
pub words_promised : (words : List (List ℕ)) (a : Asked) (old new : Outside) (status : ℕ) → Spells words a → Promises a old new status → Promised words old new status
words_promised words a old new status spelled promises = λ b other. along (λ x. Promises x old new status) words a b spelled other promises

-- no memory for what the words say: nothing is promised that does not hold
want_promises : (a : Asked) (o : Outside) → Promises a o o 10
want_promises (Sealing keyset aad seed) o = seal_promised keyset aad seed o o (Err (record { kind = OutOfMemory })) (want_ran keyset aad (draws_in seed 256) o (record { kind = OutOfMemory }) refl)
want_promises (Opening keyset aad) o = open_promised keyset aad o o (Err (record { kind = OutOfMemory })) (want_opened keyset aad o)
want_promises (Making template seed) o = keyset_promised (of_no_keys template seed) o o (Refused OutOfMemory) refl
want_promises (Rotating keyset template seed) o = keyset_promised (of_keyset keyset template seed) o o (Refused OutOfMemory) refl
want_promises (Measuring n) o = large_promised n o o (Refused OutOfMemory) refl
want_promises (Ranging keyset aad start len) o = range_promised keyset aad start len o o (Refused OutOfMemory) (record { got = refl; faults = refl }) (none_taken o.left)
want_promises (Signing keyset) o = sign_promised keyset o o (Refused OutOfMemory) (record { got = refl; faults = refl }) (none_taken o.left)
want_promises (Verifying keyset) o = verify_promised keyset o o (Refused OutOfMemory) (record { got = refl; faults = refl }) (none_taken o.left)
want_promises (Rewrapping sides seed) o = rewrap_promised sides seed o o (Err (record { kind = OutOfMemory })) (want_moved sides (draws_in seed 256) o (record { kind = OutOfMemory }) refl)

pub want_promised : (words : List (List ℕ)) (o : Outside) (kind : Kind) → kind ≡ OutOfMemory → Promised words o o (kind_status kind)
want_promised words o kind is = rw is (λ a spelled. want_promises a o)
