-- The commands of tokens: what stands after each outcome, and what they promise by the status.
use Rattle.std.specs.Prelude.{◌≡◌, ◌⊎◌, ◌+◌, ℕ, List, Ok, Err}
use Rattle.tink_io.specs.declared.error.Kind.{Kind}
use Rattle.tink_io.specs.declared.error.Kind.TheVariants.{InputTooLong}
use Rattle.tink_io.specs.Taken.{LosesAtMost}
use Rattle.tink_io.specs.Outside.{Outside, HasNoFault, AreKnown}
use Rattle.tink_tokens.specs.Inputs.{input_limit, HasTooMuch}
use Rattle.tink_tokens.specs.Tokens.{macs_of, CanAnswer, CannotAnswer, IsAnsweredWhole, Macs, TokenMeans}
use Rattle.tink_program_core.specs.Streams.{IsDoneOrWant}
use Rattle.tink_program_core.specs.declared.outcomes.Outcome.{Outcome}
use Rattle.tink_program_core.specs.declared.outcomes.Outcome.TheVariants.{Done, Usage, Refused}

module _ (Gives : Macs → List ℕ → List ℕ → Type 0) (Refuses : Macs → List ℕ → Kind → Type 0) (keyset : List ℕ) where
  -- what stands after each outcome, and why it came
  abbrev pub TokenOutcome : Outside → Outside → Outcome → Type 0
  TokenOutcome old new Done = TokenMeans Gives Refuses keyset old new (Ok tt)
  TokenOutcome old new Usage = ⊥
  TokenOutcome old new (Refused kind) = TokenMeans Gives Refuses keyset old new (Err (record { kind = kind }))

  -- known bytes: what 0 promises; where neither end fails, when it comes, and when the input's refusals come; and how
  -- much is taken of the source at most, whatever the status
  pub record TokenPromises (status_of_kind : Kind → ℕ) (old new : Outside) (status : ℕ) : Type 0 where
    pub whole : (T G : List ℕ) → AreKnown old T G → status ≡ 0 → IsAnsweredWhole Gives Refuses keyset T G new
    pub succeeds : (T G : List ℕ) → AreKnown old T G → HasNoFault old new → CanAnswer Gives Refuses keyset T
        → IsDoneOrWant status
    pub refused : (T G : List ℕ) (kind : Kind) → AreKnown old T G → HasNoFault old new
        → CannotAnswer Gives Refuses keyset T kind → (status ≡ status_of_kind kind) ⊎ (status ≡ 10)
    pub long : (T G : List ℕ) → AreKnown old T G → HasNoFault old new → HasTooMuch (macs_of keyset) T
        → (status ≡ status_of_kind InputTooLong) ⊎ (status ≡ 10)
    pub taken : LosesAtMost (input_limit + 1) old.left new.left
