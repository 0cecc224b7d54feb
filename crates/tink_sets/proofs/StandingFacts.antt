-- Whether a key may stand in a set, by what was told of its prefix.
use Rattle.std.proofs.Common.{◌≡◌, ◌⊎◌, ℕ, List, Ok, Err, inl, inr, ap}
use Rattle.tink_io.specs.declared.error.Kind.TheVariants.{OutOfMemory}
use Rattle.tink_io.specs.declared.error.TinkError.{TinkError}
use Rattle.tink_io.specs.Answering.{Answers, made_of}
use Rattle.tink_proto.specs.declared.messages.keys.Key.{Key}
use Rattle.tink_sets.specs.Entries.{may_stand, standing_prefix}

pub may : (k : Key) (prefix : List ℕ) → standing_prefix k ≡ Ok prefix → may_stand k ≡ Ok tt
may k prefix told = ap (made_of (λ _. tt)) told

pub may_not : (k : Key) (e : TinkError) → Answers (Err e) (standing_prefix k) → (e.kind ≡ OutOfMemory) ⊎ (may_stand k ≡ Err e.kind)
may_not k e (inl memory) = inl memory
may_not k e (inr told) = inr (ap (made_of (λ _. tt)) told)
