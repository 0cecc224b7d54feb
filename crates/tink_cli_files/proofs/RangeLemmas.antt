-- What an object counts where a range was written into a draft.
use Rattle.std.proofs.Common.{◌≡◌, ℕ, List, Bool, sym, subst}
use Rattle.std.specs.Prelude.{Result, Ok, Err, IfErr}
use Rattle.std.specs.declared.option.Option.{Option}
use Rattle.tink_io.specs.declared.error.TinkError.{TinkError}
use Rattle.tink_io.specs.Places.{Ends}
use Rattle.tink_range.specs.Objects.{LeavesObject, RisesByKind, RisesByReadFault}
use Rattle.tink_run.specs.Run.{IsEarly}
use Rattle.tink_rewrap.specs.SetRanges.{LeavesRangeEnds}

-- a draft that is not shown makes no ReadFault, and all other refusals are those of the call that wrote it
counted : {V : Type 0} (draft : Option (List ℕ)) (replaces : Bool) (before after : Option (Option (List ℕ))) (i j reads reads_after : ℕ) (answer result : Result V TinkError)
    → Ends draft replaces before after i j answer result → RisesByReadFault reads reads_after answer → RisesByReadFault reads reads_after result
counted draft replaces before after i j reads reads_after (Ok v) (Ok w) ends count = count
counted draft replaces before after i j reads reads_after (Ok v) (Err e) ends count = subst (λ (x : TinkError). RisesByKind reads reads_after x.kind) (sym ends.refusal) count
counted draft replaces before after i j reads reads_after (Err e) (Ok w) ends count = absurd ends
counted draft replaces before after i j reads reads_after (Err e) (Err f) ends count = subst (λ (x : TinkError). RisesByKind reads reads_after x.kind) (sym ends.0) count

pub leaves_ended : {A V : Type 0} (length_of : A → ℕ) (bytes : A → Option (List ℕ)) (faults : A → ℕ) (old new : A) (draft : Option (List ℕ)) (replaces : Bool) (before after : Option (Option (List ℕ))) (i j : ℕ) (answer result : Result V TinkError)
    → Ends draft replaces before after i j answer result → LeavesObject length_of bytes faults old new answer → LeavesObject length_of bytes faults old new result
leaves_ended length_of bytes faults old new draft replaces before after i j answer result ends left = record {
  length_is = left.length_is;
  bytes_are = left.bytes_are;
  later = left.later;
  count = counted draft replaces before after i j (faults old) (faults new) answer result ends left.count;
}

-- a draft that is not shown is no early refusal, and each early one is that of the call that wrote it
pub early_ended : {A W : Type 0} (object object_after : A) (sink sink_after : W) (draft : Option (List ℕ)) (replaces : Bool) (before after : Option (Option (List ℕ))) (i j : ℕ) (answer result : Result ℕ TinkError)
    → Ends draft replaces before after i j answer result → LeavesRangeEnds answer object object_after sink sink_after → IfErr result (λ e. IsEarly e.kind → object_after ≡ object)
early_ended object object_after sink sink_after draft replaces before after i j (Ok v) (Ok w) ends leaves = tt
early_ended object object_after sink sink_after draft replaces before after i j (Ok v) (Err e) ends leaves = λ early. absurd (subst (λ (x : TinkError). IsEarly x.kind) ends.refusal early)
early_ended object object_after sink sink_after draft replaces before after i j (Err e) (Ok w) ends leaves = absurd ends
early_ended object object_after sink sink_after draft replaces before after i j (Err e) (Err f) ends leaves = λ early. (leaves (subst (λ (x : TinkError). IsEarly x.kind) ends.0 early)).0
