-- How a call is refused where its master refuses.
use Rattle.std.proofs.Common.{◌≡◌, ◌⊎◌, inl, inr, ◌∙◌, List, ℕ, Result, Err, refl, sym, ap}
use Rattle.tink_io.specs.Answering.{IsShort, Replies}
use Rattle.tink_io.specs.declared.error.Kind.{Kind}
use Rattle.tink_io.specs.declared.error.Kind.TheVariants.{MasterFailed, OutOfMemory}
use Rattle.tink_io.specs.declared.error.TinkError.{TinkError}
use Rattle.tink_primitives.specs.Meaning.{IsDrawn}
use Rattle.tink_primitives.specs.MeaningLaws.{replies_end}
use Rattle.tink_keyset_rules.specs.Masters.{by_master, master_kind}

either : (kind : Kind) → (master_kind kind ≡ OutOfMemory) ⊎ (master_kind kind ≡ MasterFailed)
either OutOfMemory = inl refl
either kind = inr refl

failed : {T : Type 0} (told : Result T Kind) (kind by : Kind) → told ≡ Err kind → by ≡ MasterFailed → by_master told ≡ Err by
failed told kind by refused is = ap by_master refused ∙ ap Err (sym is)

-- of a call without draws
pub refused : {T : Type 0} (told : Result T Kind) (kind by : Kind) → by ≡ master_kind kind → (kind ≡ OutOfMemory) ⊎ (told ≡ Err kind) → (by ≡ OutOfMemory) ⊎ (by_master told ≡ Err by)
refused told kind by is cause = elim cause [
  | inl memory ↦ inl (is ∙ ap master_kind memory)
  | inr said ↦ elim (either kind) [ inl memory ↦ inl (is ∙ memory) | inr other ↦ inr (failed told kind by said (is ∙ other)) ]
]

-- of a call that draws
pub refused_drawing : {T : Type 0} (told : Result T Kind × List ℕ) (e : TinkError) (by : Kind) (before now : List ℕ) → IsDrawn before told → by ≡ master_kind e.kind
    → Replies (Err e) told before now → IsShort by before now ⊎ ((by_master told.0 ≡ Err by) × (now ≡ told.1))
refused_drawing told e by before now drawn is replies =
    let ends = replies_end (Err e) told before now drawn replies in
    elim replies [
      | inl short ↦ inl (record { kind = is ∙ ap master_kind short.kind; ends = ends })
      | inr said ↦ elim (either e.kind) [
        | inl memory ↦ inl (record { kind = is ∙ memory; ends = ends })
        | inr other ↦ inr (failed told.0 e.kind by said.0 (is ∙ other), said.1)
      ]
    ]
