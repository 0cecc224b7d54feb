use Rattle.std.proofs.Common.{◌≡◌, ◌⊎◌, Ok, Err, ◌∷◌, inl, inr, ⊎_elim, subst, sym, ℕ, List, Some, cond, bytes_eq}
use Rattle.tink_set_groups.specs.Groups.{group_at}
use Rattle.tink_io.specs.declared.error.Kind.TheVariants.{OutOfMemory}
use Rattle.tink_set_groups.specs.Converting.{converted}
use Rattle.tink_set_groups.proofs.ConvertingFacts.{IsConverting, converting_all, converting_none, converting_more, converting_refused}
use Rattle.tink_set_groups.proofs.converting.convert_groups.Goals as goal

pub loop-prefix-init : goal.loop-prefix-init
loop-prefix-init g c =
    let begun = c.into_iter-prefix-iterator.ensures.into_iter_gives in
    subst (λ rest. IsConverting g.C.Convert.gives c.args.groups.now rest c.new-out.result) (sym begun.0)
    (converting_none g.C.Convert.gives c.args.groups.now c.new-out.result begun.6 c.new-out.ensures.empty)

pub loop-prefix-preserved : goal.loop-prefix-preserved
loop-prefix-preserved g c =
    let left : c.loop-prefix.prefix-iterator ≡ (c.in-Some.prefix.now, c.in-Some.group.now) ∷ c.next.new.self = c.in-Some.ensures.steps in
    let one = subst (λ xs. converted g.C.Convert.gives xs ≡ Ok c.in-Ok.list) c.as_slice.ensures c.in-Ok.ensures.answer in
    let before = subst (λ rest. IsConverting g.C.Convert.gives c.args.groups.now rest c.loop-prefix.out) left c.loop-prefix.invariant in
    converting_more g.C.Convert.gives c.args.groups.now c.in-Some.prefix.now c.in-Some.group.now c.next.new.self c.loop-prefix.out before c.put_list.new.groups c.in-Ok.list one
    (subst (λ l. (p : List ℕ) → group_at c.put_list.new.groups p ≡ cond (bytes_eq l p) (Some c.in-Ok.list) (group_at c.loop-prefix.out p)) c.deref.ensures.value c.in_ok-put_list-in-Ok.ensures.ok)

pub returns-in-Err : goal.returns-in-Err
returns-in-Err g c =
    let left : c.loop-prefix.prefix-iterator ≡ (c.in-Some.prefix.now, c.in-Some.group.now) ∷ c.next.new.self = c.in-Some.ensures.steps in
    let one = subst (λ xs. (c.in-Err.e.kind ≡ OutOfMemory) ⊎ (converted g.C.Convert.gives xs ≡ Err c.in-Err.e.kind)) c.as_slice.ensures c.in-Err.ensures.answer in
    let before = subst (λ rest. IsConverting g.C.Convert.gives c.args.groups.now rest c.loop-prefix.out) left c.loop-prefix.invariant in
    record {
      ok = tt;
      cause = ⊎_elim inl
          (λ refused. inr (converting_refused g.C.Convert.gives c.args.groups.now c.in-Some.prefix.now c.in-Some.group.now c.next.new.self c.loop-prefix.out before c.in-Err.e.kind refused))
          one;
    }

pub returns : goal.returns
returns g c = record {
  ok = converting_all g.C.Convert.gives c.args.groups.now c.loop-prefix.out (subst (λ rest. IsConverting g.C.Convert.gives c.args.groups.now rest c.loop-prefix.out) c.in-None.ensures.steps.0 c.loop-prefix.invariant);
  cause = tt;
}
