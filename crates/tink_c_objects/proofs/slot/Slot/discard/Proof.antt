-- `discard` gives up a slot that owns nothing.
use Rattle.std.proofs.Common.{◌≡◌, List, [], ◌∷◌, ◌++◌, refl, Option, None}
use mir.Syntax.{Fn}
use mir.Val.{Val, vunit}
use base.Logic.{SProp}
use prog.Wp.{WpFn}
use contract.Monad.{fact}
use contract.Running.{tables}
use types.Kit.{‵, raw, ◌⊛◌, prop, ◌$◌, ◌∵◌, !, qed, by, move, keep, drop, split, rewrite, regoal, fsplit, fjoin, feq_i}
use types.Run.{of_opd, unit_lit, returns, enter}
use types.ByLocal.{alloc_all, pass_all, free_all, look_at, sets}
use denote.Exit.{yes}
use denote.RattleType.{owns}
use denote.RawPtr.{ptr_val}
use denote.Signature.{types_at, plain}
use denote.Steps.{nothing, heard}
use denote.Triple.Entry.{alive}
use denote.Triple.Walked.{Stays, stay_dropped, walk_of, Goes-dropped}
use Rattle.std.proofs.raw_atomic.Walks.{proved_at, leaves}
use Rattle.tink_c_objects.proofs.SlotSteps.{Obj, S, one, slot_fits, slot_none_out}
use Rattle.tink_c_objects.specs.contracts.slot.Slot.discard as f
use Rattle.tink_c_objects.proofs.slot.Slot.discard.Statement.{statement}
use Rattle.tink_c_objects.proofs.slot.Slot.discard.Code as code

pub discard_spec : {M : Type 1} → statement M
discard_spec 𝓤 𝓛 𝓜 𝓡 wired =
    let H = 𝓛.H in let En = f.ended in let c = f.clauses 𝓛 𝓜.mem 𝓡.returns in let fn : Fn = code.function in let 𝓣 = tables 𝓤 H 𝓜 𝓡 𝓡.env in
    let hs : Stays En.signature.params En.kept = (stay_dropped (plain (λ _. S)) yes, tt) in
    proved_at 𝓛 En hs c 𝓜 𝓡 (Goes-dropped 𝓛 0 (plain (λ _. S)) yes (λ κs x w. refl), tt) f.Key.name fn (code.unfolded 𝓤 H 𝓜 𝓡 wired) (λ z are.
    let Post : Val → SProp 𝓤 = (walk_of 𝓛 En hs c).post z in
    let d = z.0.3.0 in
    qed 𝓛 ((raw (alive 𝓛 En.signature z.0.0 z.0.1) ⊛ ‵ (owns (types_at En.signature.params z.0.0) z.0.3 z.0.4)) ∷ raw (fact 𝓤 (d.held ≡ None)) ∷ []) ∵ move ! (1 ∷ []) $ heard ! (d.held ≡ None) (λ is.
    split ! $ move ! (1 ∷ []) $ fsplit ! $
    rewrite ! 0 (λ (held : Option Obj.Denot). ‵ (S.own_val (record { at = d.at; held = held }) z.0.4.0)) is refl $
    slot_none_out ! d.at z.0.4.0 (λ ws. drop ! $
    regoal ! (λ (us : List Val). prop (WpFn 𝓤 H 𝓣.C 𝓣.Λ fn us Post)) (λ i. ws i ++ []) refl $
    enter ! 𝓣.C 𝓣.Λ fn (one (ptr_val d.at) ∷ []) Post $
    alloc_all ! (λ l. pass_all ! refl (slot_fits d.at, tt) $
    sets ! (of_opd ! (unit_lit !)) refl (tt, tt) $
    nothing ! $ feq_i ! (List Val) (vunit ∷ []) (vunit ∷ []) refl $ nothing ! $ nothing ! $ fjoin ! $
    returns ! (look_at ! 0 refl) $ free_all ! refl $ keep ! (3 ∷ 0 ∷ 1 ∷ 2 ∷ []) $
    by ! (leaves 𝓛 En hs c z vunit tt (tt, tt) (tt, tt))))))
