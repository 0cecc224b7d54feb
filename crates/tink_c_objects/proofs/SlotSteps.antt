-- The machine value of a slot. Assumes `Logic`.
use Rattle.std.proofs.Common.{◌≡◌, ℕ, List, [], ◌∷◌, ◌++◌, refl, sym, subst, lit<, T, Option, Some, None, IsSome}
use mathlib.Core.Bool.{true, ◌&&◌}
use seplogic.Ra.Ura.{Ura}
use mir.Syntax.{impl, tnil, dnil}
use mir.Raw.{raw as bare}
use mir.Val.{Val, vptr, vint, vstruct, vcons, vnil, of_list, has_ty, WT}
use mir.Syntax.{w64, ty_ptr}
use base.Logic.{never, fst∗}
use types.Logic.{Logic, sem}
use types.Kit.{Item, Goal, Seq, Step, step, ‵, ◌$◌, drop, fsplit, fjoin, fpick, fpack, feq_i, feq_l}
use denote.RattleType.{RattleType, Valss}
use denote.Builtin.{RawPtr}
use denote.Memory.{lone}
use denote.RawPtr.{Ptr, block_ptr, null_ptr, ptr_val, in_a_block}
use denote.Steps.{nothing}
use denote.Param.Laws.{Laws}
use denote.Struct.Struct.{within}
use denote.Struct.Owning.{shape}
use Rattle.core.proofs.alloc.Calls.{Al}
use Rattle.std_alloc.specs.Box.Ownership.{box_owns}
use Rattle.std_heap.specs.contracts.Global as Heap
use Rattle.std_heap.specs.contracts.GlobalAllocator.TheImpl.{ghosts, dict}
use Rattle.std_heap.proofs.Global.TheLaws as heap
use Rattle.tink_c_objects.specs.Owned.{token}
use Rattle.tink_c_objects.specs.contracts.object.Object as Object
use Rattle.tink_c_objects.specs.contracts.slot.Slot as slot

abbrev pub Obj : RattleType
Obj = Object.the_row

abbrev pub Gl : RattleType
Gl = Heap.the_row

abbrev pub LGl : Laws Gl
LGl = heap.the_row_laws

abbrev pub al : Al
al = record { row = Gl; laws = LGl; g = ghosts; d = dict; drops = impl [] tnil dnil }

abbrev pub S : RattleType
S = slot.the_row

abbrev pub one : Val → Val
one v = vstruct (vcons v vnil)

-- a slot's machine value has its type, wherever the pointer points
pub slot_fits : (p : Ptr) → T (has_ty ty_ptr (ptr_val p) && true) × WT (one (ptr_val p))
slot_fits (block_ptr b o) = (tt, (tt, tt))
slot_fits null_ptr = (tt, (record { fits = lit< tt }, tt))

pub some_of : {X : Type 0} (h : Option X) → IsSome h → (x : X) × (h ≡ Some x)
some_of None is = absurd (subst T (sym is) tt)
some_of (Some x) is = (x, refl)

module _ {M : Type 1} {𝓤 : Ura M} {𝓛 : Logic 𝓤} {K : Type 0} {Γ : List (Item 𝓤)} {G : Goal 𝓤 𝓛.H} where
  pub none_in : K → Step K 𝓛 (‵ (S.own_val (record { at = null_ptr; held = None }) (one (vint w64 0) ∷ [])) ∷ Γ) G Γ G
  none_in t = step (λ s. let v : Val = one (vint w64 0) in
      nothing t $ nothing t $ feq_i t (List Val) (vint w64 0 ∷ []) (vint w64 0 ∷ []) refl $ fjoin t $ feq_i t (List Val) (v ∷ []) (v ∷ []) refl $ fjoin t $
      fpack t (Valss (RawPtr ∷ [])) (within (shape slot.the_type) (null_ptr, tt) (v ∷ [])) (vint w64 0 ∷ [], tt) $ fjoin t $ s)

  pub slot_in : K → (b o : ℕ) (x : Obj.Denot) → Step K 𝓛 (‵ (S.own_val (record { at = block_ptr b o; held = Some x }) (one (vptr b o) ∷ [])) ∷ Γ) G (‵ (box_owns token Obj (block_ptr b o) x) ∷ Γ) G
  slot_in t b o x = step (λ s. let v : Val = one (vptr b o) in
      nothing t $ feq_i t (List Val) (vptr b o ∷ []) (vptr b o ∷ []) refl $ fjoin t $ feq_i t (List Val) (v ∷ []) (v ∷ []) refl $ fjoin t $
      fpack t (Valss (RawPtr ∷ [])) (within (shape slot.the_type) (block_ptr b o, tt) (v ∷ [])) (vptr b o ∷ [], tt) $ fjoin t $ s)

  pub slot_out : K → (p : Ptr) (x : Obj.Denot) (vs : List Val)
      → ((b o : ℕ) → vs ≡ one (vptr b o) ∷ [] → Seq K 𝓛 (‵ (box_owns token Obj (block_ptr b o) x) ∷ Γ) G)
      → Seq K 𝓛 (‵ (S.own_val (record { at = p; held = Some x }) vs) ∷ Γ) G
  slot_out t p x vs k =
      fsplit t $ fpick t (λ vss. fsplit t $ feq_l t (λ ev. fsplit t $ feq_l t (λ ep. drop t $
      in_a_block t p (λ q. box_owns token Obj q x) (fst∗ 𝓤 (never 𝓤) (sem 𝓛 (token (bare (lone Obj.mir)) null_ptr))) (λ b o e. k b o
      (subst (λ (q : Ptr). vs ≡ vstruct (of_list (ptr_val q ∷ [])) ∷ []) e (subst (λ (ps : List Val). vs ≡ vstruct (of_list (ps ++ [])) ∷ []) ep ev))))))

  pub slot_none_out : K → (p : Ptr) (vs : List Val) → (vs ≡ one (ptr_val p) ∷ [] → Seq K 𝓛 Γ G) → Seq K 𝓛 (‵ (S.own_val (record { at = p; held = None }) vs) ∷ Γ) G
  slot_none_out t p vs k =
      fsplit t $ fpick t (λ vss. fsplit t $ feq_l t (λ ev. fsplit t $ feq_l t (λ ep. drop t $ drop t $
      k (subst (λ (ps : List Val). vs ≡ vstruct (of_list (ps ++ [])) ∷ []) ep ev))))
