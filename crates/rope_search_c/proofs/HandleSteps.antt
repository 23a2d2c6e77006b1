-- A handle at its machine value, taken apart and put together. Assumes `Logic`.
use Rattle.rope_search_c.proofs.Walks.{◌≡◌, refl, subst, Bool, true, false, List, [], ◌∷◌, ◌++◌, Val, vbool, vstruct, vcons, vnil, of_list, has_ty, never, fst∗, Logic, sem, Item, Goal, Seq, Step, step, ‵, ◌$◌, move, drop, fsplit, fjoin, fpick, fpack, feq_i, feq_l, RattleType, Valss, RawPtr, bool, layout, Ptr, block_ptr, null_ptr, ptr_val, in_a_block, nothing, Bx}
use Rattle.std.proofs.Common.{ℕ, lit<}
use seplogic.Ra.Ura.{Ura}
use mir.Raw.{raw as bare}
use mir.Syntax.{impl, tnil, dnil}
use denote.Memory.{lone}
use denote.Struct.Struct.{within}
use denote.Struct.Owning.{shape, to}
use Rattle.core.proofs.alloc.Calls.{handle_tells}
use Rattle.core.proofs.cell.Inside.{Good}
use Rattle.std.specs.Prelude.{Option, None, Some}
use Rattle.std.specs.Global.{Global}
use Rattle.std_alloc.specs.Box.Ownership.{box_owns}
use Rattle.std_alloc.proofs.ResultValues.{and_tt}
use Rattle.std_heap.specs.contracts.Global.{the_row as G}
use Rattle.std_heap.specs.contracts.GlobalAllocator.TheImpl.{ghosts, dict}
use Rattle.std_heap.proofs.Global.TheLaws as global
use Rattle.rope_search_c.specs.contracts.counting.CountingSession.{the_row as S}
use Rattle.rope_search_c.proofs.counting.CountingSession.TheLaws as counting
use Rattle.rope_search_c.specs.contracts.handles.raw_box.RawBox as raw_box
use Rattle.rope_search_c.specs.contracts.handles.Handle as handle
use Rattle.rope_search_c.specs.Handles.{handle_owns}

-- a session's box, of the global allocator
abbrev pub E : Bx
E = record {
  row = S;
  laws = counting.the_row_laws;
  al = record { row = G; laws = global.the_row_laws; g = ghosts; d = dict; drops = impl [] tnil dnil };
}

abbrev pub Raw : RattleType
Raw = raw_box.the_row S G ghosts

abbrev pub H : RattleType
H = handle.the_row

abbrev pub owned : Global → Ptr → S.Denot → base.Fml.Fml
owned alloc ptr x = box_owns (ghosts.dealloc_token alloc) S ptr x

-- the machine value of a handle: its pointer, its flag, its allocator
abbrev pub triple : Ptr → Bool → Val → Val
triple p f g = vstruct (vcons (ptr_val p) (vcons (vbool f) (vcons g vnil)))

pub triple_typed : (p : Ptr) (f : Bool) (g : Val) → Good (layout G) g → Good (layout H) (triple p f g)
triple_typed (block_ptr b o) f g fits = (and_tt (has_ty (layout G) g) fits.0, (tt, (tt, (fits.1, tt))))
triple_typed null_ptr f g fits =
    (and_tt (has_ty (layout G) g) fits.0, (record { fits = lit< tt }, (tt, (fits.1, tt))))

module _ {M : Type 1} {𝓤 : Ura M} {𝓛 : Logic 𝓤} {K : Type 0} {Γ : List (Item 𝓤)} {Q : Goal 𝓤 𝓛.H} where
  -- what a handle owns, and its allocator, are the handle
  pub handle_in : K → (d : H.Denot) (g : Val)
      → Step K 𝓛 (‵ (H.own_val d (triple d.ptr d.is_open g ∷ [])) ∷ Γ) Q
      (‵ (handle_owns d.alloc d.ptr d.is_open d.held) ∷ ‵ (G.own_val d.alloc (g ∷ [])) ∷ Γ) Q
  handle_in t d g = step (λ s. let v = triple d.ptr d.is_open g in
      nothing t $ move t (2 ∷ 0 ∷ []) $ fjoin t $
      feq_i t (List Val) (vbool d.is_open ∷ []) (vbool d.is_open ∷ []) refl $ fjoin t $
      feq_i t (List Val) (ptr_val d.ptr ∷ []) (ptr_val d.ptr ∷ []) refl $ fjoin t $
      feq_i t (List Val) (v ∷ []) (v ∷ []) refl $ fjoin t $
      fpack t (Valss (RawPtr ∷ bool ∷ G ∷ [])) (within (shape handle.the_type) (to handle.the_type d) (v ∷ []))
      (ptr_val d.ptr ∷ [], (vbool d.is_open ∷ [], (g ∷ [], tt))) $ fjoin t $ s)

  -- and the other way round
  pub handle_out : K → (d : H.Denot) (vs : List Val)
      → ((g : Val) → vs ≡ triple d.ptr d.is_open g ∷ [] → Good (layout G) g
      → Seq K 𝓛 (‵ (handle_owns d.alloc d.ptr d.is_open d.held) ∷ ‵ (G.own_val d.alloc (g ∷ [])) ∷ Γ) Q)
      → Seq K 𝓛 (‵ (H.own_val d vs) ∷ Γ) Q
  handle_out t d vs k =
      let made : List Val → List Val → List Val → List Val = λ ps fs gs. vstruct (of_list (ps ++ (fs ++ (gs ++ [])))) ∷ [] in
      fsplit t $ fpick t (λ us. fsplit t $ feq_l t (λ is. fsplit t $ feq_l t (λ at. fsplit t $ feq_l t (λ flag. fsplit t $
      handle_tells E.al t d.alloc us.1.1.0 (λ g bits fits. move t (1 ∷ []) $ drop t $ move t (1 ∷ []) $
      k g (subst (λ gs. vs ≡ made (ptr_val d.ptr ∷ []) (vbool d.is_open ∷ []) gs) bits
      (subst (λ fs. vs ≡ made (ptr_val d.ptr ∷ []) fs us.1.1.0) flag
      (subst (λ ps. vs ≡ made ps us.1.0 us.1.1.0) at is))) fits)))))

  -- a handle is closed, or it owns a box
  pub handle_cases : K → (alloc : Global) (p : Ptr) (f : Bool) (c : Option S.Denot)
      → (f ≡ false → c ≡ None → Seq K 𝓛 Γ Q)
      → ((b o : ℕ) (x : S.Denot) → p ≡ block_ptr b o → f ≡ true → c ≡ Some x → Seq K 𝓛 (‵ (owned alloc (block_ptr b o) x) ∷ Γ) Q)
      → Seq K 𝓛 (‵ (handle_owns alloc p f c) ∷ Γ) Q
  handle_cases t alloc p f None shut held = feq_l t (λ is. shut is refl)
  handle_cases t alloc p f (Some x) shut held =
      fsplit t $ feq_l t (λ is. in_a_block t p (λ q. owned alloc q x)
      (fst∗ 𝓤 (never 𝓤) (sem 𝓛 (ghosts.dealloc_token alloc (bare (lone S.mir)) null_ptr)))
      (λ b o at. held b o x at is refl))
