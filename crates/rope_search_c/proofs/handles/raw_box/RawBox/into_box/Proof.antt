-- `into_box`, by hand: what the two own is what `Box::from_raw` requires.
use Rattle.rope_search_c.proofs.Walks.{◌≡◌, refl, sym, ap, subst, [], ◌∷◌, List, ◌++◌, Val, vptr, has_ty, WT, id⊢, ftrue, fsep, WpFn, fact, tables, ‵, raw, prop, at_ret, ◌⊛◌, some, later, ◌$◌, ◌∵◌, !, qed, move, drop, use1, split, join, pick, rewrite, regoal, fsplit, fjoin, feq_i, suffices, await, done, whole, sub, stop, fld, no_more, and_then, of_opd, first, blocks, exec, returns, enter, alloc_all, pass_all, free_all, look_at, get, get_in, sets, lands_last, env, no, block_ptr, plain, heard, nothing, only, says, Stays, stay_dropped, walk_of, ends_at, proved_at, Bx, D, R, P, B, box_typed, box_out, box_in}
use lib.Dec.{T as T'}
use mir.MapTy.{inst_fn}
use mir.Syntax.{a_type, dcons, dnil}
use contract.BorrowLft.{◌⊑◌}
use denote.Param.{bounded}
use denote.Triple.Call.{calls_at_last}
use denote.Triple.Clauses.{lasts, Lasts}
use denote.Triple.Entry.{alive}
use denote.Triple.Spec.{triple_of}
use denote.Triple.Table.{framed}
use Rattle.core.proofs.alloc.Calls.{Goes-blank}
use Rattle.std_alloc.proofs.BoxSteps.Form.{box_ty}
use Rattle.std_alloc.proofs.VecSteps.Shapes.{after}
use Rattle.std_alloc.specs.contracts.boxed.Box.from_raw as given
use Rattle.std_alloc.proofs.boxed.Box.from_raw.Met.{met}
use Rattle.rope_search_c.specs.contracts.handles.raw_box.RawBox as raw_box
use Rattle.rope_search_c.specs.contracts.handles.raw_box.RawBox.into_box as f
use Rattle.rope_search_c.proofs.handles.raw_box.RawBox.into_box.Statement.{statement}
use Rattle.rope_search_c.proofs.handles.raw_box.RawBox.into_box.Code as code

pub into_box_spec : {M : Type 1} → statement M
into_box_spec 𝓤 𝓛 𝓜 𝓡 wired X Z LX LZ g d dd allocator md =
    let E : Bx = record { row = X; laws = LX; al = record { row = Z; laws = LZ; g = g; d = d; drops = dd } } in
    let args = bounded (a_type ∷ a_type ∷ []) (X, (Z, tt)) (dcons d (dcons dd dnil)) in let fn = inst_fn args code.function in
    let S = f.ended X Z g d dd in let c = f.clauses X Z g d dd 𝓛 𝓜.mem 𝓡.returns in let From = raw_box.the_row (R E) (P E) g in
    let stayed : Stays S.signature.params S.kept = (stay_dropped (plain (λ _. From)) no, tt) in
    let W = walk_of 𝓛 S stayed c in let 𝓣 = tables 𝓤 𝓛.H 𝓜 𝓡 𝓡.env in
    let Given = triple_of 𝓛 (given.signature X Z g d dd) (given.spec X Z g d dd 𝓛 𝓜.mem 𝓡.returns) in
    proved_at 𝓛 S stayed c 𝓜 𝓡 (Goes-blank 𝓛 2 (plain (λ _. From)) no (λ κs x w. tt), tt) (f.Key.name args) fn (code.unfolded 𝓤 𝓛.H 𝓜 𝓡 wired (X, (Z, tt)) d dd) (λ z are.
    let all : D E = record { ptr = z.0.3.0.ptr; alloc = z.0.3.0.alloc; value = z.0.3.0.value } in let T = given.ended X Z g d dd in
    let lives = raw (alive 𝓛 S.signature z.0.0 z.0.1) in let x_lives = raw (fact 𝓤 (z.0.0.0 ⊑ X.lives)) in let a_lives = raw (fact 𝓤 (z.0.0.1.0 ⊑ Z.lives)) in
    qed 𝓛 ((lives ⊛ ‵ (fsep ((B E).own_val all z.0.4.0) ftrue)) ∷ (x_lives ⊛ a_lives ⊛ ‵ ftrue) ∷ []) ∵
    split ! $ move ! (1 ∷ []) $ fsplit ! $ box_out E ! all z.0.4.0 (λ b o h at is fits. fjoin ! $
    regoal ! (λ us. prop (WpFn 𝓤 𝓛.H 𝓣.C 𝓣.Λ fn (us ++ []) (W.post z))) is refl $
    enter ! _ _ _ _ _ $ alloc_all ! (λ l. pass_all ! refl (box_typed E h b o fits, tt) $
    sets ! (of_opd ! (get_in ! (fld ! refl (stop !)) (sub ! 0 refl (whole !)))) refl (tt, tt) $
    sets ! (of_opd ! (get_in ! (fld ! refl (stop !)) (sub ! 1 refl (whole !)))) refl fits $
    first ! $ blocks ! $ sets ! (of_opd ! (get ! refl)) refl fits $
    -- [what the box owns; its allocator; nothing; what is alive; what lives on]
    let y : Given.Ghost = ((z.0.0, z.0.1, tt, (all.alloc, (block_ptr b o, tt)), (h ∷ [], (vptr b o ∷ [], tt))), all.value) in
    move ! (2 ∷ []) $ feq_i ! (List Val) (vptr b o ∷ []) (vptr b o ∷ []) refl $ fjoin ! $ move ! (2 ∷ 0 ∷ []) $ fjoin ! $
    move ! (3 ∷ []) $ split ! $ move ! (1 ∷ []) $ split ! $ move ! (1 ∷ []) $ drop ! $
    -- [what lives on: the allocator's, the value's; the arguments; what the box owns; what is alive]
    move ! (0 ∷ 3 ∷ []) $ join ! $ move ! (1 ∷ 0 ∷ []) $ join ! $ move ! (2 ∷ 1 ∷ []) $ join ! $ join ! $ use1 𝓛 (raw (Given.pre y)) (id⊢ 𝓤 _) $
    calls_at_last ! (framed 𝓤 𝓛.H 𝓜 𝓣) Given (met 𝓤 𝓛 𝓜 𝓡 (code.calls-std_alloc::boxed::Box::from_raw 𝓡.env wired) X Z LX LZ g d dd allocator md) y
    (and_then ! (get ! refl) (and_then ! (get ! refl) (no_more !))) (λ u.
    use1 𝓛 (later (some (λ (r : D E). (lives ⊛ ‵ ((B E).own_val r (u ∷ []))) ⊛ some (λ (ws : Lasts T z.0.0 y.0.3).
    ‵ (lasts T z.0.0 y.0.3 ws) ⊛ (raw (fact 𝓤 (r.value ≡ all.value)) ⊛ raw (fact 𝓤 (r.alloc ≡ all.alloc))))))) (id⊢ 𝓤 _) $
    await ! tt $ pick ! (λ r. split ! $ move ! (1 ∷ []) $ pick ! (λ _. split ! $ drop ! $ split ! $ heard ! (r.value ≡ all.value) (λ same. drop ! $
    split ! $ move ! (1 ∷ []) $ box_out E ! r (u ∷ []) (λ b' o' h' at' is' fits'. box_in E ! r b' o' r.value at' refl $
    rewrite ! 0 (λ us. ‵ ((B E).own_val r us)) (sym is') refl $
    let typed = subst (λ (v : Val). T' (has_ty (box_ty E) v) × WT v) (sym (ap only is')) (box_typed E h' b' o' fits') in
    lands_last ! refl typed $ exec ! 𝓣.C 𝓣.Λ (env fn.locals l) (after 3 fn.body) (at_ret (env fn.locals l) (W.post z)) $
    sets ! (of_opd ! (get ! refl)) refl typed $ returns ! (look_at ! 0 refl) $ free_all ! refl $
    suffices ! _ (ends_at 𝓛 S stayed c z u r ((tt, (tt, tt)), tt) (tt, tt)) $ says ! same $
    nothing ! $ nothing ! $ fjoin ! $ join ! $ move ! (1 ∷ 0 ∷ []) $ join ! $ done !))))))))
