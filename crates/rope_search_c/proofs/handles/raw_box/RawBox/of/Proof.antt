-- `of`, by hand: the two results of `Box::into_raw_with_allocator` own what the box owned.
use Rattle.rope_search_c.proofs.Walks.{◌≡◌, refl, ap, ◌∙◌, [], ◌∷◌, ◌++◌, vstruct, of_list, id⊢, never, fst∗, ftrue, fsep, WpFn, sem, fact, tables, ‵, raw, prop, ◌⊛◌, some, later, ◌$◌, ◌∵◌, !, qed, move, drop, use1, split, join, pick, rewrite, regoal, fsplit, fjoin, fpick, feq_l, suffices, await, done, whole, sub, agg, stop, fld, no_more, and_then, of_opd, returns, enter, alloc_all, pass_all, free_all, look_at, get, get_in, sets, lands_as, no, RawPtr, Ptr, block_ptr, null_ptr, ptr_val, in_a_block, plain, heard, nothing, only, says, Stays, stay_dropped, walk_of, ends_at, proved_at, Bx, D, R, P, B, word, box_typed, box_out, box_in}
use mir.MapTy.{inst_fn}
use mir.Raw.{raw as bare}
use mir.Syntax.{a_type, dcons, dnil}
use denote.Param.{bounded}
use denote.Signature.{type_at}
use denote.Struct.Tuple.{Tuple}
use denote.Triple.Call.{calls_at}
use denote.Triple.Clauses.{lasts, Lasts}
use denote.Triple.Entry.{alive}
use denote.Triple.Spec.{triple_of}
use denote.Triple.Table.{framed}
use Rattle.core.proofs.alloc.Calls.{token, handle_tells, Goes-blank}
use Rattle.std_alloc.specs.Box.Ownership.{box_owns}
use Rattle.std_alloc.proofs.BoxSteps.Form.{τ}
use Rattle.std_alloc.specs.contracts.boxed.Box.into_raw_with_allocator as taken
use Rattle.std_alloc.proofs.boxed.Box.into_raw_with_allocator.Met.{met}
use Rattle.rope_search_c.specs.contracts.handles.raw_box.RawBox.of as f
use Rattle.rope_search_c.proofs.handles.raw_box.RawBox.of.Statement.{statement}
use Rattle.rope_search_c.proofs.handles.raw_box.RawBox.of.Code as code

pub of_spec : {M : Type 1} → statement M
of_spec 𝓤 𝓛 𝓜 𝓡 wired X Z LX LZ g d dd dx allocator md glue =
    let E : Bx = record { row = X; laws = LX; al = record { row = Z; laws = LZ; g = g; d = d; drops = dd } } in
    let args = bounded (a_type ∷ a_type ∷ []) (X, (Z, tt)) (dcons d (dcons dd (dcons dx dnil))) in let fn = inst_fn args code.function in
    let S = f.ended X Z g d dd dx in let c = f.clauses X Z g d dd dx 𝓛 𝓜.mem 𝓡.returns in
    let stayed : Stays S.signature.params S.kept = (stay_dropped (plain (λ _. B E)) no, tt) in
    let W = walk_of 𝓛 S stayed c in let 𝓣 = tables 𝓤 𝓛.H 𝓜 𝓡 𝓡.env in
    let Taken = triple_of 𝓛 (taken.signature X Z g d dd dx) (taken.spec X Z g d dd dx 𝓛 𝓜.mem 𝓡.returns) in
    proved_at 𝓛 S stayed c 𝓜 𝓡 (Goes-blank 𝓛 2 (plain (λ _. B E)) no (λ κs x w. tt), tt) (f.Key.name args) fn (code.unfolded 𝓤 𝓛.H 𝓜 𝓡 wired (X, (Z, tt)) d dd dx) (λ z are.
    let all = z.0.3.0 in let Out = type_at S.signature.result z.0.0 in let lives = raw (alive 𝓛 S.signature z.0.0 z.0.1) in
    qed 𝓛 ((lives ⊛ ‵ (fsep ((B E).own_val all z.0.4.0) ftrue)) ∷ raw ((c z.0.0 z.0.3).requires z.1) ∷ []) ∵
    split ! $ move ! (1 ∷ []) $ fsplit ! $ box_out E ! all z.0.4.0 (λ b o h at is fits. box_in E ! all b o all.value at refl $
    regoal ! (λ us. prop (WpFn 𝓤 𝓛.H 𝓣.C 𝓣.Λ fn (us ++ []) (W.post z))) is refl $
    enter ! _ _ _ _ _ $ alloc_all ! (λ l. pass_all ! refl (box_typed E h b o fits, tt) $
    sets ! (of_opd ! (get ! refl)) refl (box_typed E h b o fits) $
    -- [the box; nothing; what is alive; what is required]
    let y : Taken.Ghost = ((z.0.0, z.0.1, tt, (all, tt), (word E h b o ∷ [], tt)), tt) in
    fjoin ! $ move ! (1 ∷ 0 ∷ []) $ join ! $ join ! $ use1 𝓛 (raw (Taken.pre y)) (id⊢ 𝓤 _) $
    calls_at ! (framed 𝓤 𝓛.H 𝓜 𝓣) Taken (met 𝓤 𝓛 𝓜 𝓡 (code.calls-std_alloc::boxed::Box::into_raw_with_allocator 𝓡.env wired) X Z LX LZ g d dd dx allocator md glue) y
    (and_then ! (get ! refl) (no_more !)) (λ u.
    let T = taken.ended X Z g d dd dx in
    use1 𝓛 (later (some (λ (r : Ptr × Z.Denot). (lives ⊛ ‵ ((Tuple (RawPtr ∷ P E ∷ [])).own_val r (u ∷ []))) ⊛ some (λ (ws : Lasts T z.0.0 y.0.3).
    ‵ (lasts T z.0.0 y.0.3 ws) ⊛ (raw (fact 𝓤 (r.1 ≡ all.alloc)) ⊛ ‵ (box_owns (token E.al all.alloc) (R E) r.0 all.value)))))) (id⊢ 𝓤 _) $
    await ! tt $ pick ! (λ r. split ! $ move ! (1 ∷ []) $ pick ! (λ _. split ! $ drop ! $ split ! $ heard ! (r.1 ≡ all.alloc) (λ same.
    in_a_block ! r.0 (λ p. box_owns (token E.al all.alloc) (R E) p all.value) (fst∗ 𝓤 (never 𝓤) (sem 𝓛 (token E.al all.alloc (bare (τ E)) null_ptr))) (λ b' o' at'.
    move ! (1 ∷ []) $ split ! $ move ! (1 ∷ []) $ fpick ! (λ us. fsplit ! $ feq_l ! (λ both. fsplit ! $ feq_l ! (λ one. fsplit ! $
    rewrite ! 0 (λ (a : Z.Denot). ‵ (Z.own_val a us.1.0)) same refl $ handle_tells E.al ! all.alloc us.1.0 (λ h' bits fits'.
    let d' : D E = record { ptr = block_ptr b' o'; alloc = all.alloc; value = all.value } in let w = word E h' b' o' in
    let made : Out.Denot = record { ptr = block_ptr b' o'; alloc = all.alloc; value = all.value } in
    lands_as ! (ap only (both ∙ (λ j. vstruct (of_list ((one ∙ ap (λ (p : Ptr). ptr_val p ∷ []) at') j ++ (bits j ++ []))) ∷ []))) refl (box_typed E h' b' o' fits') $
    sets ! (of_opd ! (get_in ! (fld ! refl (stop !)) (sub ! 0 refl (whole !)))) refl (tt, tt) $
    sets ! (of_opd ! (get_in ! (fld ! refl (stop !)) (sub ! 1 refl (whole !)))) refl fits' $
    sets ! (of_opd ! (get ! refl)) refl fits' $
    sets ! (agg ! (and_then ! (get ! refl) (and_then ! (get ! refl) (no_more !)))) refl (box_typed E h' b' o' fits') $
    returns ! (look_at ! 0 refl) $ free_all ! refl $
    -- [the allocator; nothing; what is alive; what a box owns]
    move ! (3 ∷ []) $ fsplit ! $ box_in E ! d' b' o' all.value refl refl $ use1 𝓛 (‵ (Out.own_val made (w ∷ []))) (id⊢ 𝓤 _) $ move ! (1 ∷ []) $ drop ! $
    suffices ! _ (ends_at 𝓛 S stayed c z w made ((tt, (tt, tt)), tt) (tt, tt)) $ says ! refl $
    nothing ! $ nothing ! $ fjoin ! $ join ! $ move ! (1 ∷ 0 ∷ []) $ join ! $ done !))))))))))))
