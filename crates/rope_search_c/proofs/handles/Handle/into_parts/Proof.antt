-- `into_parts`, by hand: what an open handle owns is what the parts own; a closed one owns nothing.
use Rattle.rope_search_c.proofs.Walks.{sym, refl, true, false, [], ◌∷◌, ◌++◌, Bool, vcons, vnil, emp, id⊢, ftrue, fsep, WpFn, tables, ‵, raw, prop, at_ret, ◌⊛◌, ◌$◌, ◌∵◌, !, qed, move, drop, use0, use1, split, join, fsplit, fjoin, suffices, regoal, done, whole, sub, agg, stop, fld, no_more, and_then, of_opd, lit, first, branches, exec, returns, enter, alloc_all, pass_all, free_all, look_at, get, get_in, sets, sets_last, env, yes, Ptr, block_ptr, plain, nothing, says, Stays, stay_dropped, walk_of, ends_at, Goes-dropped, proved_at, D, word, box_typed, box_in}
use Rattle.std.proofs.Common.{lit<}
use types.Match.{live}
use denote.Signature.{type_at}
use Rattle.std.specs.Prelude.{None, Some}
use Rattle.std_alloc.proofs.ResultValues.{and_tt}
use Rattle.core.proofs.option.Made.{Some-of, none_of}
use Rattle.core.proofs.atomic.Steps.{Ptr-Good}
use Rattle.rope_search_c.proofs.HandleSteps.{E, Raw, H, triple, triple_typed, handle_out, handle_cases}
use Rattle.rope_search_c.specs.contracts.handles.Handle.into_parts as f
use Rattle.rope_search_c.proofs.handles.Handle.into_parts.Statement.{statement}
use Rattle.rope_search_c.proofs.handles.Handle.into_parts.Code as code

abbrev stayed : Stays f.ended.signature.params f.ended.kept
stayed = (stay_dropped (plain (λ _. H)) yes, tt)

pub into_parts_spec : {M : Type 1} → statement M
into_parts_spec 𝓤 𝓛 𝓜 𝓡 wired =
    let c = f.clauses 𝓛 𝓜.mem 𝓡.returns in let W = walk_of 𝓛 f.ended stayed c in let 𝓣 = tables 𝓤 𝓛.H 𝓜 𝓡 𝓡.env in
    proved_at 𝓛 f.ended stayed c 𝓜 𝓡 (Goes-dropped 𝓛 0 (plain (λ _. H)) yes (λ κs x w. refl), tt) f.Key.name code.function (code.unfolded 𝓤 𝓛.H 𝓜 𝓡 wired) (λ z are.
    let d = z.0.3.0 in let Out = type_at f.ended.signature.result z.0.0 in
    qed 𝓛 ((‵ ftrue ⊛ ‵ (fsep (H.own_val d z.0.4.0) ftrue)) ∷ raw (emp 𝓤) ∷ []) ∵
    split ! $ drop ! $ fsplit ! $ move ! (1 ∷ 2 ∷ []) $ drop ! $ drop ! $
    handle_out ! d z.0.4.0 (λ g is fits.
    regoal ! (λ us. prop (WpFn 𝓤 𝓛.H 𝓣.C 𝓣.Λ code.function (us ++ []) (W.post z))) is refl $
    handle_cases ! d.alloc d.ptr d.is_open d.held
    -- it is closed: [the allocator]
    (λ is_shut is_none. regoal ! (λ (f : Bool). prop (WpFn 𝓤 𝓛.H 𝓣.C 𝓣.Λ code.function (triple d.ptr f g ∷ []) (W.post z))) is_shut refl $ drop ! $
    enter ! 𝓣.C 𝓣.Λ code.function (triple d.ptr false g ∷ []) (W.post z) $ alloc_all ! (λ l. pass_all ! refl (triple_typed d.ptr false g fits, tt) $
    sets ! (of_opd ! (get_in ! (fld ! refl (stop !)) (sub ! 0 refl (whole !)))) refl (Ptr-Good d.ptr) $
    sets ! (of_opd ! (get_in ! (fld ! refl (stop !)) (sub ! 1 refl (whole !)))) refl (tt, tt) $
    sets ! (of_opd ! (get_in ! (fld ! refl (stop !)) (sub ! 2 refl (whole !)))) refl fits $
    sets ! (of_opd ! (get ! refl)) refl (tt, tt) $
    first ! $ branches ! (get ! refl) (λ wrong. absurd wrong) (λ _.
    sets_last ! (agg ! (and_then ! (lit ! tt) (no_more !))) refl (tt, (record { fits = lit< tt }, tt)) $
    exec ! 𝓣.C 𝓣.Λ (env code.Mir.locals l) code.Mir.t-6 (at_ret _ (W.post z)) $
    sets ! (of_opd ! (get ! refl)) refl (tt, (record { fits = lit< tt }, tt)) $
    returns ! (look_at ! 0 refl) $ free_all ! refl $
    suffices ! _ (ends_at 𝓛 f.ended stayed c z (live 0 vnil) None (tt, tt) (tt, tt)) $ says ! (sym is_none) $
    use0 𝓛 (‵ (Out.own_val None (live 0 vnil ∷ []))) (none_of 𝓛 Raw) $
    nothing ! $ nothing ! $ fjoin ! $ join ! $ nothing ! $ join ! $ done !)))
    -- it is open: [the session and its token; the allocator]
    (λ b o x at is_open is_some. regoal ! (λ (f : Bool). prop (WpFn 𝓤 𝓛.H 𝓣.C 𝓣.Λ code.function (triple d.ptr f g ∷ []) (W.post z))) is_open refl $
    regoal ! (λ (p : Ptr). prop (WpFn 𝓤 𝓛.H 𝓣.C 𝓣.Λ code.function (triple p true g ∷ []) (W.post z))) at refl $
    let d' : D E = record { ptr = block_ptr b o; alloc = d.alloc; value = x } in let w = word E g b o in
    let made : Raw.Denot = record { ptr = block_ptr b o; alloc = d.alloc; value = x } in
    let typed = box_typed E g b o fits in let v = live 1 (vcons w vnil) in
    fsplit ! $ box_in E ! d' b o x refl refl $ use1 𝓛 (‵ (Raw.own_val made (w ∷ []))) (id⊢ 𝓤 _) $
    enter ! 𝓣.C 𝓣.Λ code.function (triple (block_ptr b o) true g ∷ []) (W.post z) $ alloc_all ! (λ l. pass_all ! refl (triple_typed (block_ptr b o) true g fits, tt) $
    sets ! (of_opd ! (get_in ! (fld ! refl (stop !)) (sub ! 0 refl (whole !)))) refl (tt, tt) $
    sets ! (of_opd ! (get_in ! (fld ! refl (stop !)) (sub ! 1 refl (whole !)))) refl (tt, tt) $
    sets ! (of_opd ! (get_in ! (fld ! refl (stop !)) (sub ! 2 refl (whole !)))) refl fits $
    sets ! (of_opd ! (get ! refl)) refl (tt, tt) $
    first ! $ branches ! (get ! refl) (λ _.
    sets ! (of_opd ! (get ! refl)) refl (tt, tt) $
    sets ! (agg ! (and_then ! (get ! refl) (and_then ! (get ! refl) (no_more !)))) refl typed $
    sets_last ! (agg ! (and_then ! (lit ! tt) (and_then ! (get ! refl) (no_more !)))) refl (and_tt _ typed.0, (record { fits = lit< tt }, (typed.1, tt))) $
    exec ! 𝓣.C 𝓣.Λ (env code.Mir.locals l) code.Mir.t-6 (at_ret _ (W.post z)) $
    sets ! (of_opd ! (get ! refl)) refl (and_tt _ typed.0, (record { fits = lit< tt }, (typed.1, tt))) $
    returns ! (look_at ! 0 refl) $ free_all ! refl $
    use1 𝓛 (‵ (Out.own_val (Some made) (v ∷ []))) (Some-of 𝓛 Raw made w) $
    suffices ! _ (ends_at 𝓛 f.ended stayed c z v (Some made) (tt, tt) (tt, tt)) $ says ! (sym is_some) $
    nothing ! $ nothing ! $ fjoin ! $ join ! $ nothing ! $ join ! $ done !) (λ wrong. absurd wrong)))))
