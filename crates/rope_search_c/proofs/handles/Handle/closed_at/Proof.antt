-- `closed_at`, by hand: three fields, and nothing is owned.
use Rattle.rope_search_c.proofs.Walks.{refl, false, [], ◌∷◌, ◌++◌, emp, ftrue, WpFn, tables, ‵, raw, prop, ◌⊛◌, ◌$◌, ◌∵◌, !, qed, move, drop, split, join, fsplit, fjoin, feq_i, feq_l, suffices, regoal, done, agg, no_more, and_then, false_lit, returns, enter, alloc_all, pass_all, free_all, look_at, get, sets, RawPtr, yes, plain, nothing, says, Stays, stay_dropped, walk_of, ends_at, Goes-dropped, proved_at}
use mathlib.Core.Bool.{Bool}
use denote.RattleType.{owns}
use Rattle.core.proofs.alloc.Calls.{handle_tells}
use Rattle.core.proofs.atomic.Steps.{Ptr-Good}
use Rattle.std.specs.Prelude.{None}
use Rattle.std_heap.specs.contracts.Global.{the_row as G}
use Rattle.rope_search_c.proofs.HandleSteps.{E, H, triple, triple_typed, handle_in}
use Rattle.rope_search_c.specs.contracts.handles.Handle.closed_at as f
use Rattle.rope_search_c.proofs.handles.Handle.closed_at.Statement.{statement}
use Rattle.rope_search_c.proofs.handles.Handle.closed_at.Code as code

abbrev stayed : Stays f.ended.signature.params f.ended.kept
stayed = (stay_dropped _ yes, (stay_dropped _ yes, tt))

pub closed_at_spec : {M : Type 1} → statement M
closed_at_spec 𝓤 𝓛 𝓜 𝓡 wired =
    let c = f.clauses 𝓛 𝓜.mem 𝓡.returns in let W = walk_of 𝓛 f.ended stayed c in let 𝓣 = tables 𝓤 𝓛.H 𝓜 𝓡 𝓡.env in
    proved_at 𝓛 f.ended stayed c 𝓜 𝓡 (Goes-dropped 𝓛 0 (plain (λ _. G)) yes (λ κs x w. refl), (Goes-dropped 𝓛 0 (plain (λ _. RawPtr)) yes (λ κs x w. refl), tt)) f.Key.name code.function (code.unfolded 𝓤 𝓛.H 𝓜 𝓡 wired) (λ z are.
    let alloc = z.0.3.0 in let p = z.0.3.1.0 in let us = z.0.4.0 in let vs = z.0.4.1.0 in
    qed 𝓛 ((‵ ftrue ⊛ ‵ (owns (G ∷ RawPtr ∷ []) (alloc, (p, tt)) (us, (vs, tt)))) ∷ raw (emp 𝓤) ∷ []) ∵
    split ! $ drop ! $ fsplit ! $ handle_tells E.al ! alloc us (λ g bits fits. move ! (1 ∷ []) $ fsplit ! $ feq_l ! (λ at. drop ! $ move ! (1 ∷ []) $ drop ! $
    regoal ! (λ ws. prop (WpFn 𝓤 𝓛.H 𝓣.C 𝓣.Λ code.function (ws ++ (vs ++ [])) (W.post z))) bits refl $
    regoal ! (λ ws. prop (WpFn 𝓤 𝓛.H 𝓣.C 𝓣.Λ code.function (g ∷ (ws ++ [])) (W.post z))) at refl $
    let made : H.Denot = record { ptr = p; is_open = false; alloc = alloc; held = None } in
    feq_i ! Bool false false refl $ handle_in ! made g $
    enter ! _ _ _ _ _ $ alloc_all ! (λ l. pass_all ! refl (fits, (Ptr-Good p, tt)) $
    sets ! (agg ! (and_then ! (get ! refl) (and_then ! (false_lit !) (and_then ! (get ! refl) (no_more !))))) refl (triple_typed p false g fits) $
    returns ! (look_at ! 0 refl) $ free_all ! refl $
    suffices ! _ (ends_at 𝓛 f.ended stayed c z (triple p false g) made (tt, (tt, tt)) (tt, (tt, tt))) $ says ! refl $
    nothing ! $ nothing ! $ fjoin ! $ nothing ! $ fjoin ! $ join ! $ nothing ! $ join ! $ done !))))
