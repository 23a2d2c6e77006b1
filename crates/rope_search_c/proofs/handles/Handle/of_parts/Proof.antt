-- `of_parts`, by hand: what the parts own is what an open handle owns.
use Rattle.rope_search_c.proofs.Walks.{refl, true, [], ◌∷◌, ◌++◌, emp, ftrue, fsep, WpFn, tables, ‵, raw, prop, ◌⊛◌, ◌$◌, ◌∵◌, !, qed, move, drop, split, join, fsplit, fjoin, feq_i, suffices, regoal, done, whole, sub, agg, stop, fld, no_more, and_then, of_opd, true_lit, returns, enter, alloc_all, pass_all, free_all, look_at, get, get_in, sets, no, block_ptr, plain, nothing, says, Stays, stay_dropped, walk_of, ends_at, proved_at, D, B, box_typed, box_out}
use mathlib.Core.Bool.{Bool}
use Rattle.core.proofs.alloc.Calls.{Goes-blank}
use Rattle.std.specs.Prelude.{Some}
use Rattle.rope_search_c.proofs.HandleSteps.{E, Raw, H, triple, triple_typed, handle_in}
use Rattle.rope_search_c.specs.contracts.handles.Handle.of_parts as f
use Rattle.rope_search_c.proofs.handles.Handle.of_parts.Statement.{statement}
use Rattle.rope_search_c.proofs.handles.Handle.of_parts.Code as code

abbrev stayed : Stays f.ended.signature.params f.ended.kept
stayed = (stay_dropped (plain (λ _. Raw)) no, tt)

pub of_parts_spec : {M : Type 1} → statement M
of_parts_spec 𝓤 𝓛 𝓜 𝓡 wired =
    let c = f.clauses 𝓛 𝓜.mem 𝓡.returns in let W = walk_of 𝓛 f.ended stayed c in let 𝓣 = tables 𝓤 𝓛.H 𝓜 𝓡 𝓡.env in
    proved_at 𝓛 f.ended stayed c 𝓜 𝓡 (Goes-blank 𝓛 0 (plain (λ _. Raw)) no (λ κs x w. tt), tt) f.Key.name code.function (code.unfolded 𝓤 𝓛.H 𝓜 𝓡 wired) (λ z are.
    let d : D E = record { ptr = z.0.3.0.ptr; alloc = z.0.3.0.alloc; value = z.0.3.0.value } in
    qed 𝓛 ((‵ ftrue ⊛ ‵ (fsep ((B E).own_val d z.0.4.0) ftrue)) ∷ raw (emp 𝓤) ∷ []) ∵
    split ! $ drop ! $ fsplit ! $ box_out E ! d z.0.4.0 (λ b o g at is fits.
    regoal ! (λ us. prop (WpFn 𝓤 𝓛.H 𝓣.C 𝓣.Λ code.function (us ++ []) (W.post z))) is refl $
    let made : H.Denot = record { ptr = block_ptr b o; is_open = true; alloc = d.alloc; held = Some d.value } in
    fjoin ! $ feq_i ! Bool true true refl $ fjoin ! $ handle_in ! made g $ move ! (1 ∷ 2 ∷ []) $ drop ! $ drop ! $
    enter ! _ _ _ _ _ $ alloc_all ! (λ l. pass_all ! refl (box_typed E g b o fits, tt) $
    sets ! (of_opd ! (get_in ! (fld ! refl (stop !)) (sub ! 0 refl (whole !)))) refl (tt, tt) $
    sets ! (of_opd ! (get_in ! (fld ! refl (stop !)) (sub ! 1 refl (whole !)))) refl fits $
    sets ! (of_opd ! (get ! refl)) refl (tt, tt) $
    sets ! (agg ! (and_then ! (get ! refl) (and_then ! (true_lit !) (and_then ! (get ! refl) (no_more !))))) refl (triple_typed (block_ptr b o) true g fits) $
    returns ! (look_at ! 0 refl) $ free_all ! refl $
    suffices ! _ (ends_at 𝓛 f.ended stayed c z (triple (block_ptr b o) true g) made (tt, tt) (tt, tt)) $ says ! refl $
    nothing ! $ nothing ! $ fjoin ! $ join ! $ nothing ! $ join ! $ done !)))
