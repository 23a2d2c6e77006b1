use Rattle.std.proofs.Common.{Some, None, Ok, Err, refl, ap, subst, ◌∙◌, arith}
use Rattle.std.proofs.RetainMut.{Called-Mut}
use Rattle.std.proofs.lemmas.Result.{err_from_is_err_and}
use Rattle.rx_input.specs.Searchers.{SearcherState, HasPassedMatch, finder_of, Advances, IsEmptyAtLast, end_of_match}
use Rattle.rx_input.proofs.SearcherLaws.{err_told, none_told, found_told, err_further, none_further, found_further, may_start}
use Rattle.rx_input.proofs.iter.Searcher.try_advance.Goals as goal

-- ---- by one call
pub returns-in_err-found : goal.returns-in_err-found
returns-in_err-found g c =
    let tells = finder_of g.F.FnMut g.I.Searched.state in
    let m : SearcherState = record { input = g.I.Searched.state c.self.inside.input; last_match_end = c.self.inside.last_match_end } in
    let told : tells c.args.finder c.finder.new.self m.input (Err c.in_err-found.field-0.0) (g.I.Searched.state c.finder.new.arg2) = (c.self.inside.input, c.finder.new.arg2, Called-Mut g.F.FnMut c.in_err-found.ensures, refl, refl) in
    let p = err_from_is_err_and c.from_residual.result c.from_residual.ensures.1 in
    rw (p.1, p.2) (record { next = record { left = c.finder.new.self; advances = subst (λ x. Advances tells end_of_match IsEmptyAtLast c.args.finder c.finder.new.self x (Err c.in_err-found.field-0.0) (record m { input = g.I.Searched.state c.finder.new.arg2 })) c.self.view_is (err_told tells end_of_match IsEmptyAtLast c.args.finder c.finder.new.self m (record m { input = g.I.Searched.state c.finder.new.arg2 }) c.in_err-found.field-0.0 (g.I.Searched.state c.finder.new.arg2) told refl) } })

pub returns-in_default : goal.returns-in_default
returns-in_default g c =
    let tells = finder_of g.F.FnMut g.I.Searched.state in
    let m : SearcherState = record { input = g.I.Searched.state c.self.inside.input; last_match_end = c.self.inside.last_match_end } in
    let told : tells c.args.finder c.finder.new.self m.input (Ok c.in_ok-found.field-0) (g.I.Searched.state c.finder.new.arg2) = (c.self.inside.input, c.finder.new.arg2, Called-Mut g.F.FnMut c.in_ok-found.ensures, refl, refl) in
    record { next = record { left = c.finder.new.self; advances = subst (λ x. Advances tells end_of_match IsEmptyAtLast c.args.finder c.finder.new.self x (Ok None) (record m { input = g.I.Searched.state c.finder.new.arg2 })) c.self.view_is (none_told tells end_of_match IsEmptyAtLast c.args.finder c.finder.new.self m (record m { input = g.I.Searched.state c.finder.new.arg2 }) c.in_ok-found.field-0 (g.I.Searched.state c.finder.new.arg2) c.in_default.is told refl) } }

pub pass-requires : goal.pass-requires
pass-requires g c =
    let tells = finder_of g.F.FnMut g.I.Searched.state in
    let m : SearcherState = record { input = g.I.Searched.state c.self.inside.input; last_match_end = c.self.inside.last_match_end } in
    let told : tells c.args.finder c.finder.new.self m.input (Ok c.in_ok-found.field-0) (g.I.Searched.state c.finder.new.arg2) = (c.self.inside.input, c.finder.new.arg2, Called-Mut g.F.FnMut c.in_ok-found.ensures, refl, refl) in
    let ends = may_start tells end_of_match c.args.finder c.finder.new.self m.input (g.I.Searched.state c.finder.new.arg2) c.in_ok-found.field-0 c.in-Some.found c.requires.finder.inside told c.in-Some.is in
    omega (arith, ends.before_end, c.end-end.ensures.end)

pub returns-then-not-is_empty_at_last : goal.returns-then-not-is_empty_at_last
returns-then-not-is_empty_at_last g c =
    let tells = finder_of g.F.FnMut g.I.Searched.state in
    let m : SearcherState = record { input = g.I.Searched.state c.self.inside.input; last_match_end = c.self.inside.last_match_end } in
    let told : tells c.args.finder c.finder.new.self m.input (Ok c.in_ok-found.field-0) (g.I.Searched.state c.finder.new.arg2) = (c.self.inside.input, c.finder.new.arg2, Called-Mut g.F.FnMut c.in_ok-found.ensures, refl, refl) in
    let passed = subst (λ k. HasPassedMatch (g.I.Searched.state c.finder.new.arg2) k c.pass.new.self) c.end-end.ensures.end c.pass.ensures in
    record { next = record { left = c.finder.new.self; advances = subst (λ x. Advances tells end_of_match IsEmptyAtLast c.args.finder c.finder.new.self x (Ok (Some c.in-Some.found)) c.pass.new.self) c.self.view_is (found_told tells end_of_match IsEmptyAtLast c.args.finder c.finder.new.self m c.pass.new.self c.in_ok-found.field-0 c.in-Some.found (g.I.Searched.state c.finder.new.arg2) c.in-Some.is told (c.is_empty_at_last.ensures.elsewhere c.if-not-is_empty_at_last.true) passed) } }

-- ---- by a second one
pub step-requires-clause-inside : goal.step-requires-clause-inside
step-requires-clause-inside g c =
    let tells = finder_of g.F.FnMut g.I.Searched.state in
    let m : SearcherState = record { input = g.I.Searched.state c.self.inside.input; last_match_end = c.self.inside.last_match_end } in
    let told : tells c.args.finder c.finder.new.self m.input (Ok c.in_ok-found.field-0) (g.I.Searched.state c.finder.new.arg2) = (c.self.inside.input, c.finder.new.arg2, Called-Mut g.F.FnMut c.in_ok-found.ensures, refl, refl) in
    let ends = may_start tells end_of_match c.args.finder c.finder.new.self m.input (g.I.Searched.state c.finder.new.arg2) c.in_ok-found.field-0 c.in-Some.found c.requires.finder.inside told c.in-Some.is in
    omega (arith, ends.behind_start, ends.before_end)

pub step-requires-clause-fits : goal.step-requires-clause-fits
step-requires-clause-fits g c =
    let tells = finder_of g.F.FnMut g.I.Searched.state in
    let m : SearcherState = record { input = g.I.Searched.state c.self.inside.input; last_match_end = c.self.inside.last_match_end } in
    let told : tells c.args.finder c.finder.new.self m.input (Ok c.in_ok-found.field-0) (g.I.Searched.state c.finder.new.arg2) = (c.self.inside.input, c.finder.new.arg2, Called-Mut g.F.FnMut c.in_ok-found.ensures, refl, refl) in
    let ends = may_start tells end_of_match c.args.finder c.finder.new.self m.input (g.I.Searched.state c.finder.new.arg2) c.in_ok-found.field-0 c.in-Some.found c.requires.finder.inside told c.in-Some.is in
    omega (arith, ends.behind_start, ends.fits)

pub returns-in_err-further : goal.returns-in_err-further
returns-in_err-further g c =
    let tells = finder_of g.F.FnMut g.I.Searched.state in
    let m : SearcherState = record { input = g.I.Searched.state c.self.inside.input; last_match_end = c.self.inside.last_match_end } in
    let told : tells c.args.finder c.finder.new.self m.input (Ok c.in_ok-found.field-0) (g.I.Searched.state c.finder.new.arg2) = (c.self.inside.input, c.finder.new.arg2, Called-Mut g.F.FnMut c.in_ok-found.ensures, refl, refl) in
    let second : tells c.finder.new.self c.finder-2.new.self c.step.new.self.input (Err c.in_err-further.field-0.0) (g.I.Searched.state c.finder-2.new.arg2) = (c.self-2.inside.input, c.finder-2.new.arg2, Called-Mut g.F.FnMut c.in_err-further.ensures, ap (λ s. s.input) c.self-2.view_is, refl) in
    let p = err_from_is_err_and c.from_residual-in_err-further.result c.from_residual-in_err-further.ensures.1 in
    rw (p.1, p.2) (record { next = record { left = c.finder-2.new.self; advances = subst (λ x. Advances tells end_of_match IsEmptyAtLast c.args.finder c.finder-2.new.self x (Err c.in_err-further.field-0.0) (record { input = g.I.Searched.state c.finder-2.new.arg2; last_match_end = c.self-2.inside.last_match_end })) c.self.view_is (err_further tells end_of_match IsEmptyAtLast c.args.finder c.finder-2.new.self m (record { input = g.I.Searched.state c.finder-2.new.arg2; last_match_end = c.self-2.inside.last_match_end }) c.finder.new.self c.in_ok-found.field-0 c.in-Some.found (g.I.Searched.state c.finder.new.arg2) c.step.new.self.input c.in-Some.is told (c.is_empty_at_last.ensures.here c.if-not-is_empty_at_last.false) c.step.ensures.further c.in_err-further.field-0.0 (g.I.Searched.state c.finder-2.new.arg2) second (ap (λ last. record { input = g.I.Searched.state c.finder-2.new.arg2; last_match_end = last }) (ap (λ s. s.last_match_end) c.self-2.view_is ∙ c.step.ensures.last))) } })

pub returns-in_default-2 : goal.returns-in_default-2
returns-in_default-2 g c =
    let tells = finder_of g.F.FnMut g.I.Searched.state in
    let m : SearcherState = record { input = g.I.Searched.state c.self.inside.input; last_match_end = c.self.inside.last_match_end } in
    let told : tells c.args.finder c.finder.new.self m.input (Ok c.in_ok-found.field-0) (g.I.Searched.state c.finder.new.arg2) = (c.self.inside.input, c.finder.new.arg2, Called-Mut g.F.FnMut c.in_ok-found.ensures, refl, refl) in
    let second : tells c.finder.new.self c.finder-2.new.self c.step.new.self.input (Ok c.in_ok-further.field-0) (g.I.Searched.state c.finder-2.new.arg2) = (c.self-2.inside.input, c.finder-2.new.arg2, Called-Mut g.F.FnMut c.in_ok-further.ensures, ap (λ s. s.input) c.self-2.view_is, refl) in
    record { next = record { left = c.finder-2.new.self; advances = subst (λ x. Advances tells end_of_match IsEmptyAtLast c.args.finder c.finder-2.new.self x (Ok None) (record { input = g.I.Searched.state c.finder-2.new.arg2; last_match_end = c.self-2.inside.last_match_end })) c.self.view_is (none_further tells end_of_match IsEmptyAtLast c.args.finder c.finder-2.new.self m (record { input = g.I.Searched.state c.finder-2.new.arg2; last_match_end = c.self-2.inside.last_match_end }) c.finder.new.self c.in_ok-found.field-0 c.in-Some.found (g.I.Searched.state c.finder.new.arg2) c.step.new.self.input c.in-Some.is told (c.is_empty_at_last.ensures.here c.if-not-is_empty_at_last.false) c.step.ensures.further c.in_ok-further.field-0 (g.I.Searched.state c.finder-2.new.arg2) c.in_default-2.is second (ap (λ last. record { input = g.I.Searched.state c.finder-2.new.arg2; last_match_end = last }) (ap (λ s. s.last_match_end) c.self-2.view_is ∙ c.step.ensures.last))) } }

pub pass-requires-2 : goal.pass-requires-2
pass-requires-2 g c =
    let tells = finder_of g.F.FnMut g.I.Searched.state in
    let second : tells c.finder.new.self c.finder-2.new.self c.step.new.self.input (Ok c.in_ok-further.field-0) (g.I.Searched.state c.finder-2.new.arg2) = (c.self-2.inside.input, c.finder-2.new.arg2, Called-Mut g.F.FnMut c.in_ok-further.ensures, ap (λ s. s.input) c.self-2.view_is, refl) in
    let ends = may_start tells end_of_match c.finder.new.self c.finder-2.new.self c.step.new.self.input (g.I.Searched.state c.finder-2.new.arg2) c.in_ok-further.field-0 c.in-Some-2.further c.requires.finder.inside second c.in-Some-2.is in
    omega (arith, ends.before_end, c.end-end_further.ensures.end)

pub returns : goal.returns
returns g c =
    let tells = finder_of g.F.FnMut g.I.Searched.state in
    let m : SearcherState = record { input = g.I.Searched.state c.self.inside.input; last_match_end = c.self.inside.last_match_end } in
    let told : tells c.args.finder c.finder.new.self m.input (Ok c.in_ok-found.field-0) (g.I.Searched.state c.finder.new.arg2) = (c.self.inside.input, c.finder.new.arg2, Called-Mut g.F.FnMut c.in_ok-found.ensures, refl, refl) in
    let second : tells c.finder.new.self c.finder-2.new.self c.step.new.self.input (Ok c.in_ok-further.field-0) (g.I.Searched.state c.finder-2.new.arg2) = (c.self-2.inside.input, c.finder-2.new.arg2, Called-Mut g.F.FnMut c.in_ok-further.ensures, ap (λ s. s.input) c.self-2.view_is, refl) in
    let passed = subst (λ k. HasPassedMatch (g.I.Searched.state c.finder-2.new.arg2) k c.pass-2.new.self) c.end-end_further.ensures.end c.pass-2.ensures in
    record { next = record { left = c.finder-2.new.self; advances = subst (λ x. Advances tells end_of_match IsEmptyAtLast c.args.finder c.finder-2.new.self x (Ok (Some c.in-Some-2.further)) c.pass-2.new.self) c.self.view_is (found_further tells end_of_match IsEmptyAtLast c.args.finder c.finder-2.new.self m c.pass-2.new.self c.finder.new.self c.in_ok-found.field-0 c.in-Some.found (g.I.Searched.state c.finder.new.arg2) c.step.new.self.input c.in-Some.is told (c.is_empty_at_last.ensures.here c.if-not-is_empty_at_last.false) c.step.ensures.further c.in_ok-further.field-0 c.in-Some-2.further (g.I.Searched.state c.finder-2.new.arg2) c.in-Some-2.is second passed) } }
