use Rattle.std.proofs.Common.{◌≡◌, subst, sym, refl, ap, length, cond, ◌&&◌, ◌-◌, arith}
use Rattle.std.proofs.lemmas.Bool.{false≢true}
use Rattle.str_indices.specs.Bytes.{IsFirstPast, is_cr_lf_end}
use Rattle.str_indices.proofs.Indices.{RoundsDown}
use Rattle.str_indices.proofs.FirstBreaks.{found, none_found, some_found}
use Rattle.str_indices.proofs.line_index.first_break.Goals as goal

pub returns-then-last-bytes-clause-none : goal.returns-then-last-bytes-clause-none
returns-then-last-bytes-clause-none g c =
    let past = subst (λ bs. IsFirstPast (g.M.Measure.weights bs) 0 c.find_first-last.result) c.as_bytes-bytes.ensures.value c.find_first-last.ensures in
    (λ _. none_found _ _ g.met.M.BreakMeasure.at_last_bytes c.args.text.now c.find_first-last.result c.utf8.text past (omega (arith, ap length c.as_bytes-bytes.ensures.value)), λ _. refl)

pub returns-clause-first : goal.returns-clause-first
returns-clause-first g c =
    let bytes = c.args.text.now in
    let same = c.as_bytes-bytes.ensures.value in
    let at = c.floor_char_boundary.result in
    let below = c.floor_char_boundary.ensures in
    let rounded : RoundsDown bytes c.find_first-last.result at = record { bound = below.bound; boundary = below.boundary; nearest = below.nearest } in
    let past = subst (λ bs. IsFirstPast (g.M.Measure.weights bs) 0 c.find_first-last.result) same c.find_first-last.ensures in
    found _ _ g.met.M.BreakMeasure.at_last_bytes g.met.M.BreakMeasure.lf_beside_cr bytes c.find_first-last.result at _ c.utf8.text past
    (omega (arith, ap length same)) rounded (subst (λ bs. c.break_start-start.result ≡ cond (g.M.BreakMeasure.is_break 13 && is_cr_lf_end bs at) (at - 1) at) same c.break_start-start.ensures)

pub returns-clause-none : goal.returns-clause-none
returns-clause-none g c =
    (λ e. absurd (false≢true (sym e)), λ none. absurd (some_found _ c.args.text.now _ _ (returns-clause-first g c) none))
