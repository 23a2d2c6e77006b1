use Rattle.std.proofs.Common.{◌≡◌, ◌+◌, ◌-◌, ap, sym, ◌∙◌, arith}
use Rattle.ropey.specs.Slices.{slice_text}
use Rattle.rope_search_reports.specs.Position.{line_at}
use Rattle.rope_search_reports.proofs.PlaceLemmas.{line_inside}
use Rattle.rope_search_reports.proofs.line_teller.LineTeller.known_line.Goals as goal

pub returns-then-byte_idx-self-clause-line : goal.returns-then-byte_idx-self-clause-line
returns-then-byte_idx-self-clause-line c =
    let text = slice_text c.self.inside.text in
    let start = c.self.inside.start in
    let place = c.args.byte_idx in
    let back : start + (place - start) ≡ place = omega (arith, c.if-self-byte_idx.true) in
    sym (c.self.invariant.1 (place - start) c.if-byte_idx-self.true) ∙ ap (line_at text) back ∙ ap (λ t. line_at t place) (ap (λ s. s.text) c.self.view_is)

pub returns-then-byte_idx-self-clause-few : goal.returns-then-byte_idx-self-clause-few
returns-then-byte_idx-self-clause-few c =
    let told = returns-then-byte_idx-self-clause-line c in
    omega (arith, told, line_inside c.args.self.now.text c.args.byte_idx)
