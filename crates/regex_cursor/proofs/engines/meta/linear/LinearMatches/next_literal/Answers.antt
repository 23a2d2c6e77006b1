use Rattle.std.proofs.Common.{◌≤◌, max, sym, ap, subst, ◌∙◌, arith}
use Rattle.rx_util.specs.Search.{HalfFound}
use Rattle.rx_input.specs.Inputs.{Asked}
use Rattle.rx_steps.specs.Searching.{search_of}
use Rattle.rx_chunk.specs.Iterating.{EndsAhead}
use Rattle.regex_cursor.specs.Linear.{LinearState}
use Rattle.regex_cursor.proofs.LinearLaws.{so, tells_ahead}
use Rattle.regex_cursor.proofs.engines.meta.linear.LinearMatches.next_literal.Goals as goal

pub go_on-requires-clause-within : goal.go_on-requires-clause-within
go_on-requires-clause-within g c =
    let e = c.args.re.now.engine in
    let inside = c.self.inside in
    let s = search_of e.utf8_empty inside.input in
    let half = c.next_occurrence-found.result.0 in
    let ahead = tells_ahead e s inside.last_end half c.next_occurrence-found.new.slots c.next_occurrence-found.ensures.answer in
    let asked = c.count_if.ensures.asked ∙ c.next_occurrence-found.ensures.asked in
    so (λ (h : HalfFound). EndsAhead inside.last_end s h.offset) (λ (h : HalfFound). h.offset ≤ c.count_if.new.input.asked.span.end) half
    (λ h ends. subst (λ k. h.offset ≤ k) (sym (ap (λ (a : Asked). a.span.end) asked)) ends.in_span) ahead

pub go_on-requires-clause-behind : goal.go_on-requires-clause-behind
go_on-requires-clause-behind g c =
    let e = c.args.re.now.engine in
    let inside = c.self.inside in
    let s = search_of e.utf8_empty inside.input in
    let half = c.next_occurrence-found.result.0 in
    let ahead = tells_ahead e s inside.last_end half c.next_occurrence-found.new.slots c.next_occurrence-found.ensures.answer in
    let asked = c.count_if.ensures.asked ∙ c.next_occurrence-found.ensures.asked in
    let slice = ap (λ (a : Asked). a.slice.start) asked in
    let further = c.self.invariant.0.further (ap (λ (x : LinearState). x.is_over) c.self.view_is ∙ c.requires.on) in
    so (λ (h : HalfFound). EndsAhead inside.last_end s h.offset) (λ (h : HalfFound). inside.first ≤ max c.count_if.new.input.asked.slice.start h.offset) half
    (λ h ends. omega (arith, ends.on, further, slice)) ahead
