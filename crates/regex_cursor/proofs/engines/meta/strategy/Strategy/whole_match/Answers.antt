use Rattle.std.proofs.Common.{◌≡◌, Some, sym, ap, subst, ◌∙◌}
use Rattle.rx_steps.specs.Searching.{search_of}
use Rattle.rx_chunk.specs.Engines.{Finds, IsFound}
use Rattle.rx_matches.specs.Halves.{StartsAtSpan, whole_of}
use Rattle.rx_matches.proofs.HalfLaws.{first_whole}
use Rattle.regex_cursor.proofs.BackLaws.{ends_half}
use Rattle.regex_cursor.proofs.engines.meta.strategy.Strategy.whole_match.Goals as goal

pub returns-then-starts_first-clause-whole : goal.returns-then-starts_first-clause-whole
returns-then-starts_first-clause-whole g c =
    let re = c.args.self.now.vm in
    let i = c.args.input.now in
    let s = search_of re.utf8_empty i in
    let half = c.new.result in
    let at : half.offset ≡ i.asked.span.end = c.new.ensures.offset ∙ c.end-end.ensures in
    let answer = ends_half re.program re.utf8_empty i c.args.pattern half c.new.ensures.pattern at c.requires.known in
    let first : StartsAtSpan s half.offset = subst (λ k. StartsAtSpan s k) (sym c.new.ensures.offset) (c.starts_first.ensures.yes c.if-starts_first.true re.utf8_empty) in
    subst (λ m. IsFound (Finds re.program) s (Some m)) (sym (c.whole.ensures ∙ ap (λ k. whole_of half k) c.start.ensures)) (first_whole re.program s half answer first)
