use Rattle.std.proofs.Common.{Some, sym, ap, subst, ◌∙◌}
use Rattle.rx_steps.specs.Searching.{anchoring_of, search_of}
use Rattle.rx_dfa.specs.Searching.{IsHalfAnswer}
use Rattle.rx_chunk.specs.Engines.{Finds, IsFound}
use Rattle.rx_matches.specs.Halves.{whole_of}
use Rattle.regex_cursor.specs.Strategies.{IsTold}
use Rattle.regex_cursor.proofs.AheadLaws.{whole_here}
use Rattle.regex_cursor.proofs.engines.meta.starts.match_here.Goals as goal

pub returns-then-start-offset-clause-whole : goal.returns-then-start-offset-clause-whole
returns-then-start-offset-clause-whole g c =
    let re = c.args.strategy.now.vm in
    let i = c.args.input.now in
    let s = search_of re.utf8_empty i in
    let half = c.in-Ends.half in
    let told = subst (λ x. IsTold re.program (search_of re.utf8_empty c.set_anchored.new.self) x) c.in-Ends.is c.in_ok-half.ensures.told in
    let answer = subst (λ k. IsHalfAnswer re.program (search_of re.utf8_empty k) (Some half)) c.set_anchored.ensures told in
    let same = c.whole.ensures ∙ ap (whole_of half) c.start-start.ensures in
    subst (λ m. IsFound (Finds re.program) s (Some m)) (sym same) (whole_here re.program s (ap anchoring_of c.requires.unanchored) half answer)
