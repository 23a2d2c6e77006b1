use Rattle.std.proofs.Common.{◌≡◌, ℕ, Some, refl, sym, ap₂, subst}
use Rattle.rx_util.specs.declared.search.Span.{Span}
use Rattle.rx_util.specs.Search.{Found}
use Rattle.rx_steps.specs.Searching.{search_of}
use Rattle.rx_chunk.specs.Engines.{EngineFinds}
use Rattle.rx_chunk.specs.Iterating.{IsFoundNext}
use Rattle.regex_cursor.proofs.ExactLaws.{found_ordered, match_comes, no_match_comes}
use Rattle.regex_cursor.proofs.engines.meta.exact.find_occurrence.Goals as goal

pub new-requires : goal.new-requires
new-requires g c = record { ordered = found_ordered c.in-Some.ensures.found refl }

pub returns-in-Some-clause-answer : goal.returns-in-Some-clause-answer
returns-in-Some-clause-answer g c = λ e last first literal.
    let i = c.args.input.now in
    let found : Found = record { pattern = 0; span = c.in-Some.span } in
    let is : found ≡ c.new.result = ap₂ (λ (k : ℕ) (x : Span). record { pattern = k; span = x }) (sym c.new.ensures.pattern) (sym c.new.ensures.span) in
    subst (λ (f : Found). IsFoundNext (EngineFinds e) (search_of e.utf8_empty i) last (Some f)) is
    (match_comes c.args.needle.now c.find_literal.ensures.needles e literal i c.requires.asks first last c.in-Some.span c.in-Some.ensures.found)

pub returns-in-None-clause-answer : goal.returns-in-None-clause-answer
returns-in-None-clause-answer g c = λ e last first literal.
    no_match_comes c.args.needle.now c.find_literal.ensures.needles e literal c.args.input.now c.requires.asks first last c.in-None.ensures.found
