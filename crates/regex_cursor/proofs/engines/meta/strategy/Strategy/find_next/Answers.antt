use Rattle.rx_steps.specs.Searching.{search_of}
use Rattle.regex_cursor.proofs.ExactLaws.{next_ahead}
use Rattle.regex_cursor.proofs.engines.meta.strategy.Strategy.find_next.Goals as goal

pub returns-then-asks_in_slice-clause-ahead : goal.returns-then-asks_in_slice-clause-ahead
returns-then-asks_in_slice-clause-ahead g c =
    let vm = c.args.self.now.vm in
    let last = c.args.last_match_end in
    next_ahead vm (search_of vm.utf8_empty c.args.input.now) last c.find_occurrence.result
    (c.find_occurrence.ensures.answer vm last c.in-Some.ensures.first c.in-Some.ensures.is_literal)

pub returns-then-asks_in_slice-clause-same : goal.returns-then-asks_in_slice-clause-same
returns-then-asks_in_slice-clause-same g c =
    (c.args.input.now.asked.span.start, record { same = c.find_occurrence.ensures.same; asked = c.find_occurrence.ensures.asked })
