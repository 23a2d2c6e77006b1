use Rattle.rx_utf8.specs.Automata.{is_in}
use Rattle.rx_walks.proofs.ProgramTurnLaws.{program_turns_in_bytes}
use Rattle.rx_program.specs.Programs.{character_program}
use Rattle.rx_program.specs.Reversed.{back_automata_of}
use Rattle.rx_program.proofs.ReverseLaws.{nodes_are, characters_are, reads_backwards, walks_are}
use Rattle.rx_program.proofs.program.Program.reversed.Goals as goal

pub returns-clause-characters : goal.returns-clause-characters
returns-clause-characters c =
    let p = c.args.self.now in
    characters_are p _ c.states.result.now c.patterns.result.now c.patterns-5.result.now c.in-Some.start c.states.ensures.states c.patterns.ensures c.patterns-5.ensures
    (nodes_are p.states p.patterns c.new-states.result.items c.push_arrivals.new.states.items c.push_edges_back.new.states.items c.push_matches.new.states.items c.push_starts.new.states.items
    c.states-2.result.now c.states-3.result.now c.states-4.result.now c.patterns-2.result.now c.patterns-3.result.now c.patterns-4.result.now
    c.new-states.ensures.items c.states-2.ensures.states c.patterns-2.ensures c.states-3.ensures.states c.patterns-3.ensures c.states-4.ensures.states c.patterns-4.ensures
    c.in_ok-push_arrivals.ensures.nodes c.in_ok-push_edges_back.ensures.nodes c.in_ok-push_matches.ensures.nodes c.in_ok-push_starts.ensures.nodes)
    c.in-Some.ensures.start c.new.ensures c.in_ok-numbers_from.ensures c.line_terminator.ensures

pub returns-clause-reads : goal.returns-clause-reads
returns-clause-reads c = reads_backwards _ c.in_ok-push_starts.ensures.reads

pub returns-clause-walks : goal.returns-clause-walks
returns-clause-walks c = walks_are c.args.self.now _ (returns-clause-characters c) (returns-clause-reads c) (λ back. program_turns_in_bytes is_in (character_program c.args.self.now) (back_automata_of back))
