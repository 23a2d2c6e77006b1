use Rattle.std.proofs.Common.{◌≡◌, ℕ, Some, length, sym, ap, ap₂, subst}
use Rattle.rx_util.specs.Search.{HalfFound}
use Rattle.rx_steps.specs.Searching.{search_of}
use Rattle.rx_chunk.specs.Engines.{EngineFinds}
use Rattle.regex_cursor.specs.Linear.{TellsWhatComes}
use Rattle.regex_cursor.proofs.ExactLaws.{found_fits, literal_comes, none_comes}
use Rattle.regex_cursor.proofs.engines.meta.exact.next_occurrence.Goals as goal

pub put_match-requires : goal.put_match-requires
put_match-requires g c =
    let fits = found_fits c.args.needle.now c.args.input.now c.in-Some.span c.in-Some.ensures.found c.position-at.ensures.holds.lawful.bound in
    record { start = fits.0; end = fits.1 }

pub returns-in-Some-clause-answer : goal.returns-in-Some-clause-answer
returns-in-Some-clause-answer g c =
    let e = c.args._re.now.engine in
    let last = c.args._last_end in
    let i = c.args.input.now in
    let slots = c.put_match.new.slots in
    let half : HalfFound = record { pattern = 0; offset = c.in-Some.span.end } in
    let is : half ≡ c.new.result = ap₂ (λ (k x : ℕ). record { pattern = k; offset = x }) (sym c.new.ensures.pattern) (sym c.new.ensures.offset) in
    subst (λ (h : HalfFound). TellsWhatComes (EngineFinds e) (search_of e.utf8_empty i) last (Some h) slots) is
    (literal_comes c.args.needle.now c.find_literal.ensures.needles e c.requires.literal i c.requires.asks c.requires.first last slots (length c.args.slots.now) c.in-Some.span c.put_match.ensures c.in-Some.ensures.found)

pub returns-in-None-clause-answer : goal.returns-in-None-clause-answer
returns-in-None-clause-answer g c =
    none_comes c.args.needle.now c.find_literal.ensures.needles c.args._re.now.engine c.requires.literal c.args.input.now c.requires.asks c.requires.first c.args._last_end c.clear_slots.new.slots (length c.args.slots.now) c.clear_slots.ensures.all c.in-None.ensures.found
