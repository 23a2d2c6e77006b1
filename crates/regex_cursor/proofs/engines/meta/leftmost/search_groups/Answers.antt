use Rattle.std.proofs.Common.{◌≡◌, None, length, replicate, refl, sym, ap, subst, ◌∙◌, arith}
use Rattle.std.proofs.lemmas.List.{length-replicate}
use Rattle.rx_util.specs.Captured.{Captured, match_found}
use Rattle.rx_steps.specs.Searching.{search_of}
use Rattle.rx_chunk.specs.Engines.{EngineFinds, TellsSlots}
use Rattle.rx_engine.specs.Engines.{Engine}
use Rattle.rx_chunk.specs.Searches as engines
use Rattle.rx_chunk.proofs.EngineLaws.{on_ok}
use Rattle.regex_cursor.specs.Strategies.{IsPartLeft}
use Rattle.regex_cursor.proofs.StrategyLaws.{cut_asked, cut_search, whole_is_span, nothing_whole, no_slots_told, whole_match, whole_slots, whole_inside}
use Rattle.regex_cursor.proofs.engines.meta.leftmost.search_groups.Goals as goal

pub cut-whole-requires : goal.cut-whole-requires
cut-whole-requires g c =
    let i = c.args.input.now in
    let re = c.args.strategy.now.vm in
    let is = subst (λ o. IsPartLeft re.program (search_of re.utf8_empty i) o) c.in-Some.is c.in_ok-find_part.ensures.part in
    is.holds.ordered

pub put_back-requires : goal.put_back-requires
put_back-requires g c =
    let i = c.args.input.now in
    let re = c.args.strategy.now.vm in
    let is = subst (λ o. IsPartLeft re.program (search_of re.utf8_empty i) o) c.in-Some.is c.in_ok-find_part.ensures.part in
    whole_is_span re.program re.utf8_empty i c.find_part.new.input c.in-Some.part.span c.cut-whole.result is.holds c.in_ok-find_part.ensures.asked c.cut-whole.ensures.whole

pub returns-in-Some-clause-answer : goal.returns-in-Some-clause-answer
returns-in-Some-clause-answer g c =
    let i = c.args.input.now in
    let re = c.args.strategy.now.vm in
    let part = c.in-Some.part.span in
    let is = subst (λ o. IsPartLeft re.program (search_of re.utf8_empty i) o) c.in-Some.is c.in_ok-find_part.ensures.part in
    let k = c.cut-whole.new.input in
    let search = cut_search re.utf8_empty i c.find_part.new.input k part c.in_ok-find_part.ensures.same c.in_ok-find_part.ensures.asked c.cut-whole.ensures.same c.cut-whole.ensures.asked in
    let asked = cut_asked i c.find_part.new.input k part c.in_ok-find_part.ensures.asked c.cut-whole.ensures.asked in
    let caps = c.search-told.new.caps in
    on_ok c.search-told.result
    (λ told. whole_slots re c.requires.first (search_of re.utf8_empty i) part is.holds i k caps.pattern caps.slots asked search (subst (λ (e : Engine). engines.TellsSlots e k caps.pattern caps.slots) c.vm.ensures.vm told))
    c.search-told.ensures.answer

pub returns-in-Some-clause-whole : goal.returns-in-Some-clause-whole
returns-in-Some-clause-whole g c = λ holds.
    let i = c.args.input.now in
    let re = c.args.strategy.now.vm in
    let part = c.in-Some.part.span in
    let is = subst (λ o. IsPartLeft re.program (search_of re.utf8_empty i) o) c.in-Some.is c.in_ok-find_part.ensures.part in
    let k = c.cut-whole.new.input in
    let search = cut_search re.utf8_empty i c.find_part.new.input k part c.in_ok-find_part.ensures.same c.in_ok-find_part.ensures.asked c.cut-whole.ensures.same c.cut-whole.ensures.asked in
    let asked = cut_asked i c.find_part.new.input k part c.in_ok-find_part.ensures.asked c.cut-whole.ensures.asked in
    let found = match_found c.search-told.new.caps in
    let groups = ap (λ (x : Captured). x.groups) c.note_nothing.ensures.nothing in
    let n = length c.args.caps.now.slots in
    let slots : length c.note_nothing.new.caps.slots ≡ n = ap (λ (x : Captured). length x.slots) c.note_nothing.ensures.nothing ∙ length-replicate n None in
    on_ok c.search-told.result
    (λ whole. record {
      match = whole_match re c.requires.first (search_of re.utf8_empty i) part is.holds i k found asked search (subst (λ (e : Engine). engines.TellsMatch e k found) c.vm.ensures.vm whole.match);
      ordered = whole.ordered;
      inside = λ a some. whole_inside i k part a.span.end asked is.holds.behind is.holds.before (whole.inside a some);
    })
    (c.search-told.ensures.whole (groups ∙ holds.0 ∙ sym (ap (λ (e : Engine). e.groups) c.vm.ensures.vm), omega (arith, slots, holds.1, ap (λ (e : Engine). length e.groups) c.vm.ensures.vm)))

pub returns-in-None-clause-answer : goal.returns-in-None-clause-answer
returns-in-None-clause-answer g c =
    let i = c.args.input.now in
    let re = c.args.strategy.now.vm in
    let none = subst (λ o. IsPartLeft re.program (search_of re.utf8_empty i) o) c.in-None.is c.in_ok-find_part.ensures.part in
    let n = length c.args.caps.now.slots in
    subst (λ (x : Captured). TellsSlots i.asked.earliest (EngineFinds re) (search_of re.utf8_empty i) x.pattern x.slots) (sym c.note_nothing.ensures.nothing) (no_slots_told re c.requires.first (search_of re.utf8_empty i) i.asked.earliest (replicate n None) n none refl)

pub returns-in-None-clause-whole : goal.returns-in-None-clause-whole
returns-in-None-clause-whole g c = λ holds.
    let i = c.args.input.now in
    let re = c.args.strategy.now.vm in
    let none = subst (λ o. IsPartLeft re.program (search_of re.utf8_empty i) o) c.in-None.is c.in_ok-find_part.ensures.part in
    nothing_whole re c.requires.first i c.note_nothing.new.caps c.args.caps.now.groups (length c.args.caps.now.slots) none c.note_nothing.ensures.nothing
