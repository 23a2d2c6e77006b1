use Rattle.std.proofs.Common.{Some, sym, ap, ap₂, subst, refl, ◌∙◌}
use Rattle.std.proofs.lemmas.Option.{same_Some}
use Rattle.rx_util.specs.Search.{HalfFound}
use Rattle.rx_input.specs.Searchers.{EndsInside}
use Rattle.rx_steps.specs.Searching.{search_of}
use Rattle.rx_matches.proofs.HalfLaws.{whole_inside}
use Rattle.regex_cursor.specs.Regexes.{TellsHalf, half_of}
use Rattle.regex_cursor.specs.Strategies.{IsLeft}
use Rattle.regex_cursor.proofs.BackLaws.{found_told, literal_half, part_ends_inside, part_told}
use Rattle.regex_cursor.proofs.StrategyLaws.{literal_inside}
use Rattle.regex_cursor.proofs.LowerLaws.{inside_law}
use Rattle.regex_cursor.proofs.engines.meta.leftmost.find_half.Goals as goal

pub returns-in-Some-clause-answer : goal.returns-in-Some-clause-answer
returns-in-Some-clause-answer g c =
    let i = c.args.input.now in
    let re = c.args.strategy.now.vm in
    let is = subst (λ left. IsLeft re.program (search_of re.utf8_empty i) left) c.in-In.is c.in_ok-ask.ensures.left in
    let told = part_told re c.requires.first i c.in-In.part c.in-Some.pattern is c.in-Some.is in
    subst (λ (h : HalfFound). TellsHalf re i (Some h)) (ap₂ (λ k e. record { pattern = k; offset = e }) (sym c.new-in-Some.ensures.pattern) (sym c.new-in-Some.ensures.offset)) told

pub returns-in-Some-clause-inside : goal.returns-in-Some-clause-inside
returns-in-Some-clause-inside g c = λ h some.
    let i = c.args.input.now in
    let re = c.args.strategy.now.vm in
    let is = subst (λ left. IsLeft re.program (search_of re.utf8_empty i) left) c.in-In.is c.in_ok-ask.ensures.left in
    let ends = part_ends_inside re c.requires.first i c.in-In.part c.in-Some.pattern is c.in-Some.is inside_law c.ask.ensures.bound in
    subst (λ e. EndsInside i e) (sym c.new-in-Some.ensures.offset ∙ ap (λ (x : HalfFound). x.offset) (same_Some c.new-in-Some.result h some)) ends

pub returns-in-Match-clause-answer : goal.returns-in-Match-clause-answer
returns-in-Match-clause-answer g c =
    let i = c.args.input.now in
    let re = c.args.strategy.now.vm in
    let literal = subst (λ left. IsLeft re.program (search_of re.utf8_empty i) left) c.in-Match.is c.in_ok-ask.ensures.left in
    literal_half re c.requires.first i c.in-Match.span c.new.result c.new.ensures.pattern c.new.ensures.offset literal

pub returns-in-Match-clause-inside : goal.returns-in-Match-clause-inside
returns-in-Match-clause-inside g c = λ h some.
    let i = c.args.input.now in
    let re = c.args.strategy.now.vm in
    let literal = subst (λ left. IsLeft re.program (search_of re.utf8_empty i) left) c.in-Match.is c.in_ok-ask.ensures.left in
    literal_inside re.program re.utf8_empty i c.in-Match.span h.offset (sym (ap (λ (x : HalfFound). x.offset) (same_Some c.new.result h some)) ∙ c.new.ensures.offset) inside_law c.ask.ensures.bound literal

pub returns-in-Found-clause-answer : goal.returns-in-Found-clause-answer
returns-in-Found-clause-answer g c =
    let i = c.args.input.now in
    let re = c.args.strategy.now.vm in
    let is = subst (λ left. IsLeft re.program (search_of re.utf8_empty i) left) c.in-Found.is c.in_ok-ask.ensures.left in
    record {
      found = Some c.in-Found.found;
      tells = found_told re c.requires.first (search_of re.utf8_empty i) c.in-Found.found i.asked.earliest is;
      half_is = c.half_of.ensures;
    }

pub returns-in-Found-clause-inside : goal.returns-in-Found-clause-inside
returns-in-Found-clause-inside g c = λ h some.
    let i = c.args.input.now in
    let re = c.args.strategy.now.vm in
    let found = c.in-Found.found in
    let is = subst (λ left. IsLeft re.program (search_of re.utf8_empty i) left) c.in-Found.is c.in_ok-ask.ensures.left in
    let ends = whole_inside re.program re.utf8_empty i (Some found) c.ask.ensures.bound is found refl in
    subst (λ e. EndsInside i e) (ap (λ (x : HalfFound). x.offset) (same_Some (half_of found) h (sym c.half_of.ensures ∙ some))) ends
