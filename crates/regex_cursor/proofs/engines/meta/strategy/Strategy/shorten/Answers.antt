use Rattle.std.proofs.Common.{IfSome, refl, sym, ap, subst}
use Rattle.rx_input.specs.Inputs.{Asked}
use Rattle.rx_steps.specs.Searching.{search_of}
use Rattle.regex_cursor.specs.Backs.{EndsLast, IsWhole}
use Rattle.regex_cursor.specs.Strategies.{IsPart}
use Rattle.regex_cursor.proofs.BackLaws.{known_last}
use Rattle.regex_cursor.proofs.LastLaws.{part_of_found}
use Rattle.regex_cursor.proofs.StrategyLaws.{cut_search, whole_is_span}
use Rattle.regex_cursor.proofs.engines.meta.strategy.Strategy.shorten.Goals as goal

pub cut-whole-requires : goal.cut-whole-requires
cut-whole-requires g c = c.requires.part.holds.ordered

pub whole_match-found-requires-clause-known : goal.whole_match-found-requires-clause-known
whole_match-found-requires-clause-known g c =
    let i = c.args.input.now in
    let re = c.args.self.now.vm in
    let part = c.args.part in
    let search = cut_search re.utf8_empty i i c.cut-whole.new.input part.span (record { content = refl; is_sized = refl }) refl c.cut-whole.ensures.same c.cut-whole.ensures.asked in
    subst (λ o. IfSome o (EndsLast re.program re.utf8_empty c.cut-whole.new.input)) c.in-Some.is
    (known_last re.program re.utf8_empty (search_of re.utf8_empty i) c.cut-whole.new.input part.span part.pattern c.requires.part.match search (ap (λ (a : Asked). a.span.end) c.cut-whole.ensures.asked))

pub put_back-requires : goal.put_back-requires
put_back-requires g c =
    let i = c.args.input.now in
    let re = c.args.self.now.vm in
    whole_is_span re.program re.utf8_empty i i c.args.part.span c.cut-whole.result c.requires.part.holds refl c.cut-whole.ensures.whole

pub returns-in-Some-2-clause-part : goal.returns-in-Some-2-clause-part
returns-in-Some-2-clause-part g c =
    let i = c.args.input.now in
    let re = c.args.self.now.vm in
    let k = c.cut-whole.new.input in
    let found = c.in-Some-2.found in
    let search = cut_search re.utf8_empty i i k c.args.part.span (record { content = refl; is_sized = refl }) refl c.cut-whole.ensures.same c.cut-whole.ensures.asked in
    let whole = subst (λ o. IfSome o (IsWhole re.program re.utf8_empty k)) c.in-Some-2.is c.in_ok-found.ensures.whole in
    subst (λ x. IsPart re.program (search_of re.utf8_empty i) x) (sym c.of.ensures)
    (part_of_found re.program (search_of re.utf8_empty i) (search_of re.utf8_empty k) c.args.part found c.requires.part search whole)
