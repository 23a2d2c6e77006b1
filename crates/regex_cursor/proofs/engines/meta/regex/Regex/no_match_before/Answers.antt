use Rattle.std.proofs.Common.{◌≡◌, refl, sym, ap, subst, ◌∙◌, arith}
use Rattle.rx_input.specs.Inputs.{Asked}
use Rattle.rx_program.specs.Programs.{character_program}
use Rattle.rx_literals.specs.ByteSets.{MatchesBeginIn}
use Rattle.rx_literals.specs.Requirements.{MatchesContain}
use Rattle.regex_cursor.specs.Patterns.{HasNoMatchBetween}
use Rattle.regex_cursor.specs.Regexes.{Engine, HasNoFindBetween, RegexView}
use Rattle.regex_cursor.specs.Strategies.{Engines}
use Rattle.regex_cursor.proofs.BetweenLaws.{none_at_all, none_before, found_within, none_between, none_by_program, no_byte_between, no_byte_by_program}
use Rattle.rx_literals.proofs.RequirementLaws.{none_contained_no_match}
use Rattle.regex_cursor.proofs.engines.meta.regex.Regex.no_match_before.Goals as goal

pub returns-in-Some-clause-no_match : goal.returns-in-Some-clause-no_match
returns-in-Some-clause-no_match g c = λ text built.
    let i = c.args.input.now in
    let bytes = c.in-Some.bytes.now in
    let vm : c.deref.result.now.vm ≡ c.args.self.now.engine = ap (λ (e : Engines). e.vm) c.deref.ensures ∙ ap (λ (re : RegexView). re.engine) c.self.view_is in
    let begin : MatchesBeginIn bytes (character_program c.args.self.now.engine.program) =
    subst (λ (e : Engine). MatchesBeginIn bytes (character_program e.program)) vm c.in-Some.ensures.begin in
    no_byte_between bytes i.cursor.content i.asked.span.start c.no_byte_before.result i.asked.span.end
    c.no_byte_before.ensures.within c.no_byte_before.ensures.none text c.args.self.now built begin

pub returns-in-Some-clause-no_find : goal.returns-in-Some-clause-no_find
returns-in-Some-clause-no_find g c =
    let i = c.args.input.now in
    let bytes = c.in-Some.bytes.now in
    let vm : c.deref.result.now.vm ≡ c.args.self.now.engine = ap (λ (e : Engines). e.vm) c.deref.ensures ∙ ap (λ (re : RegexView). re.engine) c.self.view_is in
    let begin : MatchesBeginIn bytes (character_program c.args.self.now.engine.program) =
    subst (λ (e : Engine). MatchesBeginIn bytes (character_program e.program)) vm c.in-Some.ensures.begin in
    no_byte_by_program bytes i.cursor.content i.asked.span.start c.no_byte_before.result i.asked.span.end
    c.no_byte_before.ensures.within c.no_byte_before.ensures.none c.args.self.now.engine begin

pub returns-in-Some-find_literal-clause-no_match : goal.returns-in-Some-find_literal-clause-no_match
returns-in-Some-find_literal-clause-no_match g c = λ text built.
    let i = c.args.input.now in
    let needles = c.in_ok-prefilter.prefilter.now in
    let vm : c.deref-2.result.now.vm ≡ c.args.self.now.engine = ap (λ (e : Engines). e.vm) c.deref-2.ensures ∙ ap (λ (re : RegexView). re.engine) c.self.view_is in
    let contain : MatchesContain needles (character_program c.args.self.now.engine.program) =
    subst (λ (e : Engine). MatchesContain needles (character_program e.program)) vm c.in_ok-prefilter.ensures.contained in
    none_between needles c.find_literal.ensures.needles none_contained_no_match i.cursor.content i.asked.span.start c.in-Some-find_literal.span.start i.asked.span.end
    (found_within c.in-Some-find_literal.ensures.found refl) (none_before c.in-Some-find_literal.ensures.found refl) text c.args.self.now built contain

pub returns-in-Some-find_literal-clause-no_find : goal.returns-in-Some-find_literal-clause-no_find
returns-in-Some-find_literal-clause-no_find g c =
    let i = c.args.input.now in
    let needles = c.in_ok-prefilter.prefilter.now in
    let vm : c.deref-2.result.now.vm ≡ c.args.self.now.engine = ap (λ (e : Engines). e.vm) c.deref-2.ensures ∙ ap (λ (re : RegexView). re.engine) c.self.view_is in
    let contain : MatchesContain needles (character_program c.args.self.now.engine.program) =
    subst (λ (e : Engine). MatchesContain needles (character_program e.program)) vm c.in_ok-prefilter.ensures.contained in
    none_by_program needles c.find_literal.ensures.needles none_contained_no_match i.cursor.content i.asked.span.start c.in-Some-find_literal.span.start i.asked.span.end
    (found_within c.in-Some-find_literal.ensures.found refl) (none_before c.in-Some-find_literal.ensures.found refl) c.args.self.now.engine contain

pub returns-in-Some-find_literal-clause-within : goal.returns-in-Some-find_literal-clause-within
returns-in-Some-find_literal-clause-within g c = found_within c.in-Some-find_literal.ensures.found refl

pub returns-in-None-clause-no_match : goal.returns-in-None-clause-no_match
returns-in-None-clause-no_match g c = λ text built.
    let i = c.args.input.now in
    let needles = c.in_ok-prefilter.prefilter.now in
    let vm : c.deref-2.result.now.vm ≡ c.args.self.now.engine = ap (λ (e : Engines). e.vm) c.deref-2.ensures ∙ ap (λ (re : RegexView). re.engine) c.self.view_is in
    let contain : MatchesContain needles (character_program c.args.self.now.engine.program) =
    subst (λ (e : Engine). MatchesContain needles (character_program e.program)) vm c.in_ok-prefilter.ensures.contained in
    let place : c.end.result ≡ i.asked.span.end = c.end.ensures ∙ ap (λ (a : Asked). a.span.end) c.in-None.ensures.asked in
    subst (λ n. HasNoMatchBetween built.tree i.cursor.content i.asked.span.start n) (sym place)
    (none_between needles c.find_literal.ensures.needles none_contained_no_match i.cursor.content i.asked.span.start i.asked.span.end i.asked.span.end
    (omega arith) (none_at_all c.in-None.ensures.found refl) text c.args.self.now built contain)

pub returns-in-None-clause-no_find : goal.returns-in-None-clause-no_find
returns-in-None-clause-no_find g c =
    let i = c.args.input.now in
    let needles = c.in_ok-prefilter.prefilter.now in
    let vm : c.deref-2.result.now.vm ≡ c.args.self.now.engine = ap (λ (e : Engines). e.vm) c.deref-2.ensures ∙ ap (λ (re : RegexView). re.engine) c.self.view_is in
    let contain : MatchesContain needles (character_program c.args.self.now.engine.program) =
    subst (λ (e : Engine). MatchesContain needles (character_program e.program)) vm c.in_ok-prefilter.ensures.contained in
    let place : c.end.result ≡ i.asked.span.end = c.end.ensures ∙ ap (λ (a : Asked). a.span.end) c.in-None.ensures.asked in
    subst (λ n. HasNoFindBetween c.args.self.now.engine i.cursor.content i.asked.span.start n) (sym place)
    (none_by_program needles c.find_literal.ensures.needles none_contained_no_match i.cursor.content i.asked.span.start i.asked.span.end i.asked.span.end
    (omega arith) (none_at_all c.in-None.ensures.found refl) c.args.self.now.engine contain)
