use Rattle.std.proofs.Common.{take, chars, refl, ap, subst, sym, ◌∙◌, arith}
use Rattle.ropey.specs.Chunks.{is_break}
use Rattle.ropey.specs.Slices.{slice_text}
use Rattle.str_indices.specs.FirstBreak.{IsFirstBreak}
use Rattle.str_indices.specs.Text.{breaks}
use Rattle.rope_search_reports.proofs.StartLemmas.{chunk-inside, last-here, line-here}
use Rattle.rope_search_reports.proofs.WalkLemmas.{from-start}
use Rattle.rope_search_reports.proofs.line_start.LineStart.line.Goals as goal

pub returns-in-Some-clause-own : goal.returns-in-Some-clause-own
returns-in-Some-clause-own c = λ line starts below.
    let rest = c.range_from-rest.ensures.value in
    let found = c.in-Some.found in
    ap chars (c.range.ensures.value ∙ from-start c.range_from-rest.result.now found.start ∙ ap (take found.start) rest)
    ∙ line-here (slice_text c.args.text.now) line c.args.self.now found.start found.end starts below (subst (λ bs. IsFirstBreak is_break bs found.start found.end) rest c.in-Some.ensures.first)

pub overflow_add-self : goal.overflow_add-self
overflow_add-self c =
    let inside = chunk-inside (slice_text c.args.text.now) c.requires.0 c.args.self.now c.requires.1 in
    omega (arith, inside, c.requires.1.fits)

pub returns-clause-own : goal.returns-clause-own
returns-clause-own c = λ line starts below.
    let rest = c.range_from-rest.ensures.value in
    ap chars rest
    ∙ last-here (slice_text c.args.text.now) line c.args.self.now starts below (omega (arith, c.if-self-len_bytes.false, c.len_bytes.ensures.bytes))
    (ap (λ bs. breaks is_break (chars bs)) (sym rest) ∙ c.in_default.ensures.none.0 refl)
