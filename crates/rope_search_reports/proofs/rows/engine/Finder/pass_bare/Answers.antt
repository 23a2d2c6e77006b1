use Rattle.std.proofs.Common.{sym, ap, ◌∙◌, arith}
use Rattle.str_indices.specs.Text.{byte_len}
use Rattle.str_indices.proofs.TextLaws.{to_byte_idx_is_monotone-lines}
use Rattle.ropey.specs.Chunks.{is_break}
use Rattle.regex_cursor.proofs.TreeLaws.{finds_of_trees}
use Rattle.rope_search_reports.proofs.BareLemmas.{ahead-within, bare-ahead, bare-empty}
use Rattle.rope_search_reports.specs.Position.{line_at}
use Rattle.rope_search_reports.proofs.WalkLemmas.{length-chars}
use Rattle.rope_search_reports.proofs.TextPlaces.{places}
use Rattle.rope_search_reports.proofs.rows.engine.Finder.pass_bare.Goals as goal

pub returns-in-None-clause-bare : goal.returns-in-None-clause-bare
returns-in-None-clause-bare c = λ line low high. absurd (omega (arith, low, high))

pub returns-then-place-rest-clause-within : goal.returns-then-place-rest-clause-within
returns-then-place-rest-clause-within c =
    ahead-within c.rest-rest.result.now c.args.walk.now.text c.args.walk.now.rest c.args.walk.now.line c.in-Some.place c.pass_in_chunk.result c.rest-rest.ensures.rest (c.pass_in_chunk.ensures.count ∙ ap (λ t. line_at t c.in-Some.place) (sym c.rest-rest.ensures.rest)) (c.rest-rest.ensures.few c.requires)

pub returns-then-place-rest-clause-fits : goal.returns-then-place-rest-clause-fits
returns-then-place-rest-clause-fits c =
    let inside = ahead-within c.rest-rest.result.now c.args.walk.now.text c.args.walk.now.rest c.args.walk.now.line c.in-Some.place c.pass_in_chunk.result c.rest-rest.ensures.rest (c.pass_in_chunk.ensures.count ∙ ap (λ t. line_at t c.in-Some.place) (sym c.rest-rest.ensures.rest)) (c.rest-rest.ensures.few c.requires) in
    omega (arith, inside, c.rest-rest.ensures.fits)

pub returns-then-place-rest-clause-bare : goal.returns-then-place-rest-clause-bare
returns-then-place-rest-clause-bare c =
    bare-ahead places (to_byte_idx_is_monotone-lines is_break) finds_of_trees c.args.self.now c.rest-rest.result.now c.args.walk.now.text c.args.walk.now.rest c.args.walk.now.line c.in-Some.place c.pass_in_chunk.result
    c.rest-rest.ensures.utf8 c.rest-rest.ensures.rest (c.pass_in_chunk.ensures.count ∙ ap (λ t. line_at t c.in-Some.place) (sym c.rest-rest.ensures.rest)) c.in-Some.ensures.no_match c.rest-rest.ensures.lines

pub returns-then-place-rest-clause-empty : goal.returns-then-place-rest-clause-empty
returns-then-place-rest-clause-empty c = λ _. bare-empty finds_of_trees c.args.self.now c.rest-rest.result.now c.in-Some.place c.in-Some.ensures.no_match

pub pass_in_chunk-requires-clause-within : goal.pass_in_chunk-requires-clause-within
pass_in_chunk-requires-clause-within c =
    omega (arith, c.if-place-rest.true, length-chars c.rest-rest.result.now c.rest-rest.ensures.utf8, ap byte_len c.rest-rest.ensures.rest)
