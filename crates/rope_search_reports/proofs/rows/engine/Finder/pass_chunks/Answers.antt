use Rattle.std.proofs.Common.{◌≡◌, ap, subst, arith}
use Rattle.str_indices.specs.Text.{byte_len}
use Rattle.str_indices.proofs.TextLaws.{to_byte_idx_is_monotone-lines}
use Rattle.ropey.specs.Chunks.{is_break}
use Rattle.ropey.specs.Slices.{slice_text}
use Rattle.regex_cursor.proofs.TreeLaws.{finds_of_trees}
use Rattle.rope_search_reports.specs.Text.{bytes_of}
use Rattle.rope_search_reports.specs.Drafts.{FindsNoneBetween}
use Rattle.rope_search_reports.proofs.BareLemmas.{bare-from, from-empty, from-within, starts-within}
use Rattle.rope_search_reports.proofs.TextPlaces.{places}
use Rattle.rope_search_reports.proofs.rows.engine.Finder.pass_chunks.Goals as goal

pub returns-in-None-clause-bare : goal.returns-in-None-clause-bare
returns-in-None-clause-bare c = λ line low high. absurd (omega (arith, low, high))

pub returns-in-Some-clause-within : goal.returns-in-Some-clause-within
returns-in-Some-clause-within c =
    let text = c.args.walk.now.text in
    let own : slice_text c.text-text.result ≡ text = c.text-text.ensures in
    let start = c.byte_idx-start.result in
    let none = subst (λ t. FindsNoneBetween c.args.self.now (bytes_of t) start c.in-Some.place) own c.in-Some.ensures.no_match in
    from-within places c.args.self.now text c.args.walk.now.line start c.in-Some.place c.pass_to.result c.byte_idx-start.ensures none c.pass_to.ensures.count c.requires

pub returns-in-Some-clause-bare : goal.returns-in-Some-clause-bare
returns-in-Some-clause-bare c =
    let text = c.args.walk.now.text in
    let own : slice_text c.text-text.result ≡ text = c.text-text.ensures in
    let start = c.byte_idx-start.result in
    let none = subst (λ t. FindsNoneBetween c.args.self.now (bytes_of t) start c.in-Some.place) own c.in-Some.ensures.no_match in
    bare-from places c.args.self.now text c.args.walk.now.line start c.in-Some.place c.pass_to.result c.byte_idx-start.ensures none c.pass_to.ensures.count
    (to_byte_idx_is_monotone-lines is_break) finds_of_trees

pub returns-in-Some-clause-empty : goal.returns-in-Some-clause-empty
returns-in-Some-clause-empty c =
    let text = c.args.walk.now.text in
    let own : slice_text c.text-text.result ≡ text = c.text-text.ensures in
    let start = c.byte_idx-start.result in
    let none = subst (λ t. FindsNoneBetween c.args.self.now (bytes_of t) start c.in-Some.place) own c.in-Some.ensures.no_match in
    from-empty places c.args.self.now text c.args.walk.now.line start c.in-Some.place c.pass_to.result c.byte_idx-start.ensures none c.pass_to.ensures.count finds_of_trees

pub no_match_from-requires : goal.no_match_from-requires
no_match_from-requires c =
    let low = starts-within (to_byte_idx_is_monotone-lines is_break) c.args.walk.now.text c.args.walk.now.line (omega (arith, c.requires)) in
    omega (arith, low, c.byte_idx-start.ensures, ap byte_len c.text-text.ensures)
