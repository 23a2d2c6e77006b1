use Rattle.std.proofs.Common.{sym, ◌∙◌, arith}
use Rattle.ropey.specs.Chunks.{text_of}
use Rattle.rope_search_reports.specs.Text.{IsText}
use Rattle.rope_search.proofs.ListedReplacingLemmas.{asked-lines, enough-groups, enough-spans, rows-of-lists}
use Rattle.rope_search.proofs.PartLaws.{cutting_scalars}
use Rattle.rope_search.proofs.search.Search.listed_matches.Goals as goal

pub returns-in_err-groups-clause-count : goal.returns-in_err-groups-clause-count
returns-in_err-groups-clause-count c = λ lists are.
    let scalars : IsText (text_of c.args.text.now) = cutting_scalars c.args.text.now c.len_bytes.ensures.cut.cut in
    let asked = asked-lines c.args.template.now lists (sym c.names_explicit_groups.ensures ∙ c.if-names_explicit_groups.true) in
    let same = rows-of-lists c.one_list_of_groups.ensures c.groups_follow_each_other.ensures c.a_row_a_line.ensures (text_of c.args.text.now) c.args.self.now.finder scalars
    c.args.self.now.rows.items c.requires c.args.from c.args.to lists are in
    omega (arith, c.listed_groups.ensures.count, same, asked)

pub returns-then-names_explicit_groups-clause-count : goal.returns-then-names_explicit_groups-clause-count
returns-then-names_explicit_groups-clause-count c = λ lists are.
    let scalars : IsText (text_of c.args.text.now) = cutting_scalars c.args.text.now c.len_bytes.ensures.cut.cut in
    let asked = asked-lines c.args.template.now lists (sym c.names_explicit_groups.ensures ∙ c.if-names_explicit_groups.true) in
    let same = rows-of-lists c.one_list_of_groups.ensures c.groups_follow_each_other.ensures c.a_row_a_line.ensures (text_of c.args.text.now) c.args.self.now.finder scalars
    c.args.self.now.rows.items c.requires c.args.from c.args.to lists are in
    omega (arith, c.listed_groups.ensures.count, same, asked)

pub returns-clause-enough : goal.returns-clause-enough
returns-clause-enough c =
    let scalars : IsText (text_of c.args.text.now) = cutting_scalars c.args.text.now c.len_bytes.ensures.cut.cut in
    enough-spans c.spans_are_enough.ensures c.line_matches_follow.ensures (text_of c.args.text.now) c.args.self.now.finder c.args.from c.args.to c.args.template.now c.in_ok-spans.spans.items scalars
    (sym c.names_explicit_groups.ensures ∙ c.if-names_explicit_groups.false) c.in_ok-spans.ensures.spans

pub returns-then-names_explicit_groups-clause-enough : goal.returns-then-names_explicit_groups-clause-enough
returns-then-names_explicit_groups-clause-enough c =
    let scalars : IsText (text_of c.args.text.now) = cutting_scalars c.args.text.now c.len_bytes.ensures.cut.cut in
    enough-groups c.line_matches_follow.ensures (text_of c.args.text.now) c.args.self.now.finder c.args.from c.args.to c.args.template.now c.in_ok-groups.groups.items scalars c.in_ok-groups.ensures.groups
