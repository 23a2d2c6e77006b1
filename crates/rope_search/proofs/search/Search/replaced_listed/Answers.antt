use Rattle.std.proofs.Common.{IfOk, ap, subst, arith}
use Rattle.std.specs.Str.{chars}
use Rattle.ropey.specs.Chunks.{text_of}
use Rattle.rope_search_templates.specs.Matches.{matched}
use Rattle.rope_search.specs.ListedReplacing.{lines_for_groups}
use Rattle.rope_search.specs.Stretches.{ReplacesIn}
use Rattle.rope_search.proofs.ListedReplacingLemmas.{fits-listed, listed-told, long-listed, rows-listed}
use Rattle.rope_search.proofs.search.Search.replaced_listed.Goals as goal

pub with_matches_replaced-requires-clause-matches : goal.with_matches_replaced-requires-clause-matches
with_matches_replaced-requires-clause-matches c = c.in_ok-matches.ensures.enough.stand

pub returns-clause-replaced : goal.returns-clause-replaced
returns-clause-replaced c =
    listed-told (text_of c.args.old.now) c.args.self.now.finder c.args.from c.args.to (chars c.args.template.now) c.new-template.result c.new-template.ensures (matched c.in_ok-matches.matches)
    c.in_ok-matches.ensures.enough c.with_matches_replaced.result c.with_matches_replaced.ensures.counted c.with_matches_replaced.ensures.text c.with_matches_replaced.ensures.changes

pub returns-clause-size : goal.returns-clause-size
returns-clause-size c = λ size.
    long-listed (text_of c.args.old.now) c.args.self.now.finder c.args.from c.args.to (chars c.args.template.now) c.new-template.result c.new-template.ensures (matched c.in_ok-matches.matches)
    c.in_ok-matches.ensures.enough c.args.limits.text (c.with_matches_replaced.ensures.size.0 size)

pub returns-clause-fits : goal.returns-clause-fits
returns-clause-fits c =
    fits-listed (text_of c.args.old.now) c.args.self.now.finder c.args.from c.args.to (chars c.args.template.now) c.new-template.result c.new-template.ensures (matched c.in_ok-matches.matches)
    c.in_ok-matches.ensures.enough c.one_list_of_groups.ensures c.args.limits.text c.with_matches_replaced.result c.with_matches_replaced.ensures.size

pub returns-clause-count : goal.returns-clause-count
returns-clause-count c = λ n rows.
    let enough = c.in_ok-matches.ensures.enough in
    let same = rows-listed (text_of c.args.old.now) c.args.self.now.finder c.args.from c.args.to (chars c.args.template.now) c.new-template.result c.new-template.ensures (matched c.in_ok-matches.matches)
    enough c.one_list_of_groups.ensures n rows in
    omega (arith, same, c.listed_matches.ensures.count enough.lists enough.are, c.with_matches_replaced.ensures.count)

pub returns-in_err-matches-clause-count : goal.returns-in_err-matches-clause-count
returns-in_err-matches-clause-count c = λ n rows.
    let own = c.listed_matches.ensures.count rows.lists rows.are in
    let given = ap (λ t. lines_for_groups t rows.lists) c.new-template.ensures in
    omega (arith, own, given, rows.rows)

pub returns-clause-changed : goal.returns-clause-changed
returns-clause-changed c =
    subst (λ f. IfOk c.with_matches_replaced.result (λ new. ReplacesIn (text_of c.args.old.now) (text_of new.text) f new.patches.changed)) c.listed_matches.ensures.finder
    c.with_matches_replaced.ensures.changed
