use Rattle.std.proofs.Common.{◌+◌, arith}
use Rattle.rope_search_reports.proofs.BareLemmas.{adds-none, bare-added, counted-start, counted-few, looked-many, looked-most, rows-so}
use Rattle.rope_search_reports.proofs.reports.pass_over.Goals as goal

pub returns-then-left-eq0-clause-rows : goal.returns-then-left-eq0-clause-rows
returns-then-left-eq0-clause-rows c = adds-none c.args.finder.now c.args.walk.now.text c.args.walk.now.line c.args.rows.now.items

pub returns-then-left-eq0-clause-count : goal.returns-then-left-eq0-clause-count
returns-then-left-eq0-clause-count c = counted-few 0 _ c.args.tick.now c.args.tick.now (counted-start c.args.tick.now) (omega arith)

pub returns-then-left-eq0-clause-each : goal.returns-then-left-eq0-clause-each
returns-then-left-eq0-clause-each c = counted-start c.args.tick.now

pub returns-in_err-push_bare-clause-count : goal.returns-in_err-push_bare-clause-count
returns-in_err-push_bare-clause-count c =
    looked-most c.bare_lines-passed.result _ c.args.tick.now c.bare_lines-passed.new.tick c.push_bare.new.tick c.bare_lines-passed.ensures.count c.bare_lines-passed.ensures.wholes
    c.push_bare.ensures.count (omega (arith, c.bare_lines-passed.ensures.within, c.line_idx.ensures.line))

pub returns-clause-count : goal.returns-clause-count
returns-clause-count c =
    looked-most c.bare_lines-passed.result _ c.args.tick.now c.bare_lines-passed.new.tick c.push_bare.new.tick c.bare_lines-passed.ensures.count c.bare_lines-passed.ensures.wholes
    c.push_bare.ensures.count (omega (arith, c.bare_lines-passed.ensures.within, c.line_idx.ensures.line))

pub returns-clause-each : goal.returns-clause-each
returns-clause-each c =
    looked-many c.bare_lines-passed.result c.args.tick.now c.bare_lines-passed.new.tick c.push_bare.new.tick c.bare_lines-passed.ensures.count c.bare_lines-passed.ensures.wholes c.in_ok-push_bare.ensures.each

pub push_bare-requires : goal.push_bare-requires
push_bare-requires c = λ some. c.bare_lines-passed.ensures.empty some

pub returns-clause-rows : goal.returns-clause-rows
returns-clause-rows c =
    let pattern = c.args.finder.now in
    let walk = c.args.walk.now in
    let passed = c.bare_lines-passed.result in
    bare-added pattern walk.text walk.line (walk.line + passed) c.args.rows.now.items c.push_bare.new.rows.items (omega arith)
    (omega (arith, c.bare_lines-passed.ensures.within, c.line_idx.ensures.line, c.requires.ordered, c.requires.within))
    c.bare_lines-passed.ensures.bare
    (rows-so c.args.rows.now.items c.push_bare.new.rows.items walk.line passed c.in_ok-push_bare.ensures.rows)
