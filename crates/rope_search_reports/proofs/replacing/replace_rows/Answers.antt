use Rattle.std.proofs.Common.{◌≡◌, ◌≤◌, length, ◌∙◌, arith, vec_len}
use Rattle.std.proofs.lemmas.Grind.{common_steps}
use Rattle.rope_search_reports.proofs.ReplaceLemmas.{removed}
use Rattle.rope_search_reports.proofs.replacing.replace_rows.Goals as goal

pub returns-then-common-gone-clause-rows : goal.returns-then-common-gone-clause-rows
returns-then-common-gone-clause-rows c =
    let rows = c.args.rows.now in
    let made = c.args.made in
    let long : length rows.items ≡ vec_len rows = grind (arith, common_steps) in
    let long' : length made.items ≡ vec_len made = grind (arith, common_steps) in
    let counted : c.min-common.result ≡ length made.items = omega (arith, long') in
    let within : c.args.end ≤ length rows.items = omega (arith, long) in
    c.remove_rows.ensures.rows ∙ removed rows.items made.items c.swap_rows.new.rows.items c.args.first c.args.end c.min-common.result c.requires.ordered within counted c.if-common-gone.true c.swap_rows.ensures.rows
