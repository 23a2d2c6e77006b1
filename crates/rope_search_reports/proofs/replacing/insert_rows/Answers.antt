use Rattle.std.proofs.Common.{◌≡◌, ◌+◌, ◌-◌, ◌≤◌, ◌++◌, drop, take, length, ◌∙◌, ap, arith, vec_len}
use Rattle.std.proofs.lemmas.Grind.{common_steps}
use Rattle.rope_search_reports.proofs.ReplaceLemmas.{inserted}
use Rattle.rope_search_reports.proofs.replacing.insert_rows.Goals as goal

pub returns-clause-rows : goal.returns-clause-rows
returns-clause-rows c =
    let rows = c.args.rows.now in
    let rest = c.remove_rows.new.rows in
    let all = c.append.new.self in
    let from = c.args.from in
    let joined : all.items ≡ rows.items ++ rest.items = grind (arith, common_steps) in
    let long : length rows.items ≡ vec_len rows = grind (arith, common_steps) in
    let within : c.args.at ≤ length rows.items = omega (arith, long) in
    let behind = c.len.result - c.args.at in
    let left : rest.items ≡ drop from c.args.made.items = c.remove_rows.ensures.rows ∙ (let zero_is : 0 + from ≡ from = omega arith in ap (λ n. drop n c.args.made.items) zero_is) in
    c.move_to_end.ensures.rows
    ∙ inserted rows.items rest.items all.items c.args.at behind within joined (omega (arith, long))
    ∙ ap (λ t. take c.args.at rows.items ++ t ++ drop c.args.at rows.items) left
