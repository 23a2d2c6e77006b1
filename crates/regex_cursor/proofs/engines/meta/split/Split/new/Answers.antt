use Rattle.std.proofs.Common.{◌-◌, ◌<◌, ◌^◌, false, length, sym, ap, subst, ◌∙◌, arith}
use Rattle.std.specs.Iterator.{size}
use Rattle.regex_cursor.specs.Regexes.{search_by}
use Rattle.regex_cursor.specs.Splitting.{PartsLeft, parts_left, parts_of}
use Rattle.regex_cursor.proofs.FewLaws.{few_parts}
use Rattle.regex_cursor.proofs.OrderLaws.{gives_gaps}
use Rattle.regex_cursor.proofs.engines.meta.split.Split.new.Goals as goal

pub returns-clause-gaps : goal.returns-clause-gaps
returns-clause-gaps g c =
    let left = c.new-2.ensures.left c.args.input ∙ ap parts_of (c.new.ensures.left c.args.input) in
    gives_gaps g.row.C.Denot c.args.re.now (search_by c.args.re.now.engine c.args.input) _ (c.new-2.ensures.regex ∙ c.new.ensures.regex) left

pub returns-clause-few : goal.returns-clause-few
returns-clause-few g c =
    let left = c.new-2.ensures.left c.args.input ∙ ap parts_of (c.new.ensures.left c.args.input) in
    let ahead = length c.args.input.cursor.content - c.args.input.asked.span.start in
    subst (λ (p : PartsLeft). size (parts_left p) < 2 ^ 64) (sym left) (few_parts false ahead (omega (arith, c.position-at.ensures.holds.lawful.bound)))
