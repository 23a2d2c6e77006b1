use Rattle.std.proofs.Common.{refl, sym, ap, ◌∙◌}
use Rattle.regex_cursor.specs.Linear.{LinearState}
use Rattle.regex_cursor.proofs.LinearLaws.{bound_by_finds, is_none}
use Rattle.regex_cursor.proofs.engines.meta.linear.LinearMatches.next_slots.Goals as goal

pub returns-then-self-clause-same : goal.returns-then-self-clause-same
returns-then-self-clause-same g c = (c.args.self.now.input.asked.span.start, record { same = record { content = refl; is_sized = refl }; asked = refl })

pub returns-clause-bound : goal.returns-clause-bound
returns-clause-bound g c = λ first listed.
    let m = c.args.self.now in
    let alone = ap (λ (x : LinearState). x.rest) (sym c.self.view_is) ∙ is_none c.self.inside.rest (sym c.is_some.ensures ∙ c.if-is_some.false) in
    bound_by_finds m c.next_found.new.self.finds_read c.args.read.now c.next_found.new.read alone c.next_found.ensures.few c.next_found.ensures.counted
