use Rattle.std.proofs.Common.{◌≡◌, ◌≤◌, false, length, sym, subst, arith}
use Rattle.regex_cursor.specs.Linear.{IsListedFor, LinearState}
use Rattle.regex_cursor.specs.Patterns.{AsksFrom}
use Rattle.rope_search_reports.specs.Finders.{start_behind}
use Rattle.rope_search_reports.proofs.rows.counted.CountedRegex.begun.Goals as goal

pub invariant_of-result : goal.invariant_of-result
invariant_of-result g c =
    subst (λ (m : LinearState). IsListedFor c.of.result.value.engine m × (m.is_over ≡ false → AsksFrom m.input.cursor.content (start_behind m.last_end) m.input × (start_behind m.last_end ≤ length m.input.cursor.content)))
    (sym c.new.ensures) (tt, λ _. (c.requires, omega arith))
