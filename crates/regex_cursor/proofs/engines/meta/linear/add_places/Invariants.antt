-- The offsets counted so far.
use Rattle.std.proofs.Common.{◌≡◌, ◌+◌, ◌≤◌}
use Rattle.regex_cursor.proofs.engines.meta.linear.add_places.Given as goal

abbrev pub invariant-loop : goal.invariant-loop
invariant-loop l = (l.read ≡ l.fn.read + l.counter) × (l.counter ≤ l.count)
