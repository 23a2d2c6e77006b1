-- The characters so far.
use Rattle.std.proofs.Common.{◌≡◌}
use Rattle.rope_search_reports.specs.Finders.{characters_of}
use Rattle.rope_search_reports.proofs.pattern_text.PatternText.new.Given as goal

abbrev pub invariant-loop-c : goal.invariant-loop-c
invariant-loop-c l = characters_of l.text.value ≡ l.yielded
