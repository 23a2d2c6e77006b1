use Rattle.std.proofs.Common.{chars, refl, arith}
use Rattle.str_indices.proofs.TextLaws.{ends_of_a_part-lines}
use Rattle.ropey.specs.Chunks.{is_break}
use Rattle.rope_search_reports.proofs.PlaceLemmas.{line_inside}
use Rattle.rope_search_reports.proofs.TellerLemmas.{none-before-first, one-at-first}
use Rattle.rope_search_reports.proofs.line_teller.len_of_first_line.Goals as goal

pub returns-in-Some-clause-within : goal.returns-in-Some-clause-within
returns-in-Some-clause-within c = c.in-Some.ensures.first.ends.0

pub returns-in-Some-clause-first : goal.returns-in-Some-clause-first
returns-in-Some-clause-first c = λ place low. none-before-first c.args.text.now _ _ place c.in-Some.ensures.first low

pub returns-in-None-clause-first : goal.returns-in-None-clause-first
returns-in-None-clause-first c = λ place low. omega (arith, line_inside (chars c.args.text.now) place, c.in-None.ensures.none.0 refl)

pub returns-in-Some-clause-second : goal.returns-in-Some-clause-second
returns-in-Some-clause-second c = λ _. record { boundary = c.in-Some.ensures.first.ends; one = one-at-first (ends_of_a_part-lines is_break) c.args.text.now _ _ c.in-Some.ensures.first }
