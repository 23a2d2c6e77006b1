-- The first matches are in the list, and the others are left.
use Rattle.std.proofs.Common.{◌≡◌, ◌+◌, ◌≤◌, List, length, map, None}
use Rattle.std.specs.Iterator.{size}
use Rattle.std.specs.List.{last_or}
use Rattle.rx_walks.specs.Machines.{Outcome}
use Rattle.rx_walks.specs.Programs.{Notes}
use Rattle.rx_chunk.specs.Engines.{match_of}
use Rattle.rx_chunk.specs.Iterating.{FirstEngineMatches, matches_left}
use Rattle.rx_chunk.proofs.OrderLaws.{left_behind}
use Rattle.regex_cursor.specs.Linear.{HasListed, IsListedFor, all_places, left_of, places_read}
use Rattle.regex_cursor.specs.Regexes.{IsCacheOf, search_by}
use Rattle.regex_cursor.proofs.engines.meta.all.collect.Given as goal

abbrev pub invariant-loop-found : goal.invariant-loop-found
invariant-loop-found g l = record {
  matches : List (Outcome Notes);
  are_first : FirstEngineMatches l.re.engine (search_by l.re.engine l.fn.left.input) matches;
  stands : left_of l.re.engine l.left ≡ left_behind (search_by l.re.engine l.fn.left.input) (last_or None matches);
  found_are : l.found.items ≡ map match_of matches;
  made : IsCacheOf l.re l.cache;
  room : length l.slots ≡ length l.fn.slots;
  alike : IsListedFor l.re.engine l.left;
  listed : HasListed (length l.slots) l.left;
  places : all_places l.left ≡ all_places l.fn.left;
  counted : l.read ≤ l.fn.read + places_read l.left;
}

abbrev pub decreases-loop-found : goal.decreases-loop-found
decreases-loop-found g l = size (matches_left (left_of l.re.engine l.left))
