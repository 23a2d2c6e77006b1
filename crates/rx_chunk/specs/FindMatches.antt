-- What an iterator over an engine's matches has left, and the cache that it borrows.
use Rattle.std.specs.Prelude.{◌≡◌, Option, Result}
use Rattle.std.specs.Borrow.{MutBor}
use Rattle.rx_util.specs.declared.search.MatchError.{MatchError}
use Rattle.rx_util.specs.Search.{Found}
use Rattle.rx_input.specs.declared.cursor.Cursor.{Ghosts}
use Rattle.rx_steps.specs.Caches.{CacheView}
use Rattle.rx_steps.specs.Searching.{search_of}
use Rattle.rx_chunk.specs.declared.pikevm.find_matches.FindMatches.{FindMatches}
use Rattle.rx_chunk.specs.Engines.{Engine, EngineFinds, match_of}
use Rattle.rx_chunk.specs.Iterating.{MatchesLeft, GivesNext}

abbrev pub left_of : {C : Type 0} {cursor : Ghosts C} → FindMatches C cursor → MatchesLeft
left_of m = record {
  search = search_of m.vm.now.utf8_empty m.input;
  last_end = m.last_match_end;
  is_over = m.is_over;
}

abbrev pub engine_of : {C : Type 0} {cursor : Ghosts C} → FindMatches C cursor → Engine
engine_of m = m.vm.now

abbrev pub cache_of : {C : Type 0} {cursor : Ghosts C} → FindMatches C cursor → MutBor CacheView
cache_of m = m.cache

-- a step of the iterator, which keeps its engine and its cache
pub record Gives {C : Type 0} {cursor : Ghosts C} (m : FindMatches C cursor)
    (item : Option (Result Found MatchError)) (n : FindMatches C cursor) : Type 0 where
  pub next : GivesNext (EngineFinds (engine_of m)) match_of (left_of m) item (left_of n)
  pub same_engine : engine_of n ≡ engine_of m
  pub same_cache : (cache_of n).ghost_name ≡ (cache_of m).ghost_name
