-- The next match of a tree in a haystack.
use Rattle.std.specs.Prelude.{ℕ, List, Option, unwrap_or}
use Rattle.rx_walks.specs.Iterating.{FindsNext}
pub use Rattle.rx_walks.specs.Iterating.{IsEmptyAtLast, nothing, at_once, passed}
use Rattle.regex_cursor.specs.Patterns.{Tree, FoundMatch, TreeFindsIn, search_from}

-- the next match of an iterator, after a match that ended at this offset, or the first
abbrev pub TreeFindsNext : Tree → List ℕ → Option ℕ → Option FoundMatch → Type 0
TreeFindsNext tree content last found =
    FindsNext (TreeFindsIn tree) (search_from content (unwrap_or last 0)) last found
