-- Why searches for whole matches fail, and what iterators over them give.
use Rattle.std.specs.Prelude.{◌≡◌, ◌⊎◌, Option, Result, IfSome, IfErr, OnErr}
use Rattle.std.specs.Borrow.{MutBor}
use Rattle.rx_util.specs.declared.search.MatchError.{MatchError}
use Rattle.rx_util.specs.declared.search.MatchError.TheVariants.{Memory}
use Rattle.rx_util.specs.Search.{Found}
use Rattle.rx_walks.specs.Finds.{Search}
use Rattle.rx_walks.specs.Iterating.{MatchesLeft, GivesMatch}
use Rattle.rx_program.specs.Programs.{ByteProgram}
use Rattle.rx_steps.specs.declared.asked.AskedLooks.{AskedLooks}
use Rattle.rx_steps.specs.Searching.{search_of}
use Rattle.rx_dfa.specs.Alphabets.{IsAlphabetOf}
use Rattle.rx_dfa.specs.Dense.{DenseView}
use Rattle.rx_dfa.specs.DenseTables.{IsQuit}
use Rattle.rx_dfa.specs.Hybrid.{HybridCacheView, HybridView, IsHybridCacheOf}
use Rattle.rx_dfa.specs.Passing as passing
use Rattle.rx_chunk.specs.Engines.{Finds, match_of}
use Rattle.rx_matches.specs.declared.dfa.find_matches.FindMatches as dense
use Rattle.rx_matches.specs.declared.hybrid.find_matches.FindMatches as lazy

-- ---- errors

-- with a dense automaton: a byte before which it must quit, or out of memory
abbrev pub IsDenseRefusal : AskedLooks → Search → MatchError → Type 0
IsDenseRefusal asked s error = IsQuit asked s error ⊎ (error ≡ Memory)

-- with a lazy automaton
abbrev pub IsLazyRefusal : AskedLooks → Search → MatchError → Type 0
IsLazyRefusal asked s error = passing.IsRefusal asked s error

-- ---- iterators

-- a step of an iterator over the matches of a program, which fails as the search for the next match
-- does; it ends if no match follows, and after an error
pub record GivesNext (p : ByteProgram) (refuses : Search → MatchError → Type 0) (m : MatchesLeft)
    (item : Option (Result Found MatchError)) (n : MatchesLeft) : Type 0 where
  pub gives : GivesMatch (Finds p) match_of m item n
  pub refused : IfSome item (λ answer. IfErr answer (refuses m.search))

-- what an iterator with a dense automaton has left
abbrev pub dense_left : {C : Type 0} → dense.FindMatches C → MatchesLeft
dense_left m = record {
  search = search_of m.re.now.engine.utf8_empty m.input;
  last_end = m.last_match_end;
  is_over = m.is_over;
}

-- its engine
abbrev pub dense_engine : {C : Type 0} → dense.FindMatches C → DenseView
dense_engine m = m.re.now

-- a step of it, which keeps the engine
pub record DenseGives {C : Type 0} (m : dense.FindMatches C)
    (item : Option (Result Found MatchError)) (n : dense.FindMatches C) : Type 0 where
  pub next : GivesNext (dense_engine m).engine.program
      (IsDenseRefusal (dense_engine m).automaton.dfa.asked) (dense_left m) item (dense_left n)
  -- the word assertions that make it quit are those of the program
  pub dfa : IfSome item (λ answer. OnErr answer
      (IsAlphabetOf (dense_engine m).engine.program (dense_engine m).automaton.dfa))
  pub same_engine : dense_engine n ≡ dense_engine m

-- the same for an iterator that borrows a cache
abbrev pub lazy_left : {C : Type 0} → lazy.FindMatches C → MatchesLeft
lazy_left m = record {
  search = search_of m.re.now.engine.utf8_empty m.input;
  last_end = m.last_match_end;
  is_over = m.is_over;
}

abbrev pub lazy_engine : {C : Type 0} → lazy.FindMatches C → HybridView
lazy_engine m = m.re.now

abbrev pub lazy_cache : {C : Type 0} → lazy.FindMatches C
    → MutBor HybridCacheView
lazy_cache m = m.cache

-- that cache is one for the engine
abbrev pub lazy_serves : {C : Type 0} → lazy.FindMatches C → Type 0
lazy_serves m = IsHybridCacheOf (lazy_engine m) (lazy_cache m).now

-- a step of it, which keeps the engine and the cache
pub record LazyGives {C : Type 0} (m : lazy.FindMatches C)
    (item : Option (Result Found MatchError)) (n : lazy.FindMatches C) : Type 0 where
  pub next : GivesNext (lazy_engine m).engine.program
      (IsLazyRefusal (lazy_engine m).dfa.asked) (lazy_left m) item (lazy_left n)
  pub dfa : IfSome item (λ answer. OnErr answer
      (IsAlphabetOf (lazy_engine m).engine.program (lazy_engine m).dfa))
  pub same_engine : lazy_engine n ≡ lazy_engine m
  pub same_cache : (lazy_cache n).ghost_name ≡ (lazy_cache m).ghost_name
  pub serves : lazy_serves n
