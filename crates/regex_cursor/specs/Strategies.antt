-- The engines of a regex, what searches by them keep, and what one of them leaves to the next.
use Rattle.std.specs.Prelude.{◌≡◌, ℕ, ◌≤◌, Bool, false, IsTrue, Option, Some, None, IfSome}
use Rattle.unicode.specs.Perl.{is_word_char}
use Rattle.rx_util.specs.declared.search.Span.{Span}
use Rattle.rx_input.specs.Inputs.{Asked}
use Rattle.rx_walks.specs.Finds.{Search, from_place_on}
use Rattle.rx_walks.specs.Machines.{Outcome}
use Rattle.rx_walks.specs.Programs.{Notes}
use Rattle.rx_walks.specs.ProgramFinds.{end_of}
use Rattle.rx_dfa.specs.Caches as automata
use Rattle.rx_dfa.specs.DenseTables.{IsClosedOf}
use Rattle.rx_dfa.specs.Directions.{forward}
use Rattle.rx_dfa.specs.Alphabets.{AlphabetView, IsAlphabetOf}
use Rattle.rx_dfa.specs.Searching.{IsHalfAnswer}
use Rattle.rx_program.specs.Programs.{ByteProgram, character_program}
use Rattle.rx_literals.specs.Endings.{EndsWithSlice}
use Rattle.rx_literals.specs.Literals.{FindsLiteral, within}
use Rattle.rx_engine.specs.Engines.{Engine}
use Rattle.rx_chunk.specs.Engines.{Finds, IsFound}
use Rattle.rx_chunk.specs.Iterating.{ComesNext}
use Rattle.regex_cursor.specs.Cores.{AreCachesOf}
use Rattle.regex_cursor.specs.Configs.{RegexSettings, WantsNoLiterals, dfa_of}
use Rattle.regex_cursor.specs.Literals.{AreLiteralsOf, no_literals}
use Rattle.regex_cursor.specs.Regexes.{RegexView}
use Rattle.regex_cursor.specs.declared.engines.meta.cache.Kept.{Kept}
use Rattle.regex_cursor.specs.declared.engines.meta.literals.Literals.{Literals}
use Rattle.regex_cursor.specs.declared.engines.meta.left.Part.{Part}
use Rattle.regex_cursor.specs.declared.engines.meta.left.Told.TheVariants as told
use Rattle.regex_cursor.specs.declared.engines.meta.left.Told.{Told}
use Rattle.regex_cursor.specs.declared.engines.meta.left.Left.TheVariants as left
use Rattle.regex_cursor.specs.declared.engines.meta.left.Left.{Left}
use Rattle.regex_cursor.specs.declared.engines.meta.left.Start.TheVariants as start
use Rattle.regex_cursor.specs.declared.engines.meta.left.Start.{Start}

-- the engine, the automaton of its program, the settings, perhaps all states of the automaton, what
-- is known of the literals that matches begin with, and whether all matches are known to end at the
-- slice's end
pub record Engines : Type 0 where
  pub vm : Engine
  pub dfa : AlphabetView
  pub settings : RegexSettings
  pub closed : Option automata.CacheView
  pub literals : Literals
  pub ends_last : Bool

-- the regex that they are the engines of
abbrev pub regex_of : Engines → RegexView
regex_of e = record { engine = e.vm; settings = e.settings }

-- all search for the same; and if they are turned off, there are no states made in advance and no
-- literals
pub record AreEngines (e : Engines) : Type 0 where
  pub dfa : IsAlphabetOf e.vm.program e.dfa
  pub utf8_empty : e.dfa.utf8_empty ≡ e.vm.utf8_empty
  pub closed : IfSome e.closed (IsClosedOf (forward e.vm.program) e.dfa)
  pub literals : AreLiteralsOf e.vm.program e.literals
  pub ends_last : IsTrue e.ends_last → EndsWithSlice (character_program e.vm.program)
  pub no_dfa : dfa_of e.settings ≡ false → e.closed ≡ None
  pub no_prefilter : WantsNoLiterals e.settings → e.literals ≡ no_literals

-- what a cache keeps can be used for searches by these engines: it was made for their program
pub record AreKeptFor (e : Engines) (kept : Kept) : Type 0 where
  pub caches : AreCachesOf kept.core.value kept.vm kept.automaton kept.back
  pub program : kept.core.value.vm.program ≡ e.vm.program
  pub utf8_empty : kept.core.value.vm.utf8_empty ≡ e.vm.utf8_empty

-- the match found is of this pattern, and ends there
pub record FindsUpTo (p : ByteProgram) (s : Search) (k end : ℕ) : Type 0 where
  pub found : Outcome Notes
  pub finds : Finds p s (Some found)
  pub pattern_is : found.pattern ≡ k
  pub end_is : end_of found ≡ end

-- the automaton's result of a search
abbrev pub IsTold : ByteProgram → Search → Told → Type 0
IsTold p s told.NoMatch = Finds p s None
IsTold p s (told.Ends half) = IsHalfAnswer p s (Some half)
IsTold p s told.Unknown = Unit {0}

-- a part of a search's span, whose result is that of the span
pub record HoldsFind (p : ByteProgram) (s : Search) (span : Span) : Type 0 where
  pub behind : s.start ≤ span.start
  pub ordered : span.start ≤ span.end
  pub before : span.end ≤ s.end
  pub finds : (out : Option (Outcome Notes)) → Finds p (within s span) out → Finds p s out

-- such a part, and perhaps the pattern of the match found, which ends where the part does
pub record IsPart (p : ByteProgram) (s : Search) (part : Part) : Type 0 where
  pub holds : HoldsFind p s part.span
  pub match : IfSome part.pattern (λ k. FindsUpTo p (within s part.span) k part.span.end)

-- what is left of a search for the PikeVM
abbrev pub IsLeft : ByteProgram → Search → Left → Type 0
IsLeft p s left.Nothing = Finds p s None
IsLeft p s (left.Match span) = FindsLiteral (character_program p) is_word_char s span
IsLeft p s (left.Found found) = IsFound (Finds p) s (Some found)
IsLeft p s (left.In part) = IsPart p s part

-- the part that contains the match, if there is one
abbrev pub IsPartLeft : ByteProgram → Search → Option Part → Type 0
IsPartLeft p s None = Finds p s None
IsPartLeft p s (Some part) = IsPart p s part

-- and in which the next match is that of the span, after a match that ended at `last`
pub record HoldsNext (p : ByteProgram) (s : Search) (last : Option ℕ) (span : Span) : Type 0 where
  pub holds : HoldsFind p s span
  pub comes : (out : Option (Outcome Notes)) → ComesNext (Finds p) (within s span) last out
      → ComesNext (Finds p) s last out

-- the part that contains the next match, if there is one
abbrev pub IsNextLeft : ByteProgram → Search → Option ℕ → Option Part → Type 0
IsNextLeft p s last None = Finds p s None
IsNextLeft p s last (Some part) = HoldsNext p s last part.span

-- where the match found may start: the result from this offset on is that from the span's start on
pub record BeginsFrom (p : ByteProgram) (s : Search) (place : ℕ) : Type 0 where
  pub behind : s.start ≤ place
  pub before : place ≤ s.end
  pub finds : (out : Option (Outcome Notes)) → Finds p (from_place_on s place) out → Finds p s out

-- what a literal shows of a search
abbrev pub IsStart : ByteProgram → Search → Start → Type 0
IsStart p s start.Nowhere = Finds p s None
IsStart p s (start.At span) = FindsLiteral (character_program p) is_word_char s span
IsStart p s (start.From place) = BeginsFrom p s place

-- the same request, except for a span that may start elsewhere
abbrev pub HasStart : Asked → Asked → Type 0
HasStart old new = (start : ℕ) × (new ≡ record old { span = record old.span { start = start } })
