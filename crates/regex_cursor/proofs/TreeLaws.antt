-- The laws of the spelling of patterns and of searches for them, for proofs in the crates above.
use Rattle.std.proofs.Common.{◌≡◌, ℕ, List, Option, inl, inr, length}
use Rattle.std.specs.Prelude.{unwrap_or}
use Rattle.unicode.specs.Perl.{is_word_char}
use Rattle.rx_walks.proofs.BoundaryLaws.{finds_stand_at_boundaries, matches_stand_at_boundaries}
use Rattle.rx_walks.proofs.ExistLaws.{program_find_exists}
use Rattle.rx_walks.proofs.InsideLaws.{finds_lie_inside}
use Rattle.rx_walks.proofs.MatchLaws.{program_matches_exist, program_matches_found, program_matches_rise, program_first_matches}
use Rattle.rx_walks.specs.Iterating.{FindsNext}
use Rattle.rx_walks.proofs.UniqueLaws.{program_find_unique, program_matches_unique}
use Rattle.rx_utf8.specs.Automata.{is_in}
use Rattle.rx_grammar.specs.Settings.{default_settings}
use Rattle.rx_grammar.proofs.GrammarLaws.{Spells-unique}
use Rattle.rx_grammar.proofs.PatternDecisions.{spells_or_not}
use Rattle.rx_program.proofs.NoteLaws.{matches_note_their_places}
use Rattle.rx_program.proofs.GroupLaws.{groups_are_noted_whole}
use Rattle.regex_cursor.specs.NextMatches.{TreeFindsNext}
use Rattle.regex_cursor.specs.Patterns.{Tree, AsksFrom, FoundMatch, InputState, program_for, search_from}
use Rattle.regex_cursor.specs.PatternLaws.{HasFinds, RegexesHaveTrees, SpellsOneTree, SpellsTreeOrNone}
use Rattle.regex_cursor.specs.Regexes.{EngineFinds, IsRegexOf, RegexView, search_by}
use Rattle.regex_cursor.proofs.PatternLemmas.{light-of, finds-of, next-of, notes-of, one-of, slots-of, says-of, tells-of, tells_slots-of}

pub one_tree : SpellsOneTree
one_tree text tree other one second = Spells-unique text default_settings tree other one second

pub tree_or_none : SpellsTreeOrNone
tree_or_none text = elim (spells_or_not text default_settings) [
  | inl some ↦ inl some
  | inr none ↦ elim none [ inl deep ↦ inr deep.nothing | inr never ↦ inr (never default_settings.nest_limit) ]
]

pub finds_of_trees : (tree : Tree) → HasFinds tree
finds_of_trees tree =
    let p = program_for tree in
    record {
      one_find = λ s out out' is is'. program_find_unique is_in is_word_char p s out out' is is';
      has_find = λ s. program_find_exists is_in is_word_char p s;
      inside = λ s t finds. finds_lie_inside is_in is_word_char p s t finds;
      at_boundaries = λ s t utf8 on finds. finds_stand_at_boundaries is_in is_word_char p s utf8 on t finds;
      one_list = λ s ms ms' is is'. program_matches_unique is_in is_word_char p s ms ms' is is';
      has_list = λ s. program_matches_exist is_in is_word_char p s;
      found = λ s ms is. program_matches_found is_in is_word_char p s ms is;
      rise = λ s ms is. program_matches_rise is_in is_word_char p s ms is;
      list_at_boundaries = λ s ms utf8 on is. matches_stand_at_boundaries is_in is_word_char p s ms utf8 on is;
      first = λ s. program_first_matches is_in is_word_char p s;
    }

pub regexes_have_trees : RegexesHaveTrees
regexes_have_trees = record {
  spells = λ text re built. built.spells;
  light = light-of;
  tells = tells-of;
  tells_slots = tells_slots-of;
  notes = notes-of matches_note_their_places groups_are_noted_whole;
  finds = finds-of;
  slots = slots-of;
  noted = λ text re built content from t finds. notes-of matches_note_their_places groups_are_noted_whole text re built (search_from content from) t finds;
  refused = says-of;
}

-- the next match for an input over a haystack, after a match that ended where it starts, or the
-- first, is the next one of the tree
pub next_of_trees : (text : List ℕ) (re : RegexView) → (built : IsRegexOf text re) → (content : List ℕ) (last : Option ℕ) (input : InputState) (out : Option FoundMatch)
    → AsksFrom content (unwrap_or last 0) input → FindsNext (EngineFinds re.engine) (search_by re.engine input) last out → TreeFindsNext built.tree content last out
next_of_trees text re built content last input out asks comes = next-of text re built content last input out asks comes

-- a regex of one pattern has only its groups
pub one_of_trees : (text : List ℕ) (re : RegexView) → IsRegexOf text re → length re.engine.groups ≡ 1
one_of_trees text re built = one-of text re built
