-- A regex of a pattern, in terms of the pattern's tree.
use Rattle.std.proofs.Common.{◌≡◌, ℕ, ◌≤◌, inl, inr, Bool, false, true, List, [], ◌∷◌, length, Option, Some, refl, sym, ap, subst, ◌∙◌, arith}
use Rattle.std.specs.Prelude.{option_map, unwrap_or}
use Rattle.std.proofs.lemmas.Bool.{cases_lt}
use Rattle.std.proofs.lemmas.List.Elements.{All-cons, All-head, All-nil}
use Rattle.rx_util.specs.Search.{Found}
use Rattle.rx_util.specs.declared.search.Anchored.TheVariants.{No}
use Rattle.rx_input.specs.Inputs.{Asked, InputState}
use Rattle.rx_walks.specs.Finds.{Search}
use Rattle.rx_walks.specs.Programs.{Program}
use Rattle.rx_walks.specs.Iterating.{Finding, FindsNext}
use Rattle.rx_walks.specs.Looks.{Look}
use Rattle.rx_sets.specs.Sets.{Range}
use Rattle.rx_program.specs.Code.{program_of}
use Rattle.rx_program.specs.Laws.{GroupsAreNotedWhole, MatchesNoteTheirPlaces}
use Rattle.rx_program.specs.Programs.{character_program}
use Rattle.rx_program.specs.declared.error.BuildError.{BuildError}
use Rattle.rx_grammar.specs.Settings.{default_settings}
use Rattle.rx_grammar.specs.Subtrees.{IsWellFormed}
use Rattle.rx_steps.specs.Searching.{anchoring_of}
use Rattle.rx_engine.proofs.GroupLaws.{noted_count}
use Rattle.rx_engine.specs.Engines.{by_text, by_weight, memory, nesting, no_memory, outside, too_large, too_long}
use Rattle.unicode.specs.Perl.{is_word_char}
use Rattle.rx_utf8.specs.Automata.{is_in}
use Rattle.rx_chunk.specs.Engines.{EngineFinds, Finds}
use Rattle.rx_chunk.proofs.KindLaws.{finds_first}
use Rattle.regex_cursor.specs.Patterns.{FoundMatch, ProgramFinds, AsksFrom, TreeFinds, TreeFindsIn, answer_slots, match_of, pattern_weight, program_for, search_from, weight_limit}
use Rattle.regex_cursor.specs.PatternLaws.{HasNotedGroups, SaysOfText}
use Rattle.regex_cursor.specs.NextMatches.{TreeFindsNext}
use Rattle.regex_cursor.specs.Regexes.{RegexView, IsRegexOf, IsRefusedAsRegex, TellsMatch, TellsSlots, search_by}

pub light-of : (text : List ℕ) (re : RegexView) → (built : IsRegexOf text re) → pattern_weight built.tree ≤ weight_limit
light-of text re built = elim (cases_lt weight_limit (pattern_weight built.tree)) [
  | inl heavy ↦ absurd (built.built.engine.fits (omega (arith, heavy)))
  | inr light ↦ omega (arith, light)
]

-- the search that an input requests
search_with : List ℕ → Asked → Bool → Search
search_with content asked utf8_empty = record {
  content = content;
  slice_start = asked.slice.start;
  slice_end = asked.slice.end;
  start = asked.span.start;
  end = asked.span.end;
  anchoring = anchoring_of asked.anchored;
  utf8_empty = utf8_empty;
}

search-is : (re : RegexView) (content : List ℕ) (from : ℕ) (input : InputState) → re.engine.utf8_empty ≡ true → AsksFrom content from input → search_by re.engine input ≡ search_from content from
unfolding search_with
search-is re content from input utf8 asks =
    ap (λ c. search_with c input.asked re.engine.utf8_empty) asks.content_is
    ∙ ap (λ a. search_with content a re.engine.utf8_empty) asks.asked_is
    ∙ ap (λ u. search_with content (record {
      span = record { start = from; end = length content };
      slice = record { start = 0; end = length content };
      anchored = No;
      earliest = false;
    }) u) utf8

pub program-is : (text : List ℕ) (re : RegexView) → (built : IsRegexOf text re) → character_program re.engine.program ≡ program_for built.tree
program-is text re built = built.built.engine.of_trees.program ∙ ap (λ t. program_of (built.tree ∷ []) t) built.built.engine.line_terminator

-- it searches for the leftmost match: its results are those of its program
first-finds : (text : List ℕ) (re : RegexView) → IsRegexOf text re → (s : Search) (out : Option FoundMatch) → EngineFinds re.engine s out → Finds re.engine.program s out
first-finds text re built s out finds = subst (λ (finding : Finding). finding s out) (sym (finds_first re.engine built.built.engine.match_kind)) finds

-- its result for an input is that of the tree
tree-finds : (text : List ℕ) (re : RegexView) → (built : IsRegexOf text re) → (content : List ℕ) (from : ℕ) (input : InputState) (out : Option FoundMatch) → AsksFrom content from input
    → EngineFinds re.engine (search_by re.engine input) out → TreeFinds built.tree content from out
tree-finds text re built content from input out asks finds =
    let P : Program Look (List Range) → Type 0 = λ p. ProgramFinds is_in is_word_char p (search_by re.engine input) out in
    let Q : Search → Type 0 = λ s. ProgramFinds is_in is_word_char (program_for built.tree) s out in
    subst Q (search-is re content from input built.built.engine.utf8_empty asks) (subst P (program-is text re built) (first-finds text re built (search_by re.engine input) out finds))

-- the same for any request of an input
asked-finds : (text : List ℕ) (re : RegexView) → (built : IsRegexOf text re) → (s : Search) (out : Option FoundMatch) → EngineFinds re.engine s out → TreeFindsIn built.tree s out
asked-finds text re built s out finds =
    let P : Program Look (List Range) → Type 0 = λ p. ProgramFinds is_in is_word_char p s out in
    subst P (program-is text re built) (first-finds text re built s out finds)

pub tells-of : (text : List ℕ) (re : RegexView) → (built : IsRegexOf text re) → (input : InputState) (found : Option Found) → input.asked.earliest ≡ false → TellsMatch re.engine input found
    → (out : Option FoundMatch) × TreeFindsIn built.tree (search_by re.engine input) out × (found ≡ option_map match_of out)
tells-of text re built input found earliest tells =
    let is = tells.exact earliest in
    (is.0, asked-finds text re built (search_by re.engine input) is.0 is.1, is.2)

pub tells_slots-of : (text : List ℕ) (re : RegexView) → (built : IsRegexOf text re) → (input : InputState) (pattern : Option ℕ) (slots : List (Option ℕ)) → input.asked.earliest ≡ false → TellsSlots re.engine input pattern slots
    → (out : Option FoundMatch) × TreeFindsIn built.tree (search_by re.engine input) out × (pattern ≡ option_map (λ t. t.pattern) out) × (slots ≡ answer_slots (length slots) out)
tells_slots-of text re built input pattern slots earliest tells =
    let is = tells.exact earliest in
    (is.found, asked-finds text re built (search_by re.engine input) is.found is.finds, is.pattern_is, is.slots_are)

pub finds-of : (text : List ℕ) (re : RegexView) → (built : IsRegexOf text re) → (content : List ℕ) (from : ℕ) (input : InputState) (found : Option Found)
    → AsksFrom content from input → TellsMatch re.engine input found
    → (out : Option FoundMatch) × TreeFinds built.tree content from out × (found ≡ option_map match_of out)
finds-of text re built content from input found asks tells =
    let earliest : input.asked.earliest ≡ false = ap (λ a. a.earliest) asks.asked_is in
    let is = tells.exact earliest in
    (is.0, tree-finds text re built content from input is.0 asks is.1, is.2)

pub slots-of : (text : List ℕ) (re : RegexView) → (built : IsRegexOf text re) → (content : List ℕ) (from : ℕ) (input : InputState) (pattern : Option ℕ) (slots : List (Option ℕ))
    → AsksFrom content from input → TellsSlots re.engine input pattern slots
    → (out : Option FoundMatch) × TreeFinds built.tree content from out × (pattern ≡ option_map (λ t. t.pattern) out) × (slots ≡ answer_slots (length slots) out)
slots-of text re built content from input pattern slots asks tells =
    let earliest : input.asked.earliest ≡ false = ap (λ a. a.earliest) asks.asked_is in
    let is = tells.exact earliest in
    (is.found, tree-finds text re built content from input is.found asks is.finds, is.pattern_is, is.slots_are)

-- the next match for an input, after a match that ended where its span starts, is the next one of
-- the tree
pub next-of : (text : List ℕ) (re : RegexView) → (built : IsRegexOf text re) → (content : List ℕ) (last : Option ℕ) (input : InputState) (out : Option FoundMatch)
    → AsksFrom content (unwrap_or last 0) input → FindsNext (EngineFinds re.engine) (search_by re.engine input) last out → TreeFindsNext built.tree content last out
next-of text re built content last input out asks comes =
    let s = search_by re.engine input in
    let O : Finding → Type 0 = λ finding. FindsNext finding s last out in
    let P : Program Look (List Range) → Type 0 = λ p. FindsNext (ProgramFinds is_in is_word_char p) s last out in
    let Q : Search → Type 0 = λ s'. FindsNext (TreeFindsIn built.tree) s' last out in
    subst Q (search-is re content (unwrap_or last 0) input built.built.engine.utf8_empty asks)
    (subst P (program-is text re built) (subst O (sym (finds_first re.engine built.built.engine.match_kind)) comes))

-- it has the groups of one pattern
pub one-of : (text : List ℕ) (re : RegexView) → IsRegexOf text re → length re.engine.groups ≡ 1
one-of text re built = noted_count (built.tree ∷ []) re.engine.groups re.engine.which_captures built.built.engine.of_trees.groups

-- a match of a pattern's tree has noted its groups
pub notes-of : MatchesNoteTheirPlaces → GroupsAreNotedWhole → (text : List ℕ) (re : RegexView) → (built : IsRegexOf text re) → (s : Search) (t : FoundMatch)
    → TreeFindsIn built.tree s (Some t) → HasNotedGroups t
notes-of places groups text re built s t finds =
    let tree = built.tree in
    let well = All-head IsWellFormed tree [] built.built.engine.of_trees.well_formed in
    record {
      whole = (places tree 10 well is_word_char (program_for tree) s refl).finds t finds;
      groups = (groups (tree ∷ []) 10 (All-cons IsWellFormed tree [] well (All-nil IsWellFormed)) is_word_char (program_for tree) s refl).finds t finds;
    }

pub says-of : (text : List ℕ) (error : BuildError) → IsRefusedAsRegex text error → SaysOfText text error
says-of text error (by_text (too_long long)) = inl long
says-of text error (by_text (nesting deep)) = inr deep.nothing
says-of text error (by_text (outside short never)) = inr (never default_settings.nest_limit)
says-of text error (by_weight tree spells (too_large heavy)) = (tree, spells, omega (arith, heavy))
says-of text error (by_weight tree spells no_memory) = tt
says-of text error memory = tt
