-- Lists of all matches, and the item of each.
use Rattle.std.proofs.Common.{◌≡◌, Bool, ℕ, ◌*◌, ◌≤◌, List, [], ◌∷◌, ◌++◌, length, map, Some, option_map, refl, sym, ap, ap₂, subst, ◌∙◌, arith, All}
use Rattle.std.proofs.lemmas.List.Elements.{All-cons, All-head, All-map, All-nil, All-tail, All-weaker}
use Rattle.std.proofs.lemmas.Simd.{map-map}
use Rattle.unicode.specs.Perl.{is_word_char}
use Rattle.rx_util.specs.declared.search.MatchKind.TheVariants.{LeftmostFirst}
use Rattle.rx_util.specs.Search.{Found}
use Rattle.rx_util.specs.Captured.{Captured, span_between}
use Rattle.rx_utf8.specs.Automata.{is_in}
use Rattle.rx_walks.specs.Machines.{Outcome}
use Rattle.rx_walks.specs.Programs.{Notes}
use Rattle.rx_walks.specs.Finds.{Search, from_place_on}
use Rattle.rx_walks.specs.Matches.{Matches}
use Rattle.rx_walks.specs.MatchLaws.{IsFoundBehind}
use Rattle.rx_walks.specs.ProgramFinds.{finds_on}
use Rattle.rx_walks.proofs.MatchLaws.{program_matches_found}
use Rattle.rx_input.specs.Inputs.{InputState}
use Rattle.rx_program.specs.Programs.{ByteProgram, character_program}
use Rattle.rx_steps.proofs.SlotLaws.{slots_from_len}
use Rattle.rx_steps.specs.Searching.{search_of, slots_from}
use Rattle.rx_chunk.specs.Engines.{Engine, Finds, FindsOfKind, IsEngine, match_of}
use Rattle.rx_chunk.specs.Iterating.{captured_of}
use Rattle.rx_chunk.proofs.FoundLaws.{match_with, notes_places, two_places}
use Rattle.rx_chunk.proofs.KindLaws.{inside_of}
use Rattle.rx_lists.specs.Lists.{AreAllMatches, Listed, listed_of}
use Rattle.regex_cursor.specs.Regexes.{search_by}
use Rattle.regex_cursor.specs.Listing.{IsWhole, TellsAll, captures_listed, leftmost_first, match_listed}

-- ---- the list of the engine that finds the leftmost match

pub as_engine : (e : Engine) → IsEngine e → IsEngine (leftmost_first e)
as_engine e of_trees = let t = of_trees.1 in (
  of_trees.0,
  record {
    well_formed = t.well_formed;
    program = t.program;
    groups = t.groups;
    captures_len = t.captures_len;
    static_captures_len = t.static_captures_len;
  },
)

pub as_iterated : {A : Type 0} (e : Engine) (s : Search) (item_of : Outcome Notes → A) (items : List A) → e.match_kind ≡ LeftmostFirst → TellsAll (leftmost_first e) s item_of items → TellsAll e s item_of items
as_iterated e s item_of items kind all = record {
  matches = all.matches;
  are_all = subst (λ k. Matches (finds_on (FindsOfKind k e.program) s) s.start all.matches) (sym kind) all.are_all;
  items_are = all.items_are;
}

the_match : (x y : Found) → Some x ≡ Some y → x ≡ y
the_match x y e = cc e

-- ---- of each match

abbrev IsTold : ℕ → Outcome Notes → Type 0
IsTold len t = match_listed (listed_of len t) ≡ Some (match_of t)

module _ (e : Engine) (of_trees : IsEngine e) (len : ℕ) (room : 2 * length e.groups ≤ len) where
  told : (s : Search) (t : Outcome Notes) → Finds e.program s (Some t) → IsTold len t
  told s t finds =
      let noted = notes_places (leftmost_first e) (as_engine e of_trees) s t finds in
      let places = two_places t len (slots_from 0 len t.notes) (omega (arith, noted.1, room)) refl noted.0 in
      ap₂ (λ i j. option_map (match_with t.pattern) (span_between i j)) places.0 places.1

  whole : (s : Search) (t : Outcome Notes) → Finds e.program s (Some t) → IsWhole (listed_of len t)
  whole s t finds = record {
    match = match_of t;
    is_listed = told s t finds;
    ordered = (inside_of (leftmost_first e) s t finds).ordered;
  }

  module _ (s : Search) (listed : List Listed) (all : AreAllMatches e.program s len listed) where
    abbrev Behind : Outcome Notes → Type 0
    Behind t = IsFoundBehind is_in is_word_char (character_program e.program) s t

    found : All Behind all.matches
    found = program_matches_found is_in is_word_char (character_program e.program) s all.matches all.are_all

    pub are_whole : All IsWhole listed
    are_whole = subst (λ ls. All IsWhole ls) (sym all.found_are)
        (All-map IsWhole (listed_of len) all.matches (All-weaker Behind (λ t. IsWhole (listed_of len t)) (λ t at. whole (from_place_on s at.0) t at.2) all.matches found))

    pub tells_matches : (items : List Found) → map (λ m. Some m) items ≡ map match_listed listed → TellsAll (leftmost_first e) s match_of items
    tells_matches items are = record {
      matches = all.matches;
      are_all = all.are_all;
      items_are = same_matches all.matches items (All-weaker Behind (IsTold len) (λ t at. told (from_place_on s at.0) t at.2) all.matches found) (are ∙ ap (λ ls. map match_listed ls) all.found_are);
    }
      where
        same_matches : (ms : List (Outcome Notes)) (xs : List Found) → All (IsTold len) ms → map (λ m. Some m) xs ≡ map match_listed (map (listed_of len) ms) → xs ≡ map match_of ms
        same_matches [] [] each is = refl
        same_matches [] (x ∷ xs) each is = absurd (cc is)
        same_matches (t ∷ ms) [] each is = absurd (cc is)
        same_matches (t ∷ ms) (x ∷ xs) each is =
            let one : Some x ≡ match_listed (listed_of len t) = cc is in
            let others : map (λ m. Some m) xs ≡ map match_listed (map (listed_of len) ms) = cc is in
            let same : Some x ≡ Some (match_of t) = one ∙ All-head (IsTold len) t ms each in
            ap₂ (λ y ys. y ∷ ys) (the_match x (match_of t) same) (same_matches ms xs (All-tail (IsTold len) t ms each) others)

-- ---- with groups

module _ (e : Engine) (len : ℕ) (s : Search) (listed : List Listed) (all : AreAllMatches e.program s len listed) where
  pub have_room : All (λ l. length l.slots ≡ len) listed
  have_room = subst (λ ls. All (λ (l : Listed). length l.slots ≡ len) ls) (sym all.found_are)
      (All-map (λ (l : Listed). length l.slots ≡ len) (listed_of len) all.matches (each all.matches))
    where
      each : (ms : List (Outcome Notes)) → All (λ (t : Outcome Notes). length (slots_from 0 len t.notes) ≡ len) ms
      each [] = All-nil (λ (t : Outcome Notes). length (slots_from 0 len t.notes) ≡ len)
      each (t ∷ ms) = All-cons (λ (t : Outcome Notes). length (slots_from 0 len t.notes) ≡ len) t ms (slots_from_len 0 len t.notes) (each ms)

  pub tells_captures : (items : List Captured) → items ≡ map (captures_listed e.groups) listed → TellsAll (leftmost_first e) s (captured_of e.groups len) items
  tells_captures items are = record {
    matches = all.matches;
    are_all = all.are_all;
    items_are = are ∙ ap (λ ls. map (captures_listed e.groups) ls) all.found_are ∙ map-map (captures_listed e.groups) (listed_of len) all.matches;
  }

-- ---- lists that are built one by one

pub map_one_more : {A B : Type 0} (f : A → B) (xs : List A) (x : A) → map f (xs ++ x ∷ []) ≡ map f xs ++ f x ∷ []
map_one_more f [] x = refl
map_one_more f (y ∷ xs) x = ap (λ zs. f y ∷ zs) (map_one_more f xs x)

-- ---- the listed matches are those that an engine finds

pub list_of : (e : Engine) (p : ByteProgram) (b : Bool) (i : InputState) (len : ℕ) (listed : List Listed) → p ≡ e.program → b ≡ e.utf8_empty → AreAllMatches p (search_of b i) len listed → AreAllMatches e.program (search_by e i) len listed
list_of e p b i len listed program empty all = subst (λ x. AreAllMatches x (search_by e i) len listed) program (subst (λ x. AreAllMatches p (search_of x i) len listed) empty all)
