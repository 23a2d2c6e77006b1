-- A match starts at the first place at which an anchored search finds one.
use Rattle.std.proofs.Common.{◌≡◌, ℕ, ◌+◌, ◌≤◌, Bool, List, max, Option, Some, None, option_map, refl, sym, ap, ap₂, subst, ◌∙◌, arith, inl, inr}
use Rattle.std.proofs.lemmas.Bool.{cases_lt}
use Rattle.std.proofs.lemmas.Option.{same_Some}
use Rattle.unicode.specs.Perl.{is_word_char}
use Rattle.rx_sets.specs.Sets.{Range}
use Rattle.rx_utf8.specs.Automata.{is_in}
use Rattle.rx_util.specs.declared.search.Anchored.TheVariants.{Yes}
use Rattle.rx_util.specs.Search.{HalfFound}
use Rattle.rx_input.specs.Cursors.{IsSameContent}
use Rattle.rx_input.specs.Inputs.{Asked, HasSpan, InputState}
use Rattle.rx_walks.specs.Finds.{Counts, IsFind, Search, anchored, is_found, not_found, unanchored}
use Rattle.rx_walks.specs.Looks.{Look}
use Rattle.rx_walks.specs.Machines.{Outcome}
use Rattle.rx_walks.specs.Programs.{Notes, Program, fresh_notes}
use Rattle.rx_walks.specs.ProgramFinds.{haystack_of, holds_in, lowest, machine_of, start_of}
use Rattle.rx_walks.proofs.InsideLaws.{walk_keeps}
use Rattle.rx_program.specs.Programs.{ByteProgram, character_program}
use Rattle.rx_steps.specs.Searching.{anchoring_of, search_of}
use Rattle.rx_dfa.specs.Searching.{IsHalfAnswer}
use Rattle.rx_literals.proofs.LowLaws.{least_from}
use Rattle.rx_chunk.specs.Engines.{Finds, IsFound}
use Rattle.rx_matches.specs.Halves.{whole_of}
use Rattle.regex_cursor.specs.Backs.{StartsAt, freed}
use Rattle.regex_cursor.specs.Cores.{AreCachesOf}
use Rattle.regex_cursor.specs.Strategies.{AreKeptFor, Engines, HasStart}
use Rattle.regex_cursor.specs.declared.engines.meta.cache.Kept.{Kept}
use Rattle.regex_cursor.proofs.LowerLaws.{inside_law}

-- what a search finds, if anything, starts at a place or behind it
abbrev pub StartsBehind : ByteProgram → Search → ℕ → Type 0
StartsBehind p s place = (t : Outcome Notes) → Finds p s (Some t) → place ≤ start_of t

-- the search that is anchored at a place
abbrev pub anchored_at : Search → ℕ → Search
anchored_at s place = record s { start = place; anchoring = anchored }

module _ (p : ByteProgram) (s : Search) where
  abbrev C : Program Look (List Range)
  C = character_program p

  abbrev S : Search
  S = freed s

  abbrev CountsIn : Search → ℕ → Outcome Notes → Type 0
  CountsIn x i t = Counts (machine_of is_in is_word_char C x) fresh_notes x C.start i t

  module _ (place : ℕ) (high : s.start ≤ place) where
    abbrev A : Search
    A = anchored_at s place

    -- what counts there counts in both
    counts_there : {t : Outcome Notes} → CountsIn S place t → CountsIn A place t
    counts_there counts =
        let inside = counts.possible.0 in
        record {
          possible = ((inside.0, inside.1, omega arith, inside.3, inside.4), λ told. refl);
          least = least_from is_in C.nodes (haystack_of (holds_in is_word_char C.line_terminator S) S) 0 (lowest S) (lowest A) (omega (arith, inside.0, inside.2)) (omega (arith, inside.0)) counts.least;
          may_end = counts.may_end;
        }

    counts_back : {t : Outcome Notes} → CountsIn A place t → CountsIn S place t
    counts_back counts =
        let inside = counts.possible.0 in
        record {
          possible = ((inside.0, inside.1, high, inside.3, inside.4), λ told. absurd (cc told));
          least = least_from is_in C.nodes (haystack_of (holds_in is_word_char C.line_terminator S) S) 0 (lowest A) (lowest S) (omega (arith, inside.0)) (omega (arith, inside.0, high)) counts.least;
          may_end = counts.may_end;
        }

    module _ (behind : StartsBehind p S place) where
      none_counts : {i : ℕ} {t : Outcome Notes} → Finds p A None → CountsIn S i t → i ≡ place → ⊥
      none_counts {i} {t} (not_found none) counts same = none place t (counts_there (subst (λ j. CountsIn S j t) same counts))

      -- where nothing is found there, what is found starts behind
      pub none_there : Finds p A None → StartsBehind p S (place + 1)
      none_there none t finds = by finds
        where
          by : IsFind (machine_of is_in is_word_char C S) fresh_notes S C.start (Some t) → place + 1 ≤ start_of t
          by (is_found {i = i} counts before) =
              let kept = walk_keeps is_in is_word_char C S counts.least.walk in
              let from : place ≤ i = omega (arith, behind t finds, kept.start) in
              elim (cases_lt place i) [
                | inl below ↦ omega (arith, below, kept.start)
                | inr above ↦ absurd (none_counts none counts (omega (arith, from, above)))
              ]

      some_counts : {u : Outcome Notes} → Finds p A (Some u) → CountsIn S place u
      some_counts {u} (is_found {i = i} counts before) = counts_back (subst (λ j. CountsIn A j u) (counts.possible.1 refl) counts)

      -- and else it starts there
      pub some_there : (u : Outcome Notes) → Finds p A (Some u) → StartsAt p S place
      some_there u found t finds = by finds
        where
          by : IsFind (machine_of is_in is_word_char C S) fresh_notes S C.start (Some t) → start_of t ≡ place
          by (is_found {i = i} counts before) =
              let kept = walk_keeps is_in is_word_char C S counts.least.walk in
              let from : place ≤ i = omega (arith, behind t finds, kept.start) in
              elim (cases_lt place i) [
                | inl below ↦ absurd (before place u below (some_counts found))
                | inr above ↦ omega (arith, from, above, kept.start)
              ]

      pub half_there : (half : HalfFound) → IsHalfAnswer p A (Some half) → StartsAt p S place
      half_there half answer = by answer.found answer.finds answer.met_is
        where
          by : (out : Option (Outcome Notes)) → Finds p A out → Some half ≡ option_map (λ (t : Outcome Notes). record { pattern = t.pattern; offset = t.end }) out → StartsAt p S place
          by None finds is = absurd (cc is)
          by (Some u) finds is = some_there u finds

  -- at first
  pub starts_inside : (place : ℕ) → place ≤ max s.start s.slice_start → StartsBehind p S place
  starts_inside place low t finds =
      let lies = inside_law is_in is_word_char C S t finds in
      omega (arith, low, lies.found.possible.0.0, lies.found.possible.0.2)

  -- and at last nowhere but at the end
  pub starts_last : (place end : ℕ) → end ≡ s.end → end ≤ place → StartsBehind p S place → StartsAt p S end
  starts_last place end is above behind t finds =
      let lies = inside_law is_in is_word_char C S t finds in
      omega (arith, is, above, behind t finds, lies.found.ordered, lies.found.inside.3)

  -- what is found where the span starts is what is found, if the search isn't anchored
  pub found_here : s.anchoring ≡ unanchored → (u : Outcome Notes) → Finds p (anchored_at s s.start) (Some u) → Finds p s (Some u)
  found_here free u finds =
      let counts = some_counts s.start (omega arith) (starts_inside s.start (omega arith)) finds in
      let there : Finds p S (Some u) = is_found counts (λ j v below other. absurd (omega (arith, below, other.possible.0.2))) in
      let freed_is : S ≡ s = ap (λ a. record s { anchoring = a }) (sym free) in
      subst (λ x. Finds p x (Some u)) freed_is there

  pub whole_here : s.anchoring ≡ unanchored → (half : HalfFound) → IsHalfAnswer p (anchored_at s s.start) (Some half) → IsFound (Finds p) s (Some (whole_of half s.start))
  whole_here free half answer = by answer.found answer.finds answer.met_is
    where
      by : (out : Option (Outcome Notes)) → Finds p (anchored_at s s.start) out → Some half ≡ option_map (λ (t : Outcome Notes). record { pattern = t.pattern; offset = t.end }) out → IsFound (Finds p) s (Some (whole_of half s.start))
      by None finds is = absurd (cc is)
      by (Some u) finds is =
          let counts = some_counts s.start (omega arith) (starts_inside s.start (omega arith)) finds in
          let kept = walk_keeps is_in is_word_char C S counts.least.walk in
          let at_start : start_of u ≡ s.start = kept.start in
          let same : half ≡ record { pattern = u.pattern; offset = u.end } = same_Some half (record { pattern = u.pattern; offset = u.end }) is in (
            Some u,
            found_here free u finds,
            ap (λ (h : HalfFound). Some (whole_of h s.start)) same ∙ ap (λ k. Some (whole_of (record { pattern = u.pattern; offset = u.end }) k)) (sym at_start),
          )

-- ---- the input

abbrev search_by : Bool → List ℕ → Asked → Search
search_by utf8_empty content asked = record {
  content = content;
  slice_start = asked.slice.start;
  slice_end = asked.slice.end;
  start = asked.span.start;
  end = asked.span.end;
  anchoring = anchoring_of asked.anchored;
  utf8_empty = utf8_empty;
}

-- an input of which the same is asked as of another one, but of a span that starts at a place
module _ (i l k : InputState) (place : ℕ) (asked : HasStart i.asked l.asked) (has : HasSpan l k (record l.asked.span { start = place })) where
  pub place_asked : k.asked ≡ record i.asked { span = record i.asked.span { start = place } }
  place_asked = has.asked_is ∙ ap (λ (a : Asked). record a { span = record a.span { start = place } }) asked.1

  pub place_search : (utf8_empty : Bool) → i.asked.anchored ≡ Yes → IsSameContent i.cursor l.cursor → search_of utf8_empty k ≡ anchored_at (search_of utf8_empty i) place
  place_search utf8_empty at same =
      ap₂ (search_by utf8_empty) (has.same.content ∙ same.content) place_asked
      ∙ ap (λ a. record (search_of utf8_empty i) { start = place; anchoring = anchoring_of a }) at

-- ---- what is kept

-- what counts more bytes still serves
pub kept_still : (e : Engines) (old new : Kept) → AreKeptFor e old → new.core ≡ old.core → new.vm ≡ old.vm → new.automaton ≡ old.automaton → new.back ≡ old.back → AreKeptFor e new
kept_still e old new serve core vm automaton back = record {
  caches =
      subst (λ b. AreCachesOf new.core.value new.vm new.automaton b) (sym back)
      (subst (λ a. AreCachesOf new.core.value new.vm a old.back) (sym automaton)
      (subst (λ v. AreCachesOf new.core.value v old.automaton old.back) (sym vm)
      (subst (λ c. AreCachesOf c.value old.vm old.automaton old.back) (sym core) serve.caches)));
  program = ap (λ c. c.value.vm.program) core ∙ serve.program;
  utf8_empty = ap (λ c. c.value.vm.utf8_empty) core ∙ serve.utf8_empty;
}
