-- What literals and bytes that matches begin with tell of where a match may begin.
use Rattle.std.proofs.Common.{◌≡◌, ℕ, ◌≤◌, Bool, false, List, Option, Some, None, refl, ap₂, subst, arith}
use Rattle.unicode.specs.Perl.{is_word_char}
use Rattle.rx_util.specs.declared.search.Anchored.{Anchored}
use Rattle.rx_util.specs.declared.search.Anchored.TheVariants.{No, Yes, Pattern}
use Rattle.rx_util.specs.declared.search.Span.{Span}
use Rattle.rx_util.specs.Anchoring.{is_anchored}
use Rattle.rx_input.specs.Cursors.{IsSameContent}
use Rattle.rx_input.specs.Inputs.{Asked, InputState, HasSpan}
use Rattle.rx_walks.specs.Finds.{Search, unanchored, from_place_on}
use Rattle.rx_steps.specs.Searching.{anchoring_of, search_of}
use Rattle.rx_program.specs.Programs.{ByteProgram, character_program}
use Rattle.rx_chunk.specs.Engines.{Finds}
use Rattle.rx_literals.specs.Needles.{AreNeedles, FoundAt, FoundBetween, nowhere, at_least_place}
use Rattle.rx_literals.specs.Beginnings.{MatchesBeginWith, FirstNeedle, MatchesComeBehind, NoNeedleNoMatch}
use Rattle.rx_literals.specs.ByteSets.{FirstMember, MatchesBeginIn}
use Rattle.rx_literals.proofs.ByteSetLaws.{matches_come_from_member, no_member_no_match}
use Rattle.rx_literals.proofs.NeedleLaws.{found_start}
use Rattle.regex_cursor.specs.Strategies.{BeginsFrom}

pub is_free : (a : Anchored) → is_anchored a ≡ false → anchoring_of a ≡ unanchored
is_free No e = refl
is_free Yes e = absurd (cc e)
is_free (Pattern k) e = absurd (cc e)

inside : {bytes : List ℕ} {needles : List (List ℕ)} {from to : ℕ} {out : Option Span} {span : Span} → FoundBetween bytes needles from to out → out ≡ Some span → (from ≤ span.start) × (span.start ≤ to)
inside (nowhere none) e = absurd (cc e)
inside {bytes} {needles} (at_least_place i low high here before) e =
    let start = found_start (subst (λ o. FoundAt bytes i needles o) e here) in (omega (arith, low, start), omega (arith, high, start))

module _ (p : ByteProgram) (needles : List (List ℕ)) (s : Search) (begins : MatchesBeginWith needles (character_program p)) (free : s.anchoring ≡ unanchored) where
  pub begins_from : (span : Span) → MatchesComeBehind → FirstNeedle needles s (Some span) → BeginsFrom p s span.start
  begins_from span law first = record {
    behind = (inside first refl).0;
    before = (inside first refl).1;
    finds = λ out finds. law needles (character_program p) is_word_char s span out begins free first finds;
  }

  pub begins_nowhere : AreNeedles needles → NoNeedleNoMatch → FirstNeedle needles s None → Finds p s None
  begins_nowhere are law first = law needles (character_program p) is_word_char s are begins free first

-- the same of bytes
module _ (p : ByteProgram) (members : List Bool) (s : Search) (begin : MatchesBeginIn members (character_program p)) (free : s.anchoring ≡ unanchored) where
  pub begins_at_member : (place : ℕ) → FirstMember members s (Some place) → BeginsFrom p s place
  begins_at_member place first = record {
    behind = first.low;
    before = omega (arith, first.high);
    finds = λ out finds. matches_come_from_member members (character_program p) is_word_char s place out begin free first finds;
  }

  pub begins_at_no_member : FirstMember members s None → Finds p s None
  begins_at_no_member none = no_member_no_match members (character_program p) is_word_char s begin free none

abbrev search_by : Bool → List ℕ → Asked → Search
search_by utf8_empty content asked = record {
  content = content;
  slice_start = asked.slice.start;
  slice_end = asked.slice.end;
  start = asked.span.start;
  end = asked.span.end;
  anchoring = anchoring_of asked.anchored;
  utf8_empty = utf8_empty;
}

-- an input whose span starts at another place
pub start_search : (utf8_empty : Bool) (i k : InputState) (place : ℕ) → HasSpan i k (record i.asked.span { start = place }) → search_of utf8_empty k ≡ from_place_on (search_of utf8_empty i) place
start_search utf8_empty i k place has = ap₂ (search_by utf8_empty) has.same.content has.asked_is

pub same_search : (utf8_empty : Bool) (i j : InputState) → IsSameContent i.cursor j.cursor → j.asked ≡ i.asked → search_of utf8_empty j ≡ search_of utf8_empty i
same_search utf8_empty i j same asked = ap₂ (search_by utf8_empty) same.content asked
