-- A part of a content in which no needle occurs, and none of the bytes that matches begin with, has no
-- match.
use Rattle.std.proofs.Common.{◌≡◌, ℕ, ◌+◌, ◌<◌, ◌≤◌, Bool, true, false, List, length, take, get_or, Option, Some, None, refl, sym, ap, subst, ◌∙◌, arith, length-drop}
use Rattle.std.proofs.lemmas.List.{length-take, get_or-take, get_or-drop, take_all}
use Rattle.unicode.specs.Perl.{is_word_char}
use Rattle.rx_sets.specs.Sets.{Range}
use Rattle.rx_utf8.specs.Automata.{is_in}
use Rattle.rx_util.specs.declared.search.Span.{Span}
use Rattle.rx_input.specs.Inputs.{between}
use Rattle.rx_walks.specs.Looks.{Look}
use Rattle.rx_walks.specs.Programs.{Program}
use Rattle.rx_walks.specs.ProgramFinds.{ProgramFinds}
use Rattle.rx_program.specs.Programs.{character_program}
use Rattle.rx_literals.specs.Needles.{AreNeedles, FoundAt, no_needle, this_needle, other_needle, FoundBetween, nowhere, at_least_place}
use Rattle.rx_literals.specs.ByteSets.{HasMemberAt, HasNoMemberBetween, MatchesBeginIn}
use Rattle.rx_literals.specs.Requirements.{MatchesContain, NoneContainedNoMatch}
use Rattle.rx_literals.proofs.ByteSetLaws.{no_member_no_match}
use Rattle.rx_literals.proofs.NeedleLaws.{found_start}
use Rattle.regex_cursor.specs.Patterns.{HasNoMatchBetween, program_for, search_part}
use Rattle.regex_cursor.specs.Regexes.{Engine, HasNoFindBetween, RegexView, IsRegexOf}
use Rattle.regex_cursor.proofs.PatternLemmas.{program-is}

-- a place of a part of a content is a place of the content, which may be cut behind that part
part_reads : (content : List ℕ) (start end cut i : ℕ) → end ≤ cut → start + i < end → get_or (take cut content) (start + i) 0 ≡ get_or (between start end content) i 0
part_reads content start end cut i within low =
    get_or-take cut content (start + i) 0 (omega (arith, low, within))
    ∙ sym (get_or-take end content (start + i) 0 low)
    ∙ sym (get_or-drop start (take end content) i 0)

-- so where no needle occurs in the content, none does in the part
none_in : (content : List ℕ) (start end cut i : ℕ) {needles : List (List ℕ)} {out : Option Span} → end ≤ cut → i < length (between start end content)
    → FoundAt (take cut content) (start + i) needles out → out ≡ None → FoundAt (between start end content) i needles None
none_in content start end cut i within below no_needle e = no_needle
none_in content start end cut i within below (this_needle occurs) e = absurd (cc e)
none_in content start end cut i within below (other_needle {needle = needle} absent found) e =
    let left = length-drop start (take end content) in
    let taken = length-take end content in
    let longer = length-take cut content in
    other_needle (λ occurs. absent (record {
      fits = omega (arith, occurs.fits, below, left, taken, longer, within);
      reads = λ j inside.
          let low : start + (i + j) < end = omega (arith, occurs.fits, inside, below, left, taken) in
          let same : start + i + j ≡ start + (i + j) = omega arith in
          ap (λ k. get_or (take cut content) k 0) same ∙ part_reads content start end cut (i + j) within low ∙ occurs.reads j inside;
    })) (none_in content start end cut i within below found e)

-- ---- where none is found

abbrev NoneUpTo : List ℕ → List (List ℕ) → ℕ → ℕ → Type 0
NoneUpTo bytes needles from place = (i : ℕ) → from ≤ i → i < place → FoundAt bytes i needles None

pub none_at_all : {bytes : List ℕ} {needles : List (List ℕ)} {from to : ℕ} {out : Option Span} → FoundBetween bytes needles from to out → out ≡ None → NoneUpTo bytes needles from to
none_at_all (nowhere none) e = none
none_at_all (at_least_place i low high here before) e = absurd (cc e)

pub none_before : {bytes : List ℕ} {needles : List (List ℕ)} {from to : ℕ} {out : Option Span} {span : Span} → FoundBetween bytes needles from to out → out ≡ Some span → NoneUpTo bytes needles from span.start
none_before (nowhere none) e = absurd (cc e)
none_before {bytes} {needles} (at_least_place i low high here before) e =
    let start = found_start (subst (λ o. FoundAt bytes i needles o) e here) in
    λ j from below. before j from (omega (arith, below, start))

pub found_within : {bytes : List ℕ} {needles : List (List ℕ)} {from to : ℕ} {out : Option Span} {span : Span} → FoundBetween bytes needles from to out → out ≡ Some span → span.start ≤ to
found_within (nowhere none) e = absurd (cc e)
found_within {bytes} {needles} (at_least_place i low high here before) e =
    let start = found_start (subst (λ o. FoundAt bytes i needles o) e here) in omega (arith, high, start)

-- ---- what that tells of a program whose matches contain one of the needles

module _ (needles : List (List ℕ)) (are : AreNeedles needles) (law : NoneContainedNoMatch) where
  -- no needle in a part
  abbrev NoneIn : List ℕ → Type 0
  NoneIn part = (i : ℕ) → i < length part → FoundAt part i needles None

  none_there : (p : Program Look (List Range)) → MatchesContain needles p → (utf8_empty : Bool) (part : List ℕ) → NoneIn part → ProgramFinds is_in is_word_char p (search_part utf8_empty part) None
  none_there p contain utf8_empty part none =
      let whole : take (length part) part ≡ part = take_all (length part) part (omega arith) in
      law needles p is_word_char (search_part utf8_empty part) are contain refl
      (nowhere (λ i low below. subst (λ bytes. FoundAt bytes i needles None) (sym whole) (none i below)))

  part_without : (content : List ℕ) (from place cut : ℕ) → place ≤ cut → NoneUpTo (take cut content) needles from place → (start end : ℕ) → from ≤ start → end ≤ place → NoneIn (between start end content)
  part_without content from place cut within none start end behind before i below =
      let inside : start + i < place = omega (arith, below, length-drop start (take end content), length-take end content, before) in
      none_in content start end cut i (omega (arith, before, within)) below (none (start + i) (omega (arith, behind)) inside) refl

  module _ (content : List ℕ) (from place cut : ℕ) (within : place ≤ cut) (none : NoneUpTo (take cut content) needles from place) where
    pub none_by_program : (e : Engine) → MatchesContain needles (character_program e.program) → HasNoFindBetween e content from place
    none_by_program e contain start end behind before =
        none_there (character_program e.program) contain e.utf8_empty (between start end content) (part_without content from place cut within none start end behind before)

    pub none_between : (text : List ℕ) (re : RegexView) (built : IsRegexOf text re) → MatchesContain needles (character_program re.engine.program) → HasNoMatchBetween built.tree content from place
    none_between text re built contain start end behind before =
        let of_tree : MatchesContain needles (program_for built.tree) = subst (λ p. MatchesContain needles p) (program-is text re built) contain in
        none_there (program_for built.tree) of_tree true (between start end content) (part_without content from place cut within none start end behind before)

-- ---- what bytes that matches begin with tell, where none is found

module _ (members : List Bool) (content : List ℕ) (from place cut : ℕ) (within : place ≤ cut) (none : HasNoMemberBetween members (take cut content) from place) where
  inside_part : (start end i : ℕ) → HasMemberAt members (between start end content) i → start + i < end
  inside_part start end i has = omega (arith, has.inside, length-drop start (take end content), length-take end content)

  -- a member in a part is in the content
  member_in : (start end i : ℕ) → end ≤ place → HasMemberAt members (between start end content) i → HasMemberAt members (take cut content) (start + i)
  member_in start end i before has = record {
    inside = omega (arith, has.inside, length-drop start (take end content), length-take end content, length-take cut content, before, within);
    is_member = ap (λ b. get_or members b false) (part_reads content start end cut i (omega (arith, before, within)) (inside_part start end i has)) ∙ has.is_member;
  }

  no_member_in : (start end : ℕ) → from ≤ start → end ≤ place → (part : List ℕ) → part ≡ between start end content → HasNoMemberBetween members (take (length part) part) 0 (length part)
  no_member_in start end behind before part is k low high has =
      let there = subst (λ bytes. HasMemberAt members bytes k) (take_all (length part) part (omega arith) ∙ is) has in
      none (start + k) (omega (arith, behind)) (omega (arith, inside_part start end k there, before)) (member_in start end k before there)

  no_find_there : (p : Program Look (List Range)) → MatchesBeginIn members p → (utf8_empty : Bool) (start end : ℕ) → from ≤ start → end ≤ place → ProgramFinds is_in is_word_char p (search_part utf8_empty (between start end content)) None
  no_find_there p begin utf8_empty start end behind before =
      no_member_no_match members p is_word_char (search_part utf8_empty (between start end content)) begin refl
      (no_member_in start end behind before (between start end content) refl)

  pub no_byte_by_program : (e : Engine) → MatchesBeginIn members (character_program e.program) → HasNoFindBetween e content from place
  no_byte_by_program e begin start end behind before = no_find_there (character_program e.program) begin e.utf8_empty start end behind before

  pub no_byte_between : (text : List ℕ) (re : RegexView) (built : IsRegexOf text re) → MatchesBeginIn members (character_program re.engine.program) → HasNoMatchBetween built.tree content from place
  no_byte_between text re built begin start end behind before =
      let of_tree : MatchesBeginIn members (program_for built.tree) = subst (λ p. MatchesBeginIn members p) (program-is text re built) begin in
      no_find_there (program_for built.tree) of_tree true start end behind before
