-- What is found for each match kind: it is one thing, it is inside, and in a span that is cut it
-- shows that there is a match.
use Rattle.std.proofs.Common.{◌≡◌, ℕ, ◌≤◌, Bool, Option, Some, None, option_map, refl, sym, ap, subst, ◌∙◌}
use Rattle.std.specs.Prelude.{◌↔◌, IsTrue, IsSome}
use Rattle.std.proofs.lemmas.Option.{same_Some}
use Rattle.unicode.specs.Perl.{is_word_char}
use Rattle.rx_util.specs.declared.search.MatchKind.{MatchKind}
use Rattle.rx_util.specs.declared.search.MatchKind.TheVariants.{LeftmostFirst, All}
use Rattle.rx_utf8.specs.Automata.{is_in}
use Rattle.rx_walks.specs.Machines.{Outcome}
use Rattle.rx_walks.specs.Programs.{Notes}
use Rattle.rx_walks.specs.Finds.{Search, PatternMatch, up_to_place}
use Rattle.rx_walks.specs.Iterating.{Finding}
use Rattle.rx_walks.specs.ProgramFinds.{ProgramFinds, ProgramFindsAll, start_of, end_of}
use Rattle.rx_walks.specs.Laws.{MayBeFound}
use Rattle.rx_walks.proofs.AllExistLaws.{program_find_all_exists}
use Rattle.rx_walks.proofs.CutLaws.{cut_spans_tell}
use Rattle.rx_walks.proofs.ExistLaws.{program_find_exists}
use Rattle.rx_walks.proofs.InsideLaws.{finds_lie_inside, finds_all_lie_inside}
use Rattle.rx_walks.proofs.MatchAllLaws.{finds_agree}
use Rattle.rx_walks.proofs.UniqueLaws.{program_find_unique, program_find_all_unique}
use Rattle.rx_program.specs.Programs.{ByteProgram, character_program}
use Rattle.rx_chunk.specs.Engines.{Engine, EngineFinds, Finds, FindsAmongAll, FindsOfKind, TellsWhether, noted_whole}

-- finds are inside
abbrev pub InsideLaw : Finding → Type 0
InsideLaw finding = (s : Search) (t : Outcome Notes) → finding s (Some t) → MayBeFound s (start_of t) (end_of t)

-- if something is found in a span that is cut, something is found in the whole one
abbrev pub CutLaw : Finding → Type 0
CutLaw finding = (s : Search) (i : ℕ) (t : Outcome Notes) → i ≤ s.end → finding (up_to_place s i) (Some t) → (whole : Outcome Notes) × finding s (Some whole)

-- there is one find
abbrev pub OneLaw : Finding → Type 0
OneLaw finding = (s : Search) (out out' : Option (Outcome Notes)) → finding s out → finding s out' → out ≡ out'

abbrev pub ExistLaw : Finding → Type 0
ExistLaw finding = (s : Search) → (out : Option (Outcome Notes)) × finding s out

-- ---- all matches

module _ (p : ByteProgram) where
  abbrev FirstOf : Search → Option (Outcome Notes) → Type 0
  FirstOf s out = ProgramFinds is_in is_word_char (character_program p) s out

  abbrev BestOf : Search → Option PatternMatch → Type 0
  BestOf s found = ProgramFindsAll is_in is_word_char (character_program p) s found

  -- the match that is found
  pub record IsBest (s : Search) (t : Outcome Notes) : Type 0 where
    pub best : PatternMatch
    pub finds : BestOf s (Some best)
    pub is : t ≡ noted_whole best

  pub is_best : (s : Search) (t : Outcome Notes) → FindsAmongAll p s (Some t) → IsBest s t
  is_best s t among = by among.found among.finds among.out_is
    where
      by : (found : Option PatternMatch) → BestOf s found → Some t ≡ option_map noted_whole found → IsBest s t
      by None finds is = absurd (cc is)
      by (Some a) finds is = record { best = a; finds = finds; is = same_Some t (noted_whole a) is }

  all_inside : InsideLaw (FindsAmongAll p)
  all_inside s t among =
      let best = is_best s t among in
      subst (λ x. MayBeFound s (start_of x) (end_of x)) (sym best.is) (finds_all_lie_inside is_in is_word_char (character_program p) s best.best best.finds)

  all_one : OneLaw (FindsAmongAll p)
  all_one s out out' among among' =
      among.out_is ∙ ap (option_map noted_whole) (program_find_all_unique is_in is_word_char (character_program p) s among.found among'.found among.finds among'.finds) ∙ sym among'.out_is

  all_exist : ExistLaw (FindsAmongAll p)
  all_exist s =
      let best = program_find_all_exists is_in is_word_char (character_program p) s in
      (option_map noted_whole best.0, record { found = best.0; finds = best.1; out_is = refl })

  -- if there is a leftmost match, there is one among all
  all_there : (s : Search) (t : Outcome Notes) → FirstOf s (Some t) → (whole : Outcome Notes) × FindsAmongAll p s (Some whole)
  all_there s t finds = let best = program_find_all_exists is_in is_word_char (character_program p) s in by best.0 best.1
    where
      by : (found : Option PatternMatch) → BestOf s found → (whole : Outcome Notes) × FindsAmongAll p s (Some whole)
      by None best = absurd (cc (program_find_unique is_in is_word_char (character_program p) s (Some t) None finds ((finds_agree is_in is_word_char (character_program p) s).1 best)))
      by (Some a) best = (noted_whole a, record { found = Some a; finds = best; out_is = refl })

  all_cut : CutLaw (FindsAmongAll p)
  all_cut s i t within among =
      let best = is_best (up_to_place s i) t among in
      let first = program_find_exists is_in is_word_char (character_program p) (up_to_place s i) in
      by best.best best.finds first.0 first.1
    where
      by : (a : PatternMatch) → BestOf (up_to_place s i) (Some a) → (out : Option (Outcome Notes)) → FirstOf (up_to_place s i) out → (whole : Outcome Notes) × FindsAmongAll p s (Some whole)
      by a best None first = absurd (cc (program_find_all_unique is_in is_word_char (character_program p) (up_to_place s i) (Some a) None best ((finds_agree is_in is_word_char (character_program p) (up_to_place s i)).0 first)))
      by a best (Some u) first = let whole = cut_spans_tell is_in is_word_char (character_program p) s i u within first in all_there s whole.0 whole.1

  all_whether : (s : Search) (is_there : Bool) → TellsWhether (Finds p) s is_there → TellsWhether (FindsAmongAll p) s is_there
  all_whether s is_there told = by told.0 told.1 told.2
    where
      by : (out : Option (Outcome Notes)) → FirstOf s out → (IsTrue is_there ↔ IsSome out) → TellsWhether (FindsAmongAll p) s is_there
      by None finds there = (None, record { found = None; finds = (finds_agree is_in is_word_char (character_program p) s).0 finds; out_is = refl }, (there.0, there.1))
      by (Some t) finds there = let whole = all_there s t finds in (Some whole.0, whole.1, (there.0, there.1))

-- ---- of either kind

module _ (p : ByteProgram) where
  inside_kind : (kind : MatchKind) → InsideLaw (FindsOfKind kind p)
  inside_kind LeftmostFirst s t finds = (finds_lie_inside is_in is_word_char (character_program p) s t finds).found
  inside_kind All s t finds = all_inside p s t finds

  cut_kind : (kind : MatchKind) → CutLaw (FindsOfKind kind p)
  cut_kind LeftmostFirst s i t within finds = cut_spans_tell is_in is_word_char (character_program p) s i t within finds
  cut_kind All s i t within finds = all_cut p s i t within finds

  one_kind : (kind : MatchKind) → OneLaw (FindsOfKind kind p)
  one_kind LeftmostFirst s out out' finds finds' = program_find_unique is_in is_word_char (character_program p) s out out' finds finds'
  one_kind All s out out' finds finds' = all_one p s out out' finds finds'

  exist_kind : (kind : MatchKind) → ExistLaw (FindsOfKind kind p)
  exist_kind LeftmostFirst s = program_find_exists is_in is_word_char (character_program p) s
  exist_kind All s = all_exist p s

  whether_kind : (kind : MatchKind) (s : Search) (is_there : Bool) → TellsWhether (Finds p) s is_there → TellsWhether (FindsOfKind kind p) s is_there
  whether_kind LeftmostFirst s is_there told = told
  whether_kind All s is_there told = all_whether p s is_there told

pub inside_of : (e : Engine) → InsideLaw (EngineFinds e)
inside_of e = inside_kind e.program e.match_kind

pub cut_of : (e : Engine) → CutLaw (EngineFinds e)
cut_of e = cut_kind e.program e.match_kind

pub one_of : (e : Engine) → OneLaw (EngineFinds e)
one_of e = one_kind e.program e.match_kind

pub exist_of : (e : Engine) → ExistLaw (EngineFinds e)
exist_of e = exist_kind e.program e.match_kind

pub whether_of : (e : Engine) (s : Search) (is_there : Bool) → TellsWhether (Finds e.program) s is_there → TellsWhether (EngineFinds e) s is_there
whether_of e = whether_kind e.program e.match_kind

-- an engine for the leftmost match finds what its program does
pub finds_first : (e : Engine) → e.match_kind ≡ LeftmostFirst → Finds e.program ≡ EngineFinds e
finds_first e is = sym (ap (λ kind. FindsOfKind kind e.program) is)

-- and one for all matches what that finds among all
pub finds_all : (e : Engine) → e.match_kind ≡ All → FindsAmongAll e.program ≡ EngineFinds e
finds_all e is = sym (ap (λ kind. FindsOfKind kind e.program) is)
