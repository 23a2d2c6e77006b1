-- The reply to `next` depends only on text and pattern, and its matches are at boundaries; and the
-- positions of an edit are those of its offsets.
use Rattle.std.proofs.Common.{◌≡◌, ◌≢◌, ℕ, List, ◌++◌, length, refl, sym, ap, subst, ◌∙◌, arith}
use Rattle.std.specs.Prelude.{Option, None, Some, Ok, Err, encode_utf8_all}
use Rattle.std.proofs.lemmas.List.{length-append}
use Rattle.std.proofs.lemmas.Str.{encodes-append}
use Rattle.str_indices.specs.Text.{byte_len}
use Rattle.rope_search_io.specs.declared.faults.Fault.{Fault}
use Rattle.rope_search_io.specs.declared.faults.Fault.TheVariants.{Nothing, Range, Memory}
use Rattle.rope_search.specs.declared.commands.Reply.{Reply}
use Rattle.rope_search.specs.declared.commands.Reply.TheVariants.{Done, Found, NoMatch}
use Rattle.rope_search_reports.specs.declared.positions.Position.{Position}
use Rattle.rope_search_reports.specs.Text.{bytes_of}
use Rattle.rope_search_reports.specs.Pattern.{FindsSpan}
use Rattle.rope_search_reports.specs.Laws.{FindsAreInText}
use Rattle.rope_search_reports.specs.Position.{IsAt, IsNowhere}
use Rattle.rope_search.specs.Order.{FindNext}
use Rattle.rope_search.specs.Session.{State, current_text, chosen_buffer}
use Rattle.rope_search.specs.Finding.{ArePositionsOf, FindsFromPosition, TellsPositions}
use Rattle.rope_search.specs.Places.{IsBetween}
use Rattle.rope_search.specs.Shows.{shows}
use Rattle.rope_search.specs.Step.{Answer, Does, IsFirstRefusal, Refuses, Step}
use Rattle.rope_search.specs.Laws.{AllHoldTexts, AreChosenAlike, EditsHavePlaces, FindsAlike, FindsBoundaries, HavePlaces, Known}
use Rattle.rope_search.proofs.HoldLaws.{chosen_holds, text_holds}
use Rattle.rope_search.proofs.StepLaws.{IsFirstRefusal-one, Step-told, next_one}

-- ---- replies to `next`

turned : (s t : State) → AreChosenAlike s t → AreChosenAlike t s
turned s t alike = record { text = sym alike.text; pattern = sym alike.pattern }

finds_next_alike : (s t : State) (from : Position) (found : Option (ℕ × ℕ)) → AreChosenAlike s t → FindsFromPosition (chosen_buffer t) from found → FindsFromPosition (chosen_buffer s) from found
finds_next_alike s t from found alike finds = record {
  pattern = finds.pattern;
  place = finds.place;
  is_pattern = alike.pattern ∙ finds.is_pattern;
  starts = subst (λ x. IsAt x (from.line, from.column) finds.place) (sym alike.text) finds.starts;
  finds = subst (λ x. FindsSpan finds.pattern (bytes_of x) finds.place found) (sym alike.text) finds.finds;
}

tells_alike : (s t : State) (from : Position) (told : Option (Position × Position)) → AreChosenAlike s t → TellsPositions (chosen_buffer t) from told → TellsPositions (chosen_buffer s) from told
tells_alike s t from None alike tells = finds_next_alike s t from None alike tells
tells_alike s t from (Some told) alike tells = (
  tells.0,
  finds_next_alike s t from (Some tells.0) alike tells.1,
  subst (λ x. ArePositionsOf x told.0 told.1 tells.0) (sym alike.text) tells.2,
)

-- the other session's reply may be given here too
does_alike : (s t new : State) (from : Position) (reply : Reply) → AreChosenAlike s t → Does t (FindNext from) reply new → Does s (FindNext from) reply s
does_alike s t new from (Found a z) alike does = (tells_alike s t from (Some (a, z)) alike does.0, refl)
does_alike s t new from NoMatch alike does = (tells_alike s t from None alike does.0, refl)
does_alike s t new from reply alike does = absurd does

-- and it is refused here for the same reason
refuses_alike : (limit limit' : ℕ) (s t : State) (from : Position) (fault : Fault) → AreChosenAlike s t → Refuses limit' t (FindNext from) fault → Refuses limit s (FindNext from) fault
refuses_alike limit limit' s t from Nothing alike refuses = alike.pattern ∙ refuses
refuses_alike limit limit' s t from Range alike refuses = subst (λ x. IsNowhere x (from.line, from.column)) (sym alike.text) refuses
refuses_alike limit limit' s t from fault alike refuses = absurd refuses

first_alike : (limit limit' : ℕ) (s t : State) (from : Position) (fault : Fault) → AreChosenAlike s t → IsFirstRefusal limit' t (FindNext from) fault → IsFirstRefusal limit s (FindNext from) fault
first_alike limit limit' s t from fault alike first = record {
  refuses = refuses_alike limit limit' s t from fault alike first.refuses;
  none_before = λ other below refuses. first.none_before other below (refuses_alike limit' limit t s from other (turned s t alike) refuses);
}

-- a reply is shown alike in each session
reply_shown : (s t old : State) (from : Position) (reply : Reply) (rows rows' : List (List (ℕ × ℕ))) → Does old (FindNext from) reply s → shows s rows (Ok reply) ≡ shows t rows' (Ok reply)
reply_shown s t old from (Found a z) rows rows' does = refl
reply_shown s t old from NoMatch rows rows' does = refl
reply_shown s t old from reply rows rows' does = absurd does

answers_alike : Known → (limit limit' : ℕ) (s t new new' : State) (from : Position) (a b : Answer) → AllHoldTexts s → AreChosenAlike s t → Step limit s (FindNext from) a new → Step limit' t (FindNext from) b new'
    → a ≢ Err Memory → b ≢ Err Memory → (rows rows' : List (List (ℕ × ℕ))) → shows new rows a ≡ shows new' rows' b
answers_alike known limit limit' s t new new' from (Ok p) (Ok q) all alike one other memory memory' rows rows' =
    let same : p ≡ q = next_one known s from p q new s all one.1 (does_alike s t new' from q alike other.1) in
    reply_shown new new' s from p rows rows' one.1 ∙ ap (λ r. shows new' rows' (Ok r)) same
answers_alike known limit limit' s t new new' from (Ok p) (Err g) all alike one other memory memory' rows rows' =
    absurd (one.0 g (refuses_alike limit limit' s t from g alike (Step-told limit' t (FindNext from) g new' (λ e. memory' (ap Err e)) other).0.refuses))
answers_alike known limit limit' s t new new' from (Err f) (Ok q) all alike one other memory memory' rows rows' =
    absurd (other.0 f (refuses_alike limit' limit t s from f (turned s t alike) (Step-told limit s (FindNext from) f new (λ e. memory (ap Err e)) one).0.refuses))
answers_alike known limit limit' s t new new' from (Err f) (Err g) all alike one other memory memory' rows rows' =
    let told = Step-told limit s (FindNext from) f new (λ e. memory (ap Err e)) one in
    let told' = Step-told limit' t (FindNext from) g new' (λ e. memory' (ap Err e)) other in
    ap (λ h. shows new' rows' (Err h)) (IsFirstRefusal-one limit s (FindNext from) f g told.0 (first_alike limit limit' s t from g alike told'.0))

pub next_alike : Known → FindsAlike
next_alike known limit limit' s t new new' from a b bytes bytes' all alike one other memory memory' shown shown' =
    shown.shown ∙ answers_alike known limit limit' s t new new' from a b all alike one other memory memory' shown.rows shown'.rows ∙ sym shown'.shown

-- ---- matches at boundaries

pub next_bounds : FindsAreInText → FindsBoundaries
next_bounds law limit old new from start end all step =
    let buffer = chosen_buffer old in
    let told = step.1.0 in
    let finds = told.1 in
    record {
      place = finds.place;
      span = told.0;
      searched = finds.starts;
      lies = law (current_text buffer) finds.pattern finds.place told.0 (text_holds buffer (chosen_holds old all)) finds.finds;
      told = told.2;
    }

-- ---- the offsets of an edit

between_places : (text : List ℕ) (from to : Position) (before part behind : List ℕ) → IsBetween text from to before part behind → HavePlaces text from to
between_places text from to before part behind between = record {
  start = byte_len before;
  end = byte_len (before ++ part);
  starts = between.starts;
  ends = between.ends;
  ordered = omega (arith, ap length (encodes-append before part) ∙ length-append (encode_utf8_all before) (encode_utf8_all part));
  told = (between.starts.same, between.ends.same);
}

pub edit_places : EditsHavePlaces
edit_places limit old new from to payload Done step =
    let edit = step.1.3 in
    between_places (current_text (chosen_buffer old)) from to edit.before edit.part edit.behind edit.between
edit_places limit old new from to payload reply step = absurd step.1
