-- The match after another one: where the search for it starts, and its result.
use Rattle.std.proofs.Common.{◌≡◌, ℕ, List, Option, None, Some, length, ap, ◌∙◌}
use Rattle.std.specs.Prelude.{option_map}
use Rattle.regex_cursor.specs.Patterns.{Asked, AsksFrom, InputState, FoundMatch, answer_slots}
use Rattle.rope_search_reports.specs.Pattern.{span_of}
use Rattle.rope_search_reports.specs.Finders.{FinderTells}

some-is : {A : Type 0} (a b : A) → Some a ≡ Some b → a ≡ b
some-is a b e = cc

-- a search that starts at another offset
pub asks-moved : (content : List ℕ) (from start : ℕ) (old new : InputState) → AsksFrom content from old → new.cursor.content ≡ old.cursor.content
    → new.asked ≡ record old.asked { span = record old.asked.span { start = start } } → AsksFrom content start new
asks-moved content from start old new asks same asked =
    let started : Asked → Asked = λ a. record a { span = record a.span { start = start } } in
    record { content_is = same ∙ asks.content_is; asked_is = asked ∙ ap started asks.asked_is }

-- a match that is returned is one that was found
pub record ToldMatch (P : Option FoundMatch → Type 0) (span : ℕ × ℕ) (slots : List (Option ℕ)) : Type 0 where
  pub t : FoundMatch
  pub is : P (Some t)
  pub span_is : span ≡ span_of t
  pub slots_are : slots ≡ answer_slots (length slots) (Some t)

pub some-told : (P : Option FoundMatch → Type 0) (span : ℕ × ℕ) (slots : List (Option ℕ)) → FinderTells P (Some span) slots → ToldMatch P span slots
some-told P span slots told = by told.out told.is told.span_is told.slots_are
  where
    by : (out : Option FoundMatch) → P out → Some span ≡ option_map span_of out → slots ≡ answer_slots (length slots) out → ToldMatch P span slots
    by None is e same = absurd (cc e)
    by (Some t) is e same = record { t = t; is = is; span_is = some-is span (span_of t) e; slots_are = same }

pub none-told : (P : Option FoundMatch → Type 0) (slots : List (Option ℕ)) → FinderTells P None slots → P None
none-told P slots told = by told.out told.is told.span_is
  where
    by : (out : Option FoundMatch) → P out → None ≡ option_map span_of out → P None
    by None is e = is
    by (Some t) is e = absurd (cc e)
