-- Why bytes aren't a pattern, as C gets it.
use Rattle.std.specs.Prelude.{◌≡◌, ◌⊎◌, ℕ, List}
use Rattle.std.specs.Str.{IsCharBoundary, IsUtf8}
use Rattle.rope_search_reports.specs.Explaining.{Mistake, OpenGroup, NoOpenGroup, NothingToRepeat, Count, LargeCount, CountOrder, Escape, Scalar, OpenClass, ClassItem, RangeOrder, GroupHead, RepeatedName, Dot, Reason, TooLong, Nesting, Outside, IsRefusedAs, default_settings}
use Rattle.rope_search_io.specs.declared.faults.Fault.TheVariants.{Pattern}
use Rattle.rope_search.specs.declared.commands.CommandOf.TheVariants.{Pattern as SetPattern}
use Rattle.rope_search.specs.Session.{State}
use Rattle.rope_search.specs.Step.{Refuses}
use Rattle.rope_search_c.specs.declared.pattern_errors.PatternReason.{PatternReason}

-- the number of a mistake in a text
abbrev pub mistake_number : Mistake → ℕ
mistake_number OpenGroup = 2
mistake_number NoOpenGroup = 3
mistake_number NothingToRepeat = 4
mistake_number Count = 5
mistake_number LargeCount = 6
mistake_number CountOrder = 7
mistake_number Escape = 8
mistake_number Scalar = 9
mistake_number OpenClass = 10
mistake_number ClassItem = 11
mistake_number RangeOrder = 12
mistake_number GroupHead = 13
mistake_number RepeatedName = 14
mistake_number Dot = 15

-- the number of the reason for which a text is no pattern; 0 if it is none of these
abbrev pub reason_number : Reason → ℕ
reason_number TooLong = 0
reason_number Nesting = 1
reason_number (Outside mistake) = mistake_number mistake

-- any session refuses the bytes because they are no pattern
abbrev pub AreNoPattern : List ℕ → Type 0
AreNoPattern bytes = (limit : ℕ) (session : State) → Refuses limit session (SetPattern bytes) Pattern

-- the reason for that, by its number, and an offset at which a character starts or the text ends
pub record TellsWhy (bytes : List ℕ) (told : PatternReason) : Type 0 where
  pub none : AreNoPattern bytes
  pub reason : Reason
  pub refused : IsRefusedAs reason bytes default_settings
  pub named : told.reason ≡ reason_number reason
  pub place : IsCharBoundary bytes told.place

-- they aren't refused for that, if they are refused
pub record TellsNothing (bytes : List ℕ) (told : PatternReason) : Type 0 where
  pub others : AreNoPattern bytes → ⊥
  pub named : told.reason ≡ 0
  pub place : told.place ≡ 0

-- Either of these, with status 0; or that they aren't UTF-8, with status 3, or out of memory, with
-- status 7, and the output is unchanged.
abbrev pub TellsError : List ℕ → ℕ → PatternReason → PatternReason → Type 0
TellsError bytes status old new =
    ((status ≡ 0) × (TellsWhy bytes new ⊎ TellsNothing bytes new))
    ⊎ ((new ≡ old) × (((status ≡ 3) × ¬ (IsUtf8 bytes)) ⊎ (status ≡ 7)))
