-- The spelling of commands, and how the bytes of an input are read as commands and an ending.
use Rattle.std.specs.Prelude.{◌≡◌, ◌≢◌, ℕ, ◌+◌, ◌-◌, ◌*◌, ◌^◌, ◌<◌, ◌≤◌, ◌⊎◌, List, [], ◌∷◌, ◌++◌, length, codes}
use Rattle.std.specs.List.{AllByRecursion}
use Rattle.rope_search.specs.declared.endings.Ended.{Ended}
use Rattle.rope_search.specs.declared.endings.Ended.TheVariants.{Input, Command, Cut}
use Rattle.rope_search.specs.Order.{Order, SetText, EditText, UndoEdit, RedoEdit, PrintText, ForkBuffer, SetPattern, DropPattern, ListMatches, FindNext, ReplaceAll, UseBuffer}

-- the number that decimal digits spell after those of `n`
abbrev pub digits_after : ℕ → List ℕ → ℕ
digits_after n [] = n
digits_after n (digit ∷ digits) = digits_after (10 * n + (digit - 48)) digits

-- 1 to 20 decimal digits, perhaps with leading zeros, that spell a number below 2^64
pub record IsNumber (digits : List ℕ) (n : ℕ) : Type 0 where
  pub some : 0 < length digits
  pub few : length digits ≤ 20
  pub decimal : AllByRecursion (λ digit. (48 ≤ digit) × (digit ≤ 57)) digits
  pub value : digits_after 0 digits ≡ n
  pub fits : n < 2 ^ 64

-- the bytes after a command's line
abbrev pub payload_of : Order → List ℕ
payload_of (SetText payload) = payload
payload_of (EditText from to payload) = payload
payload_of UndoEdit = []
payload_of RedoEdit = []
payload_of PrintText = []
payload_of ForkBuffer = []
payload_of (SetPattern payload) = payload
payload_of DropPattern = []
payload_of ListMatches = []
payload_of (FindNext from) = []
payload_of (ReplaceAll payload) = payload
payload_of (UseBuffer k) = []

-- numbers, each after one space
abbrev pub AreSpelled : List ℕ → List ℕ → Type 0
AreSpelled [] bytes = bytes ≡ []
AreSpelled (n ∷ ns) bytes =
    (digits : List ℕ) × (others : List ℕ) × IsNumber digits n × AreSpelled ns others
    × (bytes ≡ 32 ∷ digits ++ others)

-- a line is a word followed by these numbers
abbrev pub IsWorded : List ℕ → List ℕ → List ℕ → Type 0
IsWorded word line ns = (numbers : List ℕ) × AreSpelled ns numbers × (line ≡ word ++ numbers)

-- a command's line, without its LF: a word, then its numbers, each after one space
abbrev pub IsLine : Order → List ℕ → Type 0
IsLine (SetText payload) line = IsWorded (codes "text") line (length payload ∷ [])
IsLine (EditText from to payload) line =
    IsWorded (codes "edit") line
    (from.line ∷ from.column ∷ to.line ∷ to.column ∷ length payload ∷ [])
IsLine UndoEdit line = line ≡ codes "undo"
IsLine RedoEdit line = line ≡ codes "redo"
IsLine PrintText line = line ≡ codes "print"
IsLine ForkBuffer line = line ≡ codes "fork"
IsLine (SetPattern payload) line = IsWorded (codes "pattern") line (length payload ∷ [])
IsLine DropPattern line = line ≡ codes "off"
IsLine ListMatches line = line ≡ codes "list"
IsLine (FindNext from) line = IsWorded (codes "next") line (from.line ∷ from.column ∷ [])
IsLine (ReplaceAll payload) line = IsWorded (codes "replace") line (length payload ∷ [])
IsLine (UseBuffer k) line = IsWorded (codes "use") line (k ∷ [])

-- a command is spelled by its line, LF, and its payload
pub record SpellsOrder (order : Order) (bytes : List ℕ) : Type 0 where
  pub line : List ℕ
  pub is_line : IsLine order line
  pub whole : bytes ≡ line ++ 10 ∷ payload_of order

-- commands are spelled one after the other
pub record SpellsFirst (order : Order) (bytes : List ℕ) (Others : List ℕ → Type 0) : Type 0 where
  pub front : List ℕ
  pub back : List ℕ
  pub first : SpellsOrder order front
  pub others : Others back
  pub whole : bytes ≡ front ++ back

abbrev pub SpellAll : List Order → List ℕ → Type 0
SpellAll [] bytes = bytes ≡ []
SpellAll (order ∷ orders) bytes = SpellsFirst order bytes (λ back. SpellAll orders back)

-- none of these bytes is an LF
abbrev pub HasNoLf : List ℕ → Type 0
HasNoLf bytes = AllByRecursion (λ b. b ≢ 10) bytes

-- a line of at most 128 bytes that is no command's, with its LF
pub record IsBadLine (rest : List ℕ) : Type 0 where
  pub line : List ℕ
  pub more : List ℕ
  pub no_lf : HasNoLf line
  pub short : length line ≤ 128
  pub whole : rest ≡ line ++ 10 ∷ more
  pub no_command : (order : Order) → IsLine order line → ⊥

-- 129 bytes without an LF
pub record IsLongLine (rest : List ℕ) : Type 0 where
  pub line : List ℕ
  pub more : List ℕ
  pub no_lf : HasNoLf line
  pub long : length line ≡ 129
  pub whole : rest ≡ line ++ more

-- a line that lacks its LF
pub record IsPartLine (rest : List ℕ) : Type 0 where
  pub no_lf : HasNoLf rest
  pub some : 0 < length rest
  pub short : length rest ≤ 128

-- a command's line, followed by fewer bytes than its payload has
pub record IsPartPayload (rest : List ℕ) : Type 0 where
  pub order : Order
  pub line : List ℕ
  pub part : List ℕ
  pub is_line : IsLine order line
  pub whole : rest ≡ line ++ 10 ∷ part
  pub short : length part < length (payload_of order)

-- the rest, in which no command can be read, and the ending that it means
abbrev pub Ends : List ℕ → Ended → Type 0
Ends rest Input = rest ≡ []
Ends rest Command = IsBadLine rest ⊎ IsLongLine rest
Ends rest Cut = IsPartLine rest ⊎ IsPartPayload rest

-- an input is read as these commands, followed by this ending
pub record Reads (input : List ℕ) (orders : List Order) (ending : Ended) : Type 0 where
  pub spelled : List ℕ
  pub rest : List ℕ
  pub spells : SpellAll orders spelled
  pub ends : Ends rest ending
  pub whole : input ≡ spelled ++ rest
