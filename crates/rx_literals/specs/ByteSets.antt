-- Sets of bytes that the matches of a program begin with, and what they imply for its searches. A
-- set is a list that has, for each byte, whether it is a member.
use Rattle.std.specs.Prelude.{◌≡◌, ℕ, ◌<◌, ◌≤◌, Bool, true, false, List, [], length, take, get_or, Option, Some, None, slice_get}
use Rattle.rx_sets.specs.Sets.{Range}
use Rattle.rx_utf8.specs.Automata.{is_in}
use Rattle.rx_input.specs.Inputs.{InputState}
use Rattle.rx_walks.specs.Characters.{member_len}
use Rattle.rx_walks.specs.Looks.{Look}
use Rattle.rx_walks.specs.Machines.{Outcome}
use Rattle.rx_walks.specs.Walks.{Walk}
use Rattle.rx_walks.specs.Finds.{Search, unanchored, from_place_on, IsInside}
use Rattle.rx_walks.specs.Programs.{Node, Program, Notes, fresh_notes, match, pass, note, look, set}
use Rattle.rx_walks.specs.ProgramFinds.{ProgramFinds, highest, machine_of}
use Rattle.rx_literals.specs.Endings.{MayCome}
use Rattle.rx_literals.specs.Needles.{bytes_to_end}

-- at this offset of the bytes is a member of the set
pub record HasMemberAt (members : List Bool) (bytes : List ℕ) (i : ℕ) : Type 0 where
  pub inside : i < length bytes
  pub is_member : get_or members (get_or bytes i 0) false ≡ true

-- no member is at an offset from one up to another
abbrev pub HasNoMemberBetween : List Bool → List ℕ → ℕ → ℕ → Type 0
HasNoMemberBetween members bytes from to =
    (i : ℕ) → from ≤ i → i < to → HasMemberAt members bytes i → ⊥

-- this is the first offset of a member, from one offset up to another
pub record IsFirstMember (members : List Bool) (bytes : List ℕ) (from to at : ℕ) : Type 0 where
  pub low : from ≤ at
  pub high : at < to
  pub has : HasMemberAt members bytes at
  pub before : HasNoMemberBetween members bytes from at

-- the first offset of a member, if there is one, from one offset up to another
abbrev pub FirstMemberBetween : List Bool → List ℕ → ℕ → ℕ → Option ℕ → Type 0
FirstMemberBetween members bytes from to None = HasNoMemberBetween members bytes from to
FirstMemberBetween members bytes from to (Some at) = IsFirstMember members bytes from to at

-- each match of the program begins with a member: if a walk from the start node, at any position of
-- any search, leads to a match, then a member is at this position, inside span and slice
abbrev pub MatchesBeginIn : List Bool → Program Look (List Range) → Type 0
MatchesBeginIn members p =
    (is_word : ℕ → Bool) (s : Search) (i : ℕ) (choices : List ℕ) (t : Outcome Notes) → IsInside s i
    → Walk (machine_of is_in is_word p s) [] (fresh_notes i) p.start i choices t
    → HasMemberAt members (take (highest s) s.content) i

-- the first offset of a member in a search's span
abbrev pub FirstMember : List Bool → Search → Option ℕ → Type 0
FirstMember members s out =
    FirstMemberBetween members (take s.end s.content) s.start s.end out

-- the first offset of a member in an input's span
abbrev pub FirstMemberInSpan : List Bool → InputState → Option ℕ → Type 0
FirstMemberInSpan members i out =
    FirstMemberBetween members (bytes_to_end i) i.asked.span.start i.asked.span.end out

-- if the span has no member, an unanchored search finds nothing
abbrev pub NoMemberNoMatch : Type 0
NoMemberNoMatch = (members : List Bool) (p : Program Look (List Range)) (is_word : ℕ → Bool)
    (s : Search)
    → MatchesBeginIn members p → s.anchoring ≡ unanchored → FirstMember members s None
    → ProgramFinds is_in is_word p s None

-- if it has one, an unanchored search finds what it finds from the first one on
abbrev pub MatchesComeFromMember : Type 0
MatchesComeFromMember = (members : List Bool) (p : Program Look (List Range)) (is_word : ℕ → Bool)
    (s : Search) (place : ℕ) (out : Option (Outcome Notes))
    → MatchesBeginIn members p → s.anchoring ≡ unanchored → FirstMember members s (Some place)
    → ProgramFinds is_in is_word p (from_place_on s place) out
    → ProgramFinds is_in is_word p s out

-- ---- marks at the nodes that walks reach before they read a character

-- each member of the first set is a member of the second
abbrev pub HasMoreMembers : List Bool → List Bool → Type 0
HasMoreMembers before after =
    (b : ℕ) → get_or before b false ≡ true → get_or after b false ≡ true

-- the encoding of each character in these ranges begins with a member
abbrev pub BeginWithMembers : List Bool → List Range → Type 0
BeginWithMembers members ranges = (bytes : List ℕ) (k : ℕ)
    → member_len (is_in ranges) bytes ≡ Some k → HasMemberAt members bytes 0

-- a node isn't a match; the nodes to which its empty edges lead are marked, and the characters that
-- it reads begin with members
abbrev pub LeadsOrReads : List Bool → List Bool → Node Look (List Range) → Type 0
LeadsOrReads members marks (match k) = ⊥
LeadsOrReads members marks (pass rs) = (k r : ℕ) → slice_get rs k ≡ Some r → MayCome marks r
LeadsOrReads members marks (note slot r) = MayCome marks r
LeadsOrReads members marks (look l r) = MayCome marks r
LeadsOrReads members marks (set x r) = BeginWithMembers members x

-- this holds of each marked node
abbrev pub MarksBegin : List (Node Look (List Range)) → List Bool → List Bool → Type 0
MarksBegin nodes members marks = (q : ℕ) (here : Node Look (List Range))
    → slice_get nodes q ≡ Some here → MayCome marks q → LeadsOrReads members marks here
