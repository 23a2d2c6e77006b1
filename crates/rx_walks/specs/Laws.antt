-- Laws of walks and finds.
use Rattle.std.specs.Prelude.{◌≡◌, ℕ, ◌+◌, ◌≤◌, ◌⊎◌, ◌↔◌, Bool, IsTrue, List, [], map, reverse, take, Option, None, Some, option_map, slice_get}
use Rattle.std.specs.Str.{IsUtf8, IsCharBoundary}
use Rattle.rx_walks.specs.Machines.{Machine, Outcome, IsForward, reads}
use Rattle.rx_walks.specs.Walks.{Walk, IsLeast, Reaches}
use Rattle.rx_walks.specs.Paths.{Path, PathThrough, HasNoRepeat}
use Rattle.rx_walks.specs.Characters.{first_character, last_character, StandsFirst, StandsLast}
use Rattle.rx_walks.specs.Looks.{Look, asks_characters, IsEdgeOrAscii, holds_between}
use Rattle.rx_walks.specs.Finds.{Search, up_to_place, IsInside, IsPossible, MayEnd, IsFind, IsFindAll, PatternMatch}
use Rattle.rx_walks.specs.Programs.{Node, set, Program, Haystack, Notes, fresh_notes, put_note, slot_of, over_characters}
use Rattle.rx_walks.specs.ProgramFinds.{ProgramFinds, ProgramFindsAll, ProgramMatches, ProgramMatchesAll, first_by, haystack_of, holds_in, machine_of, start_node, start_of, end_of}
use Rattle.rx_walks.specs.Bytes.{Automaton, run, over_bytes}
use Rattle.rx_walks.specs.Steps.{Best, Steps, Searches, either}
use Rattle.rx_walks.specs.StepsAll.{SearchesAll}
use Rattle.rx_walks.specs.Refinements.{Refines}
use Rattle.rx_walks.specs.Likenesses.{noted_by, Keeping}

-- a match may begin at each possible offset at which an empty match may be
abbrev pub MayBegin : Search → ℕ → Type 0
MayBegin s i = IsPossible s i × (IsTrue s.utf8_empty → IsCharBoundary s.content i)

-- equality is decidable
abbrev pub IsDecidable : Type 0 → Type 0
IsDecidable Q = (a b : Q) → (a ≡ b) ⊎ (a ≡ b → ⊥)

-- reads start where a character may begin
abbrev pub ReadsWhole : {Q N : Type 0} → Machine Q N → List ℕ → Type 0
ReadsWhole {Q} m content = (i j : ℕ) (q r : Q) → m.move i q ≡ reads r j → IsCharBoundary content i

-- the automaton of each node with a set reads the set's characters, and nothing else
abbrev pub ReadsMembers : {L S : Type 0} → (S → List ℕ → Option ℕ) → (ℕ → Automaton)
    → List (Node L S) → Type 0
ReadsMembers {L} {S} first step nodes = (q r : ℕ) (x : S) → slice_get nodes q ≡ Some (set x r)
    → (bs : List ℕ) → run (step q) 0 bs ≡ first x bs

-- ---- the definitions

-- a walk is a path that takes no pair of node and offset twice
abbrev pub WalksTakeNoPairTwice : {Q N : Type 0} → Machine Q N → Type 0
WalksTakeNoPairTwice {Q} {N} m = IsForward m → (n : N) (q : Q) (i : ℕ) (cs : List ℕ) (t : Outcome N)
    → Walk m [] n q i cs t
    ↔ ((pairs : List (Q × ℕ)) × PathThrough m n q i cs pairs t × HasNoRepeat pairs)

-- in each search a program has at most one find
abbrev pub FindsAtMostOne : {S : Type 0} → (S → ℕ → Bool) → (ℕ → Bool) → Program Look S → Type 0
FindsAtMostOne member is_word p = (s : Search) (out out' : Option (Outcome Notes))
    → ProgramFinds member is_word p s out → ProgramFinds member is_word p s out' → out ≡ out'

abbrev pub FindsAllAtMostOne : {S : Type 0} → (S → ℕ → Bool) → (ℕ → Bool) → Program Look S → Type 0
FindsAllAtMostOne member is_word p = (s : Search) (out out' : Option PatternMatch)
    → ProgramFindsAll member is_word p s out → ProgramFindsAll member is_word p s out' → out ≡ out'

-- it has one: a match, or none
abbrev pub FindsExist : {S : Type 0} → (S → ℕ → Bool) → (ℕ → Bool) → Program Look S → Type 0
FindsExist member is_word p =
    (s : Search) → (out : Option (Outcome Notes)) × ProgramFinds member is_word p s out

abbrev pub FindsAllExist : {S : Type 0} → (S → ℕ → Bool) → (ℕ → Bool) → Program Look S → Type 0
FindsAllExist member is_word p =
    (s : Search) → (out : Option PatternMatch) × ProgramFindsAll member is_word p s out

-- it has at most one list of matches
abbrev pub MatchesAreOneList : {S : Type 0} → (S → ℕ → Bool) → (ℕ → Bool) → Program Look S → Type 0
MatchesAreOneList member is_word p = (s : Search) (ms ms' : List (Outcome Notes))
    → ProgramMatches member is_word p s ms → ProgramMatches member is_word p s ms' → ms ≡ ms'

abbrev pub MatchesAllAreOneList : {S : Type 0} → (S → ℕ → Bool) → (ℕ → Bool) → Program Look S
    → Type 0
MatchesAllAreOneList member is_word p = (s : Search) (ms ms' : List PatternMatch)
    → ProgramMatchesAll member is_word p s ms → ProgramMatchesAll member is_word p s ms' → ms ≡ ms'

-- the first character of bytes is the one whose UTF-8 they start with
abbrev pub FirstCharacterStands : Type 0
FirstCharacterStands =
    (bytes : List ℕ) (c : ℕ) → (first_character bytes ≡ Some c) ↔ StandsFirst bytes c

-- the last one is that whose UTF-8 they end with; they are given in reverse order
abbrev pub LastCharacterStands : Type 0
LastCharacterStands =
    (back : List ℕ) (c : ℕ) → (last_character back ≡ Some c) ↔ StandsLast (reverse back) c

-- four bytes on each side decide whether an assertion holds
abbrev pub FourBytesTell : Type 0
FourBytesTell = (is_word : ℕ → Bool) (terminator : ℕ) (l : Look) (before after : List ℕ)
    → holds_between is_word terminator l (take 4 before) (take 4 after)
    ≡ holds_between is_word terminator l before after

-- one byte on each side decides it, if that is a whole character or the assertion isn't about words
abbrev pub OneByteTells : Type 0
OneByteTells = (is_word : ℕ → Bool) (terminator : ℕ) (l : Look) (before after : List ℕ)
    → (IsTrue (asks_characters l) → IsEdgeOrAscii before × IsEdgeOrAscii after)
    → holds_between is_word terminator l (take 1 before) (take 1 after)
    ≡ holds_between is_word terminator l before after

-- a search may find a match from this start to this end
pub record MayBeFound (s : Search) (start end : ℕ) : Type 0 where
  pub possible : IsPossible s start
  pub ordered : start ≤ end
  pub inside : IsInside s end
  pub may_end : MayEnd s start end

-- a find is such a match, and the offset in each slot is between its start and its end
pub record LiesInside (s : Search) (t : Outcome Notes) : Type 0 where
  pub found : MayBeFound s (start_of t) (end_of t)
  pub slots : (slot i : ℕ) → slot_of t.notes slot ≡ Some i → (start_of t ≤ i) × (i ≤ end_of t)

abbrev pub FindsLieInside : {S : Type 0} → (S → ℕ → Bool) → (ℕ → Bool) → Program Look S → Type 0
FindsLieInside member is_word p = (s : Search) (t : Outcome Notes)
    → ProgramFinds member is_word p s (Some t) → LiesInside s t

abbrev pub FindsAllLieInside : {S : Type 0} → (S → ℕ → Bool) → (ℕ → Bool) → Program Look S → Type 0
FindsAllLieInside member is_word p = (s : Search) (a : PatternMatch)
    → ProgramFindsAll member is_word p s (Some a) → MayBeFound s a.start a.end

-- in the span that is cut at its end the find is the same, with the same notes
abbrev pub FindsStayInCutSpans : {S : Type 0} → (S → ℕ → Bool) → (ℕ → Bool) → Program Look S → Type 0
FindsStayInCutSpans member is_word p = (s : Search) (t : Outcome Notes)
    → ProgramFinds member is_word p s (Some t)
    → ProgramFinds member is_word p (up_to_place s (end_of t)) (Some t)

-- if there is a find in a span that is cut, there is one in the whole span
abbrev pub CutSpansTell : {S : Type 0} → (S → ℕ → Bool) → (ℕ → Bool) → Program Look S → Type 0
CutSpansTell member is_word p = (s : Search) (i : ℕ) (t : Outcome Notes) → i ≤ s.end
    → ProgramFinds member is_word p (up_to_place s i) (Some t)
    → (whole : Outcome Notes) × ProgramFinds member is_word p s (Some whole)

-- it starts and ends at character boundaries of the haystack, and the offsets in its slots are such
pub record StandsAtBoundaries (content : List ℕ) (t : Outcome Notes) : Type 0 where
  pub start : IsCharBoundary content (start_of t)
  pub end : IsCharBoundary content (end_of t)
  pub slots : (slot i : ℕ) → slot_of t.notes slot ≡ Some i → IsCharBoundary content i

-- in UTF-8 a find has whole characters, if empty matches inside one are skipped
abbrev pub FindsStandAtBoundaries : {S : Type 0} → (S → ℕ → Bool) → (ℕ → Bool) → Program Look S → Type 0
FindsStandAtBoundaries member is_word p = (s : Search) (t : Outcome Notes) → IsUtf8 s.content
    → IsTrue s.utf8_empty → ProgramFinds member is_word p s (Some t) → StandsAtBoundaries s.content t

abbrev pub FindsAllStandAtBoundaries : {S : Type 0} → (S → ℕ → Bool) → (ℕ → Bool) → Program Look S → Type 0
FindsAllStandAtBoundaries member is_word p = (s : Search) (a : PatternMatch) → IsUtf8 s.content
    → IsTrue s.utf8_empty → ProgramFindsAll member is_word p s (Some a)
    → IsCharBoundary s.content a.start × IsCharBoundary s.content a.end

-- ---- threads

-- one step keeps the best walk: it is the best one at the next offset, or the match end
abbrev pub StepsKeepBest : {Q N : Type 0} → Machine Q N → Type 0
StepsKeepBest {Q} {N} m =
    (i : ℕ) (seen : List Q) (threads next : List (N × Q)) (met out : Option (Outcome N))
    → Steps m i seen threads next met → Best m [] (i + 1) next out
    → Best m seen i threads (either out met)

-- the search loop with a machine of single steps finds what the machine that it refines does
abbrev pub SearchesFind : {C B N : Type 0} → Machine C N → Machine B N → (C → B) → Type 0
SearchesFind {C} {B} {N} c b f =
    (s : Search) (fresh : ℕ → N) (q : C) (out : Option (Outcome N)) → Refines c b f
    → ReadsWhole c s.content → Searches b (MayBegin s) fresh (f q) s.start [] None out
    → IsFind c fresh s q out

-- the search loop for all matches finds the greatest end
abbrev pub SearchesFindAll : {C B N : Type 0} → Machine C N → Machine B N → (C → B) → Type 0
SearchesFindAll {C} {B} {N} c b f =
    (s : Search) (fresh : ℕ → N) (q : C) (out : Option PatternMatch) → Refines c b f
    → ReadsWhole c s.content → IsForward b → IsDecidable C → IsDecidable B
    → SearchesAll b (MayBegin s) (f q) s.start [] None out → IsFindAll c fresh s q out

-- ---- paths and smaller steps

-- there is a path to an end exactly if there is a walk
abbrev pub PathsHaveWalks : {Q N : Type 0} → Machine Q N → Type 0
PathsHaveWalks {Q} {N} m =
    IsDecidable Q → (n : N) (q : Q) (i p e : ℕ) → Path m q i p e ↔ Reaches m [] n q i p e

-- the walks of both machines are equal, and their least walks
abbrev pub WalksAgree : {C B N : Type 0} → Machine C N → Machine B N → (C → B) → Type 0
WalksAgree {C} {B} {N} c b f = Refines c b f → (seen : List C) (n : N) (q : C) (i : ℕ)
    → ((choices : List ℕ) (t : Outcome N) → Walk c seen n q i choices t
    ↔ Walk b (map f seen) n (f q) i choices t)
    × ((t : Outcome N) → IsLeast c seen n q i t ↔ IsLeast b (map f seen) n (f q) i t)

-- their paths are equal
abbrev pub PathsAgree : {C B N : Type 0} → Machine C N → Machine B N → (C → B) → Type 0
PathsAgree {C} {B} {N} c b f = Refines c b f → IsDecidable C → IsDecidable B → N
    → (q : C) (i p e : ℕ)
    → Path c q i p e ↔ Path b (f q) i p e

-- ---- programs

-- a program's machine over bytes refines its machine over characters
abbrev pub BytesRefine : {L S N : Type 0} → (ℕ → ℕ → N → N) → (S → List ℕ → Option ℕ)
    → (ℕ → Automaton) → List (Node L S) → Haystack L → Type 0
BytesRefine put first step nodes h = ReadsMembers first step nodes
    → Refines (over_characters put first nodes h) (over_bytes put step nodes h) (λ q. (q, 0))

-- both machines have the same walks from each node at each offset, the same least walks, and the
-- same paths
pub record HasWalksOf {C B N : Type 0} (c : Machine C N) (b : Machine B N)
    (f : C → B) : Type 0 where
  pub walks : (n : N) (q : C) (i : ℕ) (choices : List ℕ) (t : Outcome N)
      → Walk c [] n q i choices t ↔ Walk b [] n (f q) i choices t
  pub least : (n : N) (q : C) (i : ℕ) (t : Outcome N)
      → IsLeast c [] n q i t ↔ IsLeast b [] n (f q) i t
  pub paths : (q : C) (i p e : ℕ) → Path c q i p e ↔ Path b (f q) i p e

-- the machine of a search whose reads are single bytes
abbrev pub byte_machine_of : {S : Type 0} → (ℕ → Bool) → Program Look S → (ℕ → Automaton) → Search
    → Machine (ℕ × ℕ) Notes
byte_machine_of is_word p step s =
    over_bytes put_note step p.nodes (haystack_of (holds_in is_word p.line_terminator s) s)

-- in each search a program over bytes has the walks of the one over characters
abbrev pub ProgramWalksAgree : {S : Type 0} → (S → ℕ → Bool) → (ℕ → Bool) → Program Look S
    → (ℕ → Automaton) → Type 0
ProgramWalksAgree member is_word p step = ReadsMembers (first_by member) step p.nodes → (s : Search)
    → HasWalksOf (machine_of member is_word p s) (byte_machine_of is_word p step s) (λ q. (q, 0))

-- the search loop of a program over bytes finds what the program over characters does
abbrev pub ProgramsFind : {L S N : Type 0} → (ℕ → ℕ → N → N) → (S → ℕ → Bool) → (ℕ → Automaton)
    → List (Node L S) → (L → ℕ → Bool) → Type 0
ProgramsFind {L} {S} {N} put member step nodes holds =
    (s : Search) (fresh : ℕ → N) (q : ℕ) (out : Option (Outcome N))
    → ReadsMembers (first_by member) step nodes
    → Searches (over_bytes put step nodes (haystack_of holds s)) (MayBegin s) fresh
    (q, 0) s.start [] None out
    → IsFind (over_characters put (first_by member) nodes (haystack_of holds s)) fresh s q out

-- for all matches it finds the greatest end
abbrev pub ProgramsFindAll : {L S N : Type 0} → (ℕ → ℕ → N → N) → (S → ℕ → Bool) → (ℕ → Automaton)
    → List (Node L S) → (L → ℕ → Bool) → Type 0
ProgramsFindAll {L} {S} {N} put member step nodes holds =
    (s : Search) (fresh : ℕ → N) (q : ℕ) (out : Option PatternMatch)
    → ReadsMembers (first_by member) step nodes
    → SearchesAll (over_bytes put step nodes (haystack_of holds s)) (MayBegin s)
    (q, 0) s.start [] None out
    → IsFindAll (over_characters put (first_by member) nodes (haystack_of holds s)) fresh s q out

-- the same for a whole program, from its start node
abbrev pub ProgramIsSearched : {S : Type 0} → (S → ℕ → Bool) → (ℕ → Bool) → Program Look S
    → (ℕ → Automaton) → Type 0
ProgramIsSearched member is_word p step = ReadsMembers (first_by member) step p.nodes
    → (s : Search) (q : ℕ) (out : Option (Outcome Notes)) → start_node p s.anchoring ≡ Some q
    → Searches (byte_machine_of is_word p step s) (MayBegin s) fresh_notes
    (q, 0) s.start [] None out
    → ProgramFinds member is_word p s out

-- the same for machines that keep something else in place of notes
abbrev pub ProgramIsSearchedKeeping : {S N : Type 0} → Keeping N → (S → ℕ → Bool) → (ℕ → Bool)
    → Program Look S → (ℕ → Automaton) → Type 0
ProgramIsSearchedKeeping {S} {N} keeping member is_word p step =
    ReadsMembers (first_by member) step p.nodes
    → (s : Search) (q : ℕ) (out : Option (Outcome N)) → start_node p s.anchoring ≡ Some q
    → Searches
    (over_bytes keeping.put step p.nodes (haystack_of (holds_in is_word p.line_terminator s) s))
    (MayBegin s) (λ i. keeping.kept (fresh_notes i)) (q, 0) s.start [] None out
    → (found : Option (Outcome Notes)) × (option_map (noted_by keeping.kept) found ≡ out)
    × ProgramFinds member is_word p s found

abbrev pub ProgramIsSearchedForAll : {S : Type 0} → (S → ℕ → Bool) → (ℕ → Bool) → Program Look S
    → (ℕ → Automaton) → Type 0
ProgramIsSearchedForAll member is_word p step = ReadsMembers (first_by member) step p.nodes
    → (s : Search) (q : ℕ) (out : Option PatternMatch) → start_node p s.anchoring ≡ Some q
    → SearchesAll (byte_machine_of is_word p step s) (MayBegin s) (q, 0) s.start [] None out
    → ProgramFindsAll member is_word p s out

-- both machines of a program read forward
pub record ProgramsReadForward {L S N : Type 0} (put : ℕ → ℕ → N → N) (member : S → ℕ → Bool)
    (step : ℕ → Automaton) (nodes : List (Node L S)) (h : Haystack L) : Type 0 where
  pub characters : IsForward (over_characters put (first_by member) nodes h)
  pub bytes : IsForward (over_bytes put step nodes h)
