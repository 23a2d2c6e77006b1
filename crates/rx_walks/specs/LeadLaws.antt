-- Laws of leading nodes, and of finds with them.
use Rattle.std.specs.Prelude.{◌≡◌, ℕ, ◌+◌, ◌≤◌, ◌⊎◌, ◌↔◌, Bool, false, IsTrue, List, [], ◌∷◌, map, Some, None, Contains}
use Rattle.rx_walks.specs.Machines.{Machine, Outcome, IsForward, goes, reads}
use Rattle.rx_walks.specs.Walks.{IsLeast}
use Rattle.rx_walks.specs.Looks.{Look}
use Rattle.rx_walks.specs.Finds.{Search, from_place_on, Counts}
use Rattle.rx_walks.specs.Programs.{Node, Haystack, Program, Notes, fresh_notes}
use Rattle.rx_walks.specs.ProgramFinds.{ProgramMatches, machine_of, start_node, first_by, haystack_of, holds_in}
use Rattle.rx_walks.specs.Bytes.{Automaton, over_bytes}
use Rattle.rx_walks.specs.Likenesses.{noted_by, Keeping}
use Rattle.rx_walks.specs.Laws.{MayBegin, IsDecidable, ReadsMembers}
use Rattle.rx_walks.specs.Leading.{LeadsToMatch, Follows, LeadsBy}
use Rattle.rx_walks.specs.Listings.{Listing}

-- the walk followed over leading nodes is the least walk; if nothing is found, the node doesn't
-- lead
pub record FollowsLeast {Q N : Type 0} (m : Machine Q N) (n : N) (q : Q) (i : ℕ) : Type 0 where
  pub least : (t : Outcome N) → Follows m i [] ((n, q) ∷ []) (Some t) ↔ IsLeast m [] n q i t
  pub leads_not : Follows m i [] ((n, q) ∷ []) None ↔ (LeadsToMatch m q i → ⊥)

-- only up to some offset, and only at listed nodes, is there a move
pub record IsFinite {Q N : Type 0} (m : Machine Q N) : Type 0 where
  pub high : ℕ
  pub nodes : List Q
  pub still_or_there : (i : ℕ) (q : Q) → (m.move i q ≡ goes []) ⊎ ((i ≤ high) × Contains nodes q)

-- whether a node leads is decidable
abbrev pub LeadsIsKnown : {Q N : Type 0} → Machine Q N → Type 0
LeadsIsKnown {Q} {N} m = N → IsDecidable Q → IsForward m → IsFinite m → (q : Q) (i : ℕ)
    → LeadsToMatch m q i ⊎ (LeadsToMatch m q i → ⊥)

-- each read is of one byte
abbrev pub IsStepped : {Q N : Type 0} → Machine Q N → Type 0
IsStepped {Q} m = (i j : ℕ) (q r : Q) → m.move i q ≡ reads r j → j ≡ i + 1

-- the nodes that lead at an offset follow from those that lead at the next
abbrev pub LeadsIsToldBack : {Q N : Type 0} → Machine Q N → Type 0
LeadsIsToldBack {Q} m = IsStepped m → (i : ℕ) (beyond : Q → Bool)
    → ((r : Q) → IsTrue (beyond r) ↔ LeadsToMatch m r (i + 1))
    → (q : Q) → LeadsBy m i (λ r. IsTrue (beyond r)) q ↔ LeadsToMatch m q i

-- from each node the least walk is followed, or the node doesn't lead
abbrev pub LeastIsFollowed : {Q N : Type 0} → Machine Q N → Type 0
LeastIsFollowed {Q} {N} m = IsDecidable Q → IsForward m → IsFinite m → (n : N) (q : Q) (i : ℕ)
    → FollowsLeast m n q i

-- the walk that is followed is the least one, in any machine
abbrev pub FollowedIsLeast : {Q N : Type 0} → Machine Q N → Type 0
FollowedIsLeast {Q} {N} m = IsDecidable Q → (n : N) (q : Q) (i : ℕ) (t : Outcome N)
    → Follows m i [] ((n, q) ∷ []) (Some t) → IsLeast m [] n q i t

-- a start counts exactly if a match may begin there and the node leads
abbrev pub StartsCountWhereTheyLead : {S : Type 0} → (S → ℕ → Bool) → (ℕ → Bool) → Program Look S
    → Type 0
StartsCountWhereTheyLead member is_word p = (s : Search) (q i : ℕ)
    → ((t : Outcome Notes) × Counts (machine_of member is_word p s) fresh_notes s q i t)
    ↔ (MayBegin s i × LeadsToMatch (machine_of member is_word p s) q i)

-- a list built with leading nodes is the list of matches; in a search from an offset on, a match
-- may begin as in the search with that start
abbrev pub begins_from : Search → ℕ → ℕ → Type 0
begins_from s from i = MayBegin (from_place_on s from) i

abbrev pub ListingsAreMatches : {S : Type 0} → (S → ℕ → Bool) → (ℕ → Bool) → Program Look S → Type 0
ListingsAreMatches member is_word p = (s : Search) (q : ℕ) (ms : List (Outcome Notes))
    → start_node p s.anchoring ≡ Some q
    → Listing (machine_of member is_word p s) (begins_from s) fresh_notes q false s.start s.start ms
    → ProgramMatches member is_word p s ms

-- there is such a list
abbrev pub ListingsExist : {S : Type 0} → (S → ℕ → Bool) → (ℕ → Bool) → Program Look S → Type 0
ListingsExist member is_word p = (s : Search) (q : ℕ) → (ms : List (Outcome Notes))
    × Listing (machine_of member is_word p s) (begins_from s) fresh_notes q false s.start s.start ms

-- a program over bytes reads them one by one
abbrev pub BytesAreStepped : {L S N : Type 0} → (ℕ → ℕ → N → N) → (ℕ → Automaton)
    → List (Node L S) → Haystack L → Type 0
BytesAreStepped put step nodes h = IsStepped (over_bytes put step nodes h)

-- a list built over bytes is the list of matches; if machines keep something else in place of
-- notes, it has what they keep of the matches
abbrev pub ByteListingsAreMatches : {S N : Type 0} → Keeping N → (S → ℕ → Bool) → (ℕ → Bool)
    → Program Look S → (ℕ → Automaton) → Type 0
ByteListingsAreMatches {S} {N} keeping member is_word p step =
    ReadsMembers (first_by member) step p.nodes
    → (s : Search) (q : ℕ) (ms : List (Outcome N)) → start_node p s.anchoring ≡ Some q
    → Listing
    (over_bytes keeping.put step p.nodes (haystack_of (holds_in is_word p.line_terminator s) s))
    (begins_from s) (λ i. keeping.kept (fresh_notes i)) (q, 0) false s.start s.start ms
    → (own : List (Outcome Notes)) × (map (noted_by keeping.kept) own ≡ ms)
    × ProgramMatches member is_word p s own
