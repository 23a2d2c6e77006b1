-- What marks at nodes tell of the bytes that matches begin with, and what these tell of a search.
use Rattle.std.proofs.Common.{◌≡◌, ℕ, suc, ◌+◌, ◌<◌, ◌≤◌, Bool, true, false, List, [], ◌∷◌, length, map, take, drop, get_or, Option, None, Some, option_map, slice_get, refl, sym, ap, subst, ◌∙◌, arith, inl, inr}
use Rattle.std.proofs.lemmas.Bool.{cases_lt}
use Rattle.std.proofs.lemmas.Option.{same_Some, slice_get-map, slice_get_within}
use Rattle.std.proofs.lemmas.List.{length-take, length-drop, get_or-take, get_or-drop}
use Rattle.std.proofs.lemmas.List.Elements.{All-head}
use Rattle.std.specs.List.{All}
use Rattle.rx_sets.specs.Sets.{Range}
use Rattle.rx_utf8.specs.declared.byte_ranges.ByteRange.{ByteRange}
use Rattle.rx_utf8.specs.Automata.{IsAutomatonRow, IsReader, Reader, is_in, look_up, step_of}
use Rattle.rx_utf8.proofs.RowLaws.{rise_above}
use Rattle.rx_walks.specs.Bytes.{run}
use Rattle.rx_walks.specs.Finds.{Search, unanchored, from_place_on, Counts, not_found}
use Rattle.rx_walks.specs.Looks.{Look}
use Rattle.rx_walks.specs.Machines.{Outcome}
use Rattle.rx_walks.specs.Programs.{Node, Program, Haystack, Notes, match, pass, note, look, set, fresh_notes, put_note, left_from}
use Rattle.rx_walks.specs.ProgramFinds.{ProgramFinds, first_by, haystack_of, highest, holds_in, machine_of}
use Rattle.rx_walks.specs.Trails.{Trail, trail_end, trail_on, by_pass, by_note, by_look, by_set}
use Rattle.rx_walks.proofs.PathLaws.{walk_has_path}
use Rattle.rx_walks.proofs.TrailLaws.{path_trail}
use Rattle.rx_program.specs.Programs.{node_of}
use Rattle.rx_program.specs.declared.states.State.{State}
use Rattle.rx_literals.specs.Endings.{MayCome}
use Rattle.rx_literals.specs.ByteSets.{BeginWithMembers, FirstMember, HasMemberAt, HasMoreMembers, LeadsOrReads, MarksBegin, MatchesBeginIn, MatchesComeFromMember, NoMemberNoMatch}
use Rattle.rx_literals.proofs.BehindLaws.{found_all, starting}

-- a member that is first behind a place is at that place
pub first_left : (members : List Bool) (bytes : List ℕ) (i : ℕ) → HasMemberAt members (drop i bytes) 0 → HasMemberAt members bytes i
first_left members bytes i has =
    let same : i + 0 ≡ i = omega arith in
    record {
      inside = omega (arith, has.inside, length-drop i bytes);
      is_member = ap (λ b. get_or members b false) (sym (get_or-drop i bytes 0 0 ∙ ap (λ k. get_or bytes k 0) same)) ∙ has.is_member;
    }

-- one that is before a cut is there where the cut is later
pub in_more : (members : List Bool) (content : List ℕ) (n m i : ℕ) → n ≤ m → HasMemberAt members (take n content) i → HasMemberAt members (take m content) i
in_more members content n m i fewer has =
    let low : i < n = omega (arith, has.inside, length-take n content) in
    record {
      inside = omega (arith, has.inside, length-take n content, length-take m content, fewer);
      is_member = ap (λ b. get_or members b false) (get_or-take m content i 0 (omega (arith, low, fewer)) ∙ sym (get_or-take n content i 0 low)) ∙ has.is_member;
    }

-- ---- marks

module _ (is_word : ℕ → Bool) (p : Program Look (List Range)) (s : Search) (members marks : List Bool) (closed : MarksBegin p.nodes members marks) where
  abbrev H : Haystack Look
  H = haystack_of (holds_in is_word p.line_terminator s) s

  begins : {q i k e : ℕ} → MayCome marks q → Trail (first_by is_in) p.nodes H q i k e → HasMemberAt members (take (highest s) s.content) i
  begins may (trail_end {q = q} {p = k} within at) = absurd (closed q (match k) at may)
  begins may (trail_on within (by_pass {q = q} {r = r} rs k at got) trail) = begins (closed q (pass rs) at may k r got) trail
  begins may (trail_on within (by_note {q = q} {r = r} slot at) trail) = begins (closed q (note slot r) at may) trail
  begins may (trail_on within (by_look {q = q} {r = r} l at holds) trail) = begins (closed q (look l r) at may) trail
  begins may (trail_on {i = i} within (by_set {q = q} {r = r} x k at read to) trail) =
      first_left members (take (highest s) s.content) i (closed q (set x r) at may (left_from H i) k read)

-- where they are closed and lie at the start, all matches begin with a member
pub closed_begin : (p : Program Look (List Range)) (members marks : List Bool) → MarksBegin p.nodes members marks → MayCome marks p.start → MatchesBeginIn members p
closed_begin p members marks closed may is_word s i choices t inside walk =
    begins is_word p s members marks closed may (path_trail put_note (first_by is_in) p.nodes (haystack_of (holds_in is_word p.line_terminator s) s) (walk_has_path walk))

-- ---- what an automaton reads first

-- where a byte leads nowhere, nothing is read from it on
leads_nowhere : (reader : Reader) (b : ℕ) (bs : List ℕ) (k : ℕ) → run (step_of reader) 0 (b ∷ bs) ≡ Some k → step_of reader 0 b ≡ None → ⊥
leads_nowhere reader b bs k read nowhere =
    let nothing : None ≡ Some k = subst (λ (o : Option (Option ℕ)). elim o [ None ↦ None | Some None ↦ Some 1 | Some (Some next) ↦ option_map suc (run (step_of reader) next bs) ] ≡ Some k) nowhere read in
    absurd (cc nothing)

above_none : (reader : Reader) → IsReader reader → (b : ℕ) → 256 ≤ b → step_of reader 0 b ≡ None
above_none reader is b above = by (get_or reader.rows 0 []) (row_rises reader.rows is.disjoint)
  where
    row_rises : (rows : List (List ByteRange)) → All IsAutomatonRow rows → IsAutomatonRow (get_or rows 0 [])
    row_rises [] all = omega arith
    row_rises (row ∷ rows) all = All-head IsAutomatonRow row rows all

    by : (row : List ByteRange) → IsAutomatonRow row → look_up row b ≡ None
    by row rises = rise_above 0 256 row b rises above

-- the characters of its set begin with the bytes that lead on from its first state
pub begin_with : (members : List Bool) (reader : Reader) → IsReader reader → ((b : ℕ) → b < 256 → (step_of reader 0 b ≡ None → ⊥) → get_or members b false ≡ true) → BeginWithMembers members reader.ranges
begin_with members reader is put bytes k read = by bytes (is.reads bytes ∙ read)
  where
    by : (bytes : List ℕ) → run (step_of reader) 0 bytes ≡ Some k → HasMemberAt members bytes 0
    by [] e = absurd (cc e)
    by (b ∷ bs) e =
        let leads : step_of reader 0 b ≡ None → ⊥ = λ nowhere. leads_nowhere reader b bs k e nowhere in
        record {
          inside = omega arith;
          is_member = elim (cases_lt b 256) [
            | inl below ↦ put b below leads
            | inr above ↦ absurd (leads (above_none reader is b above))
          ];
        }

-- ---- states that are gone through

pub leads_more : (members more marks : List Bool) → HasMoreMembers members more → (here : Node Look (List Range)) → LeadsOrReads members marks here → LeadsOrReads more marks here
leads_more members more marks grows (match k) leads = leads
leads_more members more marks grows (pass rs) leads = leads
leads_more members more marks grows (note slot r) leads = leads
leads_more members more marks grows (look l r) leads = leads
leads_more members more marks grows (set x r) leads = λ bytes k read.
    let has = leads bytes k read in
    record { inside = has.inside; is_member = grows (get_or bytes 0 0) has.is_member }

-- so far each of them leads on or reads members
abbrev pub BeginSoFar : List State → List Bool → List Bool → ℕ → Type 0
BeginSoFar states members marks index = (q : ℕ) (here : State) → q < index → slice_get states q ≡ Some here → MayCome marks q → LeadsOrReads members marks (node_of here)

pub one_more : (states : List State) (members more marks new : List Bool) (index : ℕ) (here : State) → HasMoreMembers members more → new ≡ marks → slice_get states index ≡ Some here → LeadsOrReads more new (node_of here) → BeginSoFar states members marks index → BeginSoFar states more new (index + 1)
one_more states members more marks new index here grows kept at leads so_far q x below at_q may = elim (cases_lt q index) [
  | inl before ↦ subst (λ xs. LeadsOrReads more xs (node_of x)) (sym kept) (leads_more members more marks grows (node_of x) (so_far q x before at_q (subst (λ xs. MayCome xs q) kept may)))
  | inr behind ↦ (let same : q ≡ index = omega (arith, below, behind) in
      let is : here ≡ x = same_Some here x (sym at ∙ ap (slice_get states) (sym same) ∙ at_q) in
      subst (λ y. LeadsOrReads more new (node_of y)) is leads)
]

pub all_begin : (states : List State) (members marks : List Bool) (index : ℕ) → length states ≤ index → BeginSoFar states members marks index → MarksBegin (map node_of states) members marks
all_begin states members marks index past so_far q node at may = by (slice_get states q) refl (sym (slice_get-map node_of states q) ∙ at)
  where
    by : (o : Option State) → slice_get states q ≡ o → option_map node_of o ≡ Some node → LeadsOrReads members marks node
    by None at e = absurd (cc e)
    by (Some here) at e = subst (LeadsOrReads members marks) (same_Some (node_of here) node e) (so_far q here (omega (arith, slice_get_within states q here at, past)) at may)

-- ---- what that tells of a search

module _ (members : List Bool) (p : Program Look (List Range)) (is_word : ℕ → Bool) (s : Search) (begin : MatchesBeginIn members p) where
  -- a member is at a start that counts
  member_there : (i : ℕ) (t : Outcome Notes) → Counts (machine_of is_in is_word p s) fresh_notes s p.start i t → HasMemberAt members (take s.end s.content) i
  member_there i t counts =
      in_more members s.content (highest s) s.end i (omega arith) (begin is_word s i counts.least.choices t counts.possible.0 counts.least.walk)

  below_end : (i : ℕ) → HasMemberAt members (take s.end s.content) i → i < s.end
  below_end i has = omega (arith, has.inside, length-take s.end s.content)

  pub none_none : s.anchoring ≡ unanchored → FirstMember members s None → ProgramFinds is_in is_word p s None
  none_none free none = starting p is_word s None free (not_found (λ i t counts.
      let has = member_there i t counts in
      none i counts.possible.0.2 (below_end i has) has))

  pub come_from : (place : ℕ) (out : Option (Outcome Notes)) → s.anchoring ≡ unanchored → FirstMember members s (Some place) → ProgramFinds is_in is_word p (from_place_on s place) out → ProgramFinds is_in is_word p s out
  come_from place out free first finds = found_all p is_word s place free first.low behind out finds
    where
      behind : (i : ℕ) (t : Outcome Notes) → Counts (machine_of is_in is_word p s) fresh_notes s p.start i t → place ≤ i
      behind i t counts = elim (cases_lt i place) [
        | inl below ↦ absurd (first.before i counts.possible.0.2 below (member_there i t counts))
        | inr above ↦ above
      ]

pub no_member_no_match : NoMemberNoMatch
no_member_no_match members p is_word s begin free none = none_none members p is_word s begin free none

pub matches_come_from_member : MatchesComeFromMember
matches_come_from_member members p is_word s place out begin free first finds = come_from members p is_word s begin place out free first finds
