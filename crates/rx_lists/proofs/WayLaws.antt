-- The walk with a single thread, offset by offset.
use Rattle.std.proofs.Common.{◌≡◌, ℕ, zero, suc, ◌+◌, ◌-◌, ◌<◌, ◌≤◌, ◌⊎◌, Bool, true, false, All, IfSome, IsSomeAnd, List, [], ◌∷◌, Option, Some, None, slice_get, Contains, refl, sym, ap, subst, ◌∙◌, arith, inl, inr}
use Rattle.std.proofs.lemmas.Option.{slice_get_within, get_or_from_slice_get}
use Rattle.std.proofs.lemmas.List.Elements.{All-get_or}
use Rattle.rx_walks.specs.Machines.{Machine, Outcome}
use Rattle.rx_walks.specs.Looks.{Look, start_text, end_text, start_line, end_line, word_boundary, no_word_boundary}
use Rattle.rx_walks.specs.Programs.{Haystack, left_from, is_within}
use Rattle.rx_walks.specs.Steps.{Steps}
use Rattle.rx_walks.specs.Leading.{LeadsToMatch, Follows}
use Rattle.rx_walks.specs.Finds.{Search, IsInside}
use Rattle.rx_walks.specs.ProgramFinds.{lowest, highest}
use Rattle.rx_program.specs.declared.states.State.{State}
use Rattle.rx_program.specs.Programs.{ByteProgram}
use Rattle.rx_steps.specs.declared.place.Place.{Place}
use Rattle.rx_steps.specs.Nodes.{IsNodeIn, widths_of, index_from}
use Rattle.rx_steps.specs.Threads.{Slots, Thread, IsThreadOf}
use Rattle.rx_steps.specs.Lists.{IsPlace, is_among, met_at}
use Rattle.rx_steps.specs.Searching.{haystack_in}
use Rattle.rx_steps.specs.Coming.{machine_in}
use Rattle.rx_steps.proofs.ByteLaws.{within_is}
use Rattle.rx_steps.proofs.PlaceLaws.{moves_at_place}
use Rattle.rx_lists.specs.Bits.{has_bit, HasNode, IsNodeSetOf}
use Rattle.rx_lists.specs.Leading.{Moves, AreLeading}
use Rattle.rx_lists.specs.LeadingSets.{HasLeadingSets, AreLeadingSets, IsLeadingSet}
use Rattle.rx_lists.specs.declared.pass_back.Block.{Block}
use Rattle.rx_lists.specs.declared.blocks.Blocks.{Blocks}
use Rattle.rx_lists.specs.Blocks.{AreBlocks, BlockReaches}
use Rattle.rx_lists.specs.Sets.{AreAllNodes}
use Rattle.rx_lists.specs.declared.walk.Ending.{Ending}
use Rattle.rx_lists.specs.Passes.{IsFirstAmong, outcome_of}
use Rattle.rx_lists.proofs.FillLaws.{Nodes}
use Rattle.rx_lists.proofs.StepLaws.{Chosen, none_leads, other_leads, first_leads, thread_follows}
use Rattle.rx_lists.proofs.NodeLaws.{edge_stays, moves_of, node_index, path_does}
use Rattle.rx_lists.proofs.PassLaws.{none_past}
use Rattle.rx_lists.proofs.RoundLaws.{in_order}
use Rattle.rx_lists.proofs.SetLaws.{none_in}

-- ---- an offset of a search

place_at : Haystack Look → ℕ → Place
place_at h i = record {
  at = i;
  byte = slice_get (left_from h i) 0;
  looks = record {
    start = h.holds start_text i;
    end = h.holds end_text i;
    start_line = h.holds start_line i;
    end_line = h.holds end_line i;
    word_boundary = h.holds word_boundary i;
    no_word_boundary = h.holds no_word_boundary i;
  };
}

is_place : (states : List State) (h : Haystack Look) (i : ℕ) → is_within h.low h.high i ≡ true → IsPlace states h i (place_at h i)
unfolding place_at
is_place states h i inside = record { at = refl; inside = inside; byte = refl; looks = λ l asks. holds l }
  where
    holds : (l : Look) → h.holds l i ≡ is_among (place_at h i).looks l
    holds start_text = refl
    holds end_text = refl
    holds start_line = refl
    holds end_line = refl
    holds word_boundary = refl
    holds no_word_boundary = refl

-- a program's moves at an offset inside are those of some position
pub moves_inside : (p : ByteProgram) (s : Search) (i : ℕ) → lowest s ≤ i → i ≤ highest s → (place : Place) × Moves (machine_in p s) i p.states place
moves_inside p s i above below = let h = haystack_in p.line_terminator s in (place_at h i, moves_of (moves_at_place p h i (place_at h i) (is_place p.states h i (within_is (lowest s) (highest s) i above below))))

pub inside_is : (s : Search) (i : ℕ) → IsInside s i → (lowest s ≤ i) × (i ≤ highest s)
inside_is s i inside = (omega (arith, inside.0, inside.2), omega (arith, inside.1, inside.3, inside.4))

-- ---- the leading nodes are known

pub set_at : (p : ByteProgram) (s : Search) (top at i : ℕ) (sets : List (List ℕ)) (set : List ℕ) → AreLeadingSets p s top 1 sets → slice_get sets (top - at) ≡ Some set → at ≤ top → at ≡ i → IsLeadingSet p s i set
set_at p s top at i sets set leading get within same = subst (λ j. IsLeadingSet p s j set) (omega (arith, within, same)) (leading (top - at) set get)

pub below_inside : (p : ByteProgram) (s : Search) (b : Blocks) (i : ℕ) → AreBlocks p s b → IsInside s i → b.first ≤ i
below_inside p s b i blocks inside = omega (arith, blocks.first_is, (inside_is s i inside).0)

pub top_within : (p : ByteProgram) (s : Search) (b : Blocks) → AreBlocks p s b → b.block.top ≤ highest s
top_within p s b blocks = omega (arith, blocks.numbered.2, blocks.last_is)

-- a block that reached back to an offset reaches back to it and to the next one
pub reached : (p : ByteProgram) (s : Search) (b : Blocks) (block : Block) (at next : ℕ) → AreBlocks p s b → next ≡ at + 1 → ((i : ℕ) → b.first ≤ i → next ≤ i + 1 → BlockReaches b.block i → BlockReaches block i) → lowest s ≤ at → BlockReaches b.block at
    → BlockReaches block at × BlockReaches block next
reached p s b block at next blocks is so above reaches =
    let here = so at (omega (arith, blocks.first_is, above)) (omega (arith, is)) reaches in
    (here, omega (arith, here, is))

pub leads_or_not : (p : ByteProgram) (s : Search) (i : ℕ) (set : List ℕ) → IsLeadingSet p s i set → (q : ℕ × ℕ) → IsNodeIn p.states q → LeadsToMatch (machine_in p s) q i ⊎ (LeadsToMatch (machine_in p s) q i → ⊥)
leads_or_not p s i set leading q may = by_index (index_from 0 (widths_of p) q.0 q.1) refl
  where
    by_bit : (k : ℕ) → index_from 0 (widths_of p) q.0 q.1 ≡ Some k → (b : Bool) → has_bit set k ≡ b → LeadsToMatch (machine_in p s) q i ⊎ (LeadsToMatch (machine_in p s) q i → ⊥)
    by_bit k at true is = inl (leading.leads q (k, at, is))
    by_bit k at false is = inr (λ leads. let has = leading.all q may leads in
        let same : has.0 ≡ k = one (sym has.1 ∙ at) in
        absurd (cc (sym (subst (λ n. has_bit set n ≡ true) same has.2) ∙ is)))
      where
        one : {a b : ℕ} → Some a ≡ Some b → a ≡ b
        one e = cc e

    by_index : (o : Option ℕ) → index_from 0 (widths_of p) q.0 q.1 ≡ o → LeadsToMatch (machine_in p s) q i ⊎ (LeadsToMatch (machine_in p s) q i → ⊥)
    by_index (Some k) at = by_bit k at (has_bit set k) refl
    by_index None at = inr (λ leads. let has = leading.all q may leads in absurd (cc (sym at ∙ has.1)))

-- a set in bits of leading nodes
pub leading_set : (p : ByteProgram) (s : Search) (i : ℕ) (widths : List ℕ) (nodes : Nodes) (set : List ℕ) → widths ≡ widths_of p → lowest s ≤ i → i ≤ highest s → AreLeading p s i nodes → IsNodeSetOf widths nodes set → IsLeadingSet p s i set
leading_set p s i widths nodes set same above below leading is = record {
  leads = λ q has. leading.leads q (is.these q (subst (λ w. HasNode w set q) (sym same) has));
  all = λ q may leads.
      let moves = moves_inside p s i above below in
      let at = node_index p moves.0 (machine_in p s) i moves.1 q may (path_does leads.path) in
      subst (λ w. HasNode w set q) same (is.all q at.0 (leading.all q may leads) (subst (λ w. index_from 0 w q.0 q.1 ≡ Some at.0) (sym same) at.2));
}

-- and the nodes of it
pub loaded_set : (p : ByteProgram) (s : Search) (i : ℕ) (order nodes : Nodes) (widths widths' set : List ℕ) → widths ≡ widths_of p → widths' ≡ widths_of p → AreAllNodes p.states order → ((q : ℕ × ℕ) → Contains nodes q → HasNode widths set q)
    → ((q : ℕ × ℕ) (k : ℕ) → Contains order q → HasNode widths set q → index_from 0 widths' q.0 q.1 ≡ Some k → Contains nodes q) → IsLeadingSet p s i set → AreLeading p s i nodes
loaded_set p s i order nodes widths widths' set same same' ordered these all leading = record {
  leads = λ q c. leading.leads q (subst (λ w. HasNode w set q) same (these q c));
  all = λ q may leads.
      let has = leading.all q may leads in
      all q has.0 (in_order p order ordered q has.0 has.1) (subst (λ w. HasNode w set q) (sym same) has) (subst (λ w. index_from 0 w q.0 q.1 ≡ Some has.0) (sym same') has.1);
}

-- ---- a step, and the first leading thread

pub some_and : {X : Type 0} (P : X → Type 0) (o : Option X) → IsSomeAnd o P → (x : X) × (o ≡ Some x) × P x
some_and P (Some x) has = (x, refl, has)
some_and P None has = absurd has

pub chosen_none : (m : Machine (ℕ × ℕ) Slots) (i : ℕ) (next : List Thread) (end : Option (Outcome Slots)) → ((k : ℕ) (t : Thread) → slice_get next k ≡ Some t → LeadsToMatch m t.1 i → ⊥) → Chosen m i next end end
chosen_none m i [] end never = none_leads
chosen_none m i ((n, q) ∷ next) end never = other_leads (never 0 (n, q) refl) (chosen_none m i next end (λ k t at. never (suc k) t at))

pub chosen_at : (m : Machine (ℕ × ℕ) Slots) (i : ℕ) (next : List Thread) (end out : Option (Outcome Slots)) (k : ℕ) (t : Thread) → slice_get next k ≡ Some t → LeadsToMatch m t.1 i → ((j : ℕ) (u : Thread) → j < k → slice_get next j ≡ Some u → LeadsToMatch m u.1 i → ⊥)
    → Follows m i [] (t ∷ []) out → Chosen m i next end out
chosen_at m i [] end out k t at leads before follows = absurd (cc at)
chosen_at m i ((n, q) ∷ next) end out zero t at leads before follows =
    let same : t ≡ (n, q) = first_is at in
    first_leads (subst (λ x. LeadsToMatch m x.1 i) same leads) (subst (λ x. Follows m i [] (x ∷ []) out) same follows)
  where
    first_is : Some (n, q) ≡ Some t → t ≡ (n, q)
    first_is e = cc e
chosen_at m i ((n, q) ∷ next) end out (suc k) t at leads before follows =
    other_leads (before 0 (n, q) (omega arith) refl) (chosen_at m i next end out k t at leads (λ j u below get. before (suc j) u (omega (arith, below)) get) follows)

pub walk_on : (p : ByteProgram) (s : Search) (i : ℕ) (n : Slots) (q : ℕ × ℕ) (next : List Thread) (end out : Option (Outcome Slots)) → HasLeadingSets p s (lowest s) → IsInside s i → IsNodeIn p.states q
    → Steps (machine_in p s) i [] ((n, q) ∷ []) next end → Chosen (machine_in p s) (i + 1) next end out → Follows (machine_in p s) i [] ((n, q) ∷ []) out
walk_on p s i n q next end out known inside may steps chosen =
    let at = inside_is s i inside in
    let here = known i at.0 at.1 in
    let moves = moves_inside p s i at.0 at.1 in
    let m = machine_in p s in
    thread_follows m i (λ r. IsNodeIn p.states r) (leads_or_not p s i here.0 here.1) (λ x r rs k may' is get. edge_stays p moves.0 m i moves.1 x r rs k is get) n q next end out may steps chosen

-- after the last offset nothing leads
pub never_past : (p : ByteProgram) (s : Search) (i : ℕ) (t : Thread) → highest s < i → IsThreadOf p.states t → LeadsToMatch (machine_in p s) t.1 i → ⊥
never_past p s i t past may leads = none_in t.1 ((none_past p s i past).all t.1 may leads)

pub thread_at : (states : List State) (threads : List Thread) (k : ℕ) (t : Thread) → All (IsThreadOf states) threads → slice_get threads k ≡ Some t → IsThreadOf states t
thread_at states threads k t all at = subst (λ x. IsThreadOf states x) (get_or_from_slice_get threads k t t at) (All-get_or (λ x. IsThreadOf states x) threads k t (slice_get_within threads k t at) all)

pub chosen_first : (p : ByteProgram) (s : Search) (i k : ℕ) (next : List Thread) (set : List ℕ) (end out : Option (Outcome Slots)) (t : Thread) → IsLeadingSet p s i set → All (IsThreadOf p.states) next → IsFirstAmong next (λ r. HasNode (widths_of p) set r) (Some k)
    → slice_get next k ≡ Some t → Follows (machine_in p s) i [] (t ∷ []) out → Chosen (machine_in p s) i next end out
chosen_first p s i k next set end out t leading all first get follows =
    let same : first.0 ≡ t = one (sym first.1 ∙ get) in
    chosen_at (machine_in p s) i next end out k t get (leading.leads t.1 (subst (λ x. HasNode (widths_of p) set x.1) same first.2))
    (λ j u below get' leads. first.3 j u below get' (leading.all u.1 (thread_at p.states next j u all get') leads)) follows
  where
    one : Some first.0 ≡ Some t → first.0 ≡ t
    one e = cc e

pub chosen_nobody : (p : ByteProgram) (s : Search) (i : ℕ) (next : List Thread) (set : List ℕ) (end : Option (Outcome Slots)) → IsLeadingSet p s i set → All (IsThreadOf p.states) next → IsFirstAmong next (λ r. HasNode (widths_of p) set r) None
    → Chosen (machine_in p s) i next end end
chosen_nobody p s i next set end leading all none = chosen_none (machine_in p s) i next end (λ k t get leads. none k t get (leading.all t.1 (thread_at p.states next k t all get) leads))

pub chosen_past : (p : ByteProgram) (s : Search) (i : ℕ) (next : List Thread) (end : Option (Outcome Slots)) → highest s < i → All (IsThreadOf p.states) next → Chosen (machine_in p s) i next end end
chosen_past p s i next end past all = chosen_none (machine_in p s) i next end (λ k t get leads. never_past p s i t past (thread_at p.states next k t all get) leads)

-- a match end is at its offset
pub ends_there : (found : Option Ending) (met : Option ℕ) (at : ℕ) (slots : Slots) (P : ℕ → Type 0) → outcome_of found slots ≡ met_at at met slots → P at → IfSome found (λ e. P e.end)
ends_there None met at slots P e has = tt
ends_there (Some x) None at slots P e has = absurd (cc e)
ends_there (Some x) (Some k) at slots P e has = subst (λ j. P j) (sym (ap (λ (o : Outcome Slots). o.end) (one {a = record { pattern = x.pattern; end = x.end; notes = slots }} {b = record { pattern = k; end = at; notes = slots }} e))) has
  where
    one : {a b : Outcome Slots} → Some a ≡ Some b → a ≡ b
    one f = cc f
