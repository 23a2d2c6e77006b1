-- The backward pass: from the leading nodes at an offset to those at the one before.
use Rattle.std.proofs.Common.{◌≡◌, ℕ, zero, suc, ◌+◌, ◌-◌, ◌*◌, ◌<◌, ◌≤◌, ◌⊎◌, false, List, [], ◌∷◌, ◌++◌, length, Some, slice_get, refl, sym, ap, subst, ◌∙◌, arith, inl, inr}
use Rattle.std.proofs.lemmas.Bool.{cases_eq}
use Rattle.std.proofs.lemmas.Bool.Decides.{nat_tests}
use Rattle.std.proofs.lemmas.List.{length-append}
use Rattle.rx_walks.specs.Programs.{is_within, only_if}
use Rattle.rx_walks.specs.Bytes.{by_byte}
use Rattle.rx_walks.specs.Finds.{Search, IsInside}
use Rattle.rx_walks.specs.ProgramFinds.{lowest, highest}
use Rattle.rx_program.specs.Programs.{ByteProgram, character_program, automata_of}
use Rattle.rx_steps.specs.declared.place.Place.{Place}
use Rattle.rx_steps.specs.Nodes.{IsNodeIn, widths_of}
use Rattle.rx_steps.specs.Searching.{haystack_in}
use Rattle.rx_steps.specs.Coming.{machine_in}
use Rattle.rx_lists.specs.Leading.{Moves, AreLeading, AreFilled}
use Rattle.rx_lists.specs.LeadingSets.{HasLeadingSets, AreLeadingSets, IsLeadingSet}
use Rattle.rx_lists.specs.Bits.{HasNode}
use Rattle.rx_lists.proofs.FillLaws.{Nodes}
use Rattle.rx_lists.proofs.SetLaws.{none_in}
use Rattle.rx_lists.proofs.LeadLaws.{leads_so, leads_by}
use Rattle.rx_lists.proofs.NodeLaws.{edge_stays, read_stays_in, path_does}

-- the nodes that a set was filled with lead
pub leading_by : (p : ByteProgram) (s : Search) (i : ℕ) (place : Place) (beyond here : Nodes) → Moves (machine_in p s) i p.states place → AreFilled p place beyond here → AreLeading p s (i + 1) beyond → AreLeading p s i here
leading_by p s i place beyond here moves filled next = let m = machine_in p s in record {
  leads = λ q c. leads_so (filled.leads m i moves q c) next.leads;
  all = λ q may leads. filled.all m i moves q may
      (leads_by m i (λ r. IsNodeIn p.states r) (λ x r rs k is at. edge_stays p place m i moves x r rs k is at) (λ j x r may' is. read_stays_in p place m i moves j x r may' is)
      (λ r may' leads'. next.all r may' leads') may leads.path);
}

is_past : (low high i : ℕ) → high < i → is_within low high i ≡ false
is_past low high i past = grind (arith, nat_tests)

-- no node leads after the last offset
pub none_past : (p : ByteProgram) (s : Search) (i : ℕ) → highest s < i → AreLeading p s i []
none_past p s i past = record {
  leads = λ q c. absurd (none_in q c);
  all = λ q may leads. absurd (path_does leads.path
      (ap (λ b. only_if b (by_byte (automata_of p) (haystack_in p.line_terminator s) i q.0 q.1 (slice_get (character_program p).nodes q.0))) (is_past (lowest s) (highest s) i past)));
}

got_pushed : {X : Type 0} (xs : List X) (y : X) (k : ℕ) (z : X) → slice_get (xs ++ y ∷ []) k ≡ Some z → (slice_get xs k ≡ Some z) ⊎ ((k ≡ length xs) × (y ≡ z))
got_pushed [] y zero z at = inr (refl, same at)
  where
    same : Some y ≡ Some z → y ≡ z
    same e = cc e
got_pushed [] y (suc k) z at = absurd (cc at)
got_pushed (x ∷ xs) y zero z at = inl at
got_pushed (x ∷ xs) y (suc k) z at = elim (got_pushed xs y k z at) [ inl e ↦ inl e | inr both ↦ inr (ap suc both.0, both.1) ]

-- the empty set is that of an offset after the last one
pub none_leads_past : (p : ByteProgram) (s : Search) (i : ℕ) (set : List ℕ) → highest s < i → ((q : ℕ × ℕ) → HasNode (widths_of p) set q → ⊥) → IsLeadingSet p s i set
none_leads_past p s i set past none = record {
  leads = λ q has. absurd (none q has);
  all = λ q may leads. absurd (none_in q ((none_past p s i past).all q may leads));
}

-- one more set
pub sets_more : (p : ByteProgram) (s : Search) (last distance : ℕ) (sets sets' : List (List ℕ)) (set : List ℕ) → sets' ≡ sets ++ set ∷ [] → AreLeadingSets p s last distance sets → IsLeadingSet p s (last - length sets * distance) set → AreLeadingSets p s last distance sets'
sets_more p s last distance sets sets' set more each leading k other get = elim (got_pushed sets set k other (subst (λ xs. slice_get xs k ≡ Some other) more get)) [
  | inl before ↦ each k other before
  | inr both ↦ subst (λ j. IsLeadingSet p s (last - j * distance) other) (sym both.0) (subst (λ xs. IsLeadingSet p s (last - length sets * distance) xs) both.1 leading)
]

-- one more, of the offset that is due
pub kept_more : (p : ByteProgram) (s : Search) (last distance i : ℕ) (sets sets' : List (List ℕ)) (set : List ℕ) → sets' ≡ sets ++ set ∷ [] → IsLeadingSet p s i set → last - length sets * distance ≡ i → AreLeadingSets p s last distance sets
    → AreLeadingSets p s last distance sets'
kept_more p s last distance i sets sets' set more leading here each = sets_more p s last distance sets sets' set more each (subst (λ j. IsLeadingSet p s j set) (sym here) leading)

pub no_sets : (p : ByteProgram) (s : Search) (last distance : ℕ) (sets : List (List ℕ)) → sets ≡ [] → AreLeadingSets p s last distance sets
no_sets p s last distance sets none k set get = let e : slice_get [] k ≡ Some set = ap (λ xs. slice_get xs k) (sym none) ∙ get in absurd (cc e)

pub count_more : (sets sets' : List (List ℕ)) (set : List ℕ) → sets' ≡ sets ++ set ∷ [] → length sets' ≡ length sets + 1
count_more sets sets' set more = ap (λ xs. length xs) more ∙ length-append sets (set ∷ [])

-- one more offset is known
pub known_more : (p : ByteProgram) (s : Search) (i : ℕ) (set : List ℕ) → HasLeadingSets p s (i + 1) → IsLeadingSet p s i set → HasLeadingSets p s i
known_more p s i set known leading j above below = elim (cases_eq j i) [
  | inl same ↦ (set, subst (λ k. IsLeadingSet p s k set) (sym same) leading)
  | inr other ↦ known j (omega (arith, above, other)) below
]

pub known_none : (p : ByteProgram) (s : Search) (i : ℕ) → highest s < i → HasLeadingSets p s i
known_none p s i past j above below = absurd (omega (arith, past, above, below))

pub inside_up : (s : Search) (i j : ℕ) → IsInside s i → i ≤ j → j ≤ highest s → IsInside s j
inside_up s i j inside above below = (omega (arith, inside.0, above), omega (arith, below), omega (arith, inside.2, above), omega (arith, below), omega (arith, below))

pub inside_down : (s : Search) (i j : ℕ) → IsInside s i → j ≤ i → lowest s ≤ j → IsInside s j
inside_down s i j inside below above = (omega (arith, above), omega (arith, inside.1, below), omega (arith, above), omega (arith, inside.3, below), omega (arith, inside.4, below))
