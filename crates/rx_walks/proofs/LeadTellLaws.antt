-- The threads of the search with the reverse program give the leading nodes.
use Rattle.std.proofs.Common.{◌≡◌, ℕ, ◌-◌, ◌<◌, ◌≤◌, ◌↔◌, Bool, true, false, List, [], ◌∷◌, ◌++◌, length, slice_get, refl, ap, subst, arith}
use Rattle.std.proofs.lemmas.Bool.Decides.{nat_tests}
use Rattle.rx_walks.specs.Machines.{Machine, IsForward}
use Rattle.rx_walks.specs.Programs.{Program, Haystack, only_if, is_within, over_characters}
use Rattle.rx_walks.specs.ProgramFinds.{first_by}
use Rattle.rx_walks.specs.Bytes.{Automaton, by_byte}
use Rattle.rx_walks.specs.Laws.{ReadsMembers}
use Rattle.rx_walks.proofs.WalkLaws.{goes_not_reads}
use Rattle.rx_walks.proofs.ForwardLaws.{bytes_forward}
use Rattle.rx_walks.specs.Reversed.{mirrored, last_by, back_program}
use Rattle.rx_walks.specs.Leading.{LeadsToMatch}
use Rattle.rx_walks.specs.Reached.{Comes, at_once, on_edge, on_read, Reached, ReadTo, IsInClosure, ThreadStandsAt}
use Rattle.rx_walks.specs.LeadBackLaws.{NoneReturns, back_machine, back_start_of, TellsLeads}
use Rattle.rx_walks.proofs.ComeBackLaws.{to_back, from_back}
use Rattle.rx_walks.proofs.ByteComeLaws.{comes_in, comes_out}
use Rattle.rx_walks.proofs.ReachLaws.{reached_here}

comes_rise : {Q N : Type 0} {m : Machine Q N} {x : Q} {i : ℕ} {y : Q} {j : ℕ} → IsForward m → Comes m x i y j → i ≤ j
comes_rise forward at_once = omega arith
comes_rise forward (on_edge rs t k before is at) = comes_rise forward before
comes_rise forward (on_read {r = r} {j = j} t k before is) = omega (arith, comes_rise forward before, forward j k r t is)

within_low : (low high i : ℕ) → is_within low high i ≡ true → low ≤ i
within_low low high i e = grind (arith, nat_tests)

module _ {L S N : Type 0} (put : ℕ → ℕ → N → N) (member : S → ℕ → Bool) (step : ℕ → Automaton) (p : Program L S) (h : Haystack L) (low_in : h.low ≤ length h.content) (high_in : h.high ≤ length h.content)
    (members : ReadsMembers (last_by member) step (back_program p).nodes) (never_back : NoneReturns step) where
  abbrev b : Machine (ℕ × ℕ) N
  b = back_machine put step p h

  forward : IsForward b
  forward = bytes_forward put step (back_program p).nodes (mirrored h)

  none_at_first : (q : ℕ × ℕ) → ReadTo b (back_start_of p) (length h.content - h.high) q → ⊥
  none_at_first q one = by (is_within (mirrored h).low (mirrored h).high one.place) refl
    where
      by : (w : Bool) → is_within (mirrored h).low (mirrored h).high one.place ≡ w → ⊥
      by true is = omega (arith, within_low (mirrored h).low (mirrored h).high one.place is, forward one.place (length h.content - h.high) one.before q one.reading)
      by false is = goes_not_reads (ap (λ w. only_if w (by_byte step (mirrored h) one.place one.before.0 one.before.1 (slice_get (back_program p).nodes one.before.0))) is) one.reading

  module _ (i : ℕ) (from : h.low ≤ i) (to : i ≤ h.high) (live : List (ℕ × (ℕ × ℕ))) (same : (q : ℕ × ℕ) → ThreadStandsAt live q ↔ ReadTo b (back_start_of p) (length h.content - i) q) (q : ℕ) (below : q < length p.nodes) where
    leads_reached : LeadsToMatch (over_characters put (first_by member) p.nodes h) q i → Reached b (back_start_of p) (length h.content - i) (q, 0)
    leads_reached leads = let one = to_back put member p h low_in high_in q i leads in
        record { from = length h.content - one.0; comes = comes_in put (last_by member) step (back_program p).nodes (mirrored h) members never_back one.2 }

    reached_leads : Reached b (back_start_of p) (length h.content - i) (q, 0) → LeadsToMatch (over_characters put (first_by member) p.nodes h) q i
    reached_leads one =
        let rise = comes_rise forward one.comes in
        let place : one.from ≡ length h.content - (length h.content - one.from) = omega (arith, rise) in
        from_back put member p h low_in high_in q i below from to (length h.content - one.from) (omega arith)
        (subst (λ z. Comes (over_characters put (last_by member) (back_program p).nodes (mirrored h)) (back_program p).start z q (length h.content - i)) place
        (comes_out put (last_by member) step (back_program p).nodes (mirrored h) members never_back one.comes))

    leads_closes : LeadsToMatch (over_characters put (first_by member) p.nodes h) q i ↔ IsInClosure b (length h.content - i) (ThreadStandsAt (live ++ (length h.content - i, back_start_of p) ∷ [])) (q, 0)
    leads_closes =
        let here = reached_here b (back_start_of p) (length h.content - i) live same (q, 0) in
        ((λ leads. here.0 (leads_reached leads)), (λ closes. reached_leads (here.1 closes)))

  pub tells_leads : TellsLeads put member step p h
  tells_leads = record { none_at_first = none_at_first; leads = λ i from to live same q below. leads_closes i from to live same q below }
