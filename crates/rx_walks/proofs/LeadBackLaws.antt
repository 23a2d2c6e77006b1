-- The nodes that lead at an offset follow from those that lead at the next.
use Rattle.std.proofs.Common.{◌≡◌, ℕ, ◌+◌, Bool, true, false, List, [], ◌∷◌, Option, Some, None, slice_get, sym, subst, refl}
use Rattle.rx_walks.specs.Machines.{Machine, goes, reads}
use Rattle.rx_walks.specs.Paths.{Path, at_end, by_edge, by_read}
use Rattle.rx_walks.specs.Programs.{Node, match, pass, note, look, set, Haystack, only_if, is_within, left_from}
use Rattle.rx_walks.specs.Bytes.{Automaton, read_on, read_byte, by_byte, over_bytes}
use Rattle.rx_walks.proofs.WalkLaws.{same_read}
use Rattle.rx_walks.specs.Leading.{LeadsToMatch, LeadsBy, match_ends, edge_leads, read_leads}
use Rattle.rx_walks.specs.LeadLaws.{IsStepped}

module _ {Q N : Type 0} (m : Machine Q N) (stepped : IsStepped m) (i : ℕ) (beyond : Q → Type 0) where
  pub leads_by : ((r : Q) → LeadsToMatch m r (i + 1) → beyond r) → {q : Q} {p e : ℕ} → Path m q i p e → LeadsBy m i beyond q
  leads_by told (at_end is) = match_ends is
  leads_by told (by_edge rs r k is at path) = edge_leads rs r k is at (leads_by told path)
  leads_by told (by_read {q = q} {p = p} {e = e} r j is path) =
      let next = stepped i j q r is in
      read_leads r (subst (λ x. m.move i q ≡ reads r x) next is) (told r (record { pattern = p; end = e; path = subst (λ x. Path m r x p e) next path }))

  pub by_leads : ((r : Q) → beyond r → LeadsToMatch m r (i + 1)) → {q : Q} → LeadsBy m i beyond q → LeadsToMatch m q i
  by_leads told (match_ends {p = p} is) = record { pattern = p; end = i; path = at_end is }
  by_leads told (edge_leads rs r k is at by) = let on = by_leads told by in record { pattern = on.pattern; end = on.end; path = by_edge rs r k is at on.path }
  by_leads told (read_leads r is there) = let on = told r there in record { pattern = on.pattern; end = on.end; path = by_read r (i + 1) is on.path }

-- a program over bytes reads them one by one
not_goes : {j : ℕ} {t : ℕ × ℕ} (i : ℕ) (b : Bool) (rs : List (ℕ × ℕ)) → only_if b (goes rs) ≡ reads t j → j ≡ i + 1
not_goes i false rs e = absurd (cc e)
not_goes i true rs e = absurd (cc e)

read_on_one : {j : ℕ} {t : ℕ × ℕ} (q r i : ℕ) (o : Option (Option ℕ)) → read_on q r i o ≡ reads t j → j ≡ i + 1
read_on_one q r i None e = absurd (cc e)
read_on_one q r i (Some None) e = sym (same_read refl e).1
read_on_one q r i (Some (Some s)) e = sym (same_read refl e).1

read_byte_one : {j : ℕ} {t : ℕ × ℕ} (step : Automaton) (q r s i : ℕ) (bs : List ℕ) → read_byte step q r s i bs ≡ reads t j → j ≡ i + 1
read_byte_one step q r s i [] e = absurd (cc e)
read_byte_one step q r s i (b ∷ bs) e = read_on_one q r i (step s b) e

by_byte_one : {L S : Type 0} {j : ℕ} {t : ℕ × ℕ} (step : ℕ → Automaton) (h : Haystack L) (i q s : ℕ) (inside : Bool) (a_node : Option (Node L S)) → only_if inside (by_byte step h i q s a_node) ≡ reads t j → j ≡ i + 1
by_byte_one step h i q s false a_node e = absurd (cc e)
by_byte_one step h i q s true None e = absurd (cc e)
by_byte_one step h i q s true (Some (match k)) e = absurd (cc e)
by_byte_one step h i q s true (Some (pass rs)) e = absurd (cc e)
by_byte_one step h i q s true (Some (note slot r)) e = absurd (cc e)
by_byte_one step h i q s true (Some (look l r)) e = not_goes i (h.holds l i) ((r, 0) ∷ []) e
by_byte_one step h i q s true (Some (set x r)) e = read_byte_one (step q) q r s i (left_from h i) e

pub bytes_stepped : {L S N : Type 0} (put : ℕ → ℕ → N → N) (step : ℕ → Automaton) (nodes : List (Node L S)) (h : Haystack L) → IsStepped (over_bytes put step nodes h)
bytes_stepped put step nodes h i j q r e = by_byte_one step h i q.0 q.1 (is_within h.low h.high i) (slice_get nodes q.0) e
