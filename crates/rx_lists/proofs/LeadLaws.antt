-- The leading nodes at an offset, from those at the next one.
use Rattle.std.proofs.Common.{◌≡◌, ℕ, ◌+◌, List, [], ◌∷◌, Some, None, slice_get, subst}
use Rattle.rx_walks.specs.Machines.{Machine, goes, reads}
use Rattle.rx_walks.specs.Paths.{Path, at_end, by_edge, by_read}
use Rattle.rx_walks.specs.Steps.{Best, miss}
use Rattle.rx_walks.specs.Laws.{IsDecidable}
use Rattle.rx_walks.specs.Leading.{LeadsToMatch, LeadsBy, match_ends, edge_leads, read_leads, Follows}
use Rattle.rx_walks.proofs.FollowLaws.{followed_best, leads_walk}

-- what leads because of nodes that lead at the next offset leads
pub leads_so : {Q N : Type 0} {m : Machine Q N} {i : ℕ} {B : Q → Type 0} {q : Q} → LeadsBy m i B q → ((r : Q) → B r → LeadsToMatch m r (i + 1)) → LeadsToMatch m q i
leads_so {i = i} (match_ends {p = p} is) on = record { pattern = p; end = i; path = at_end is }
leads_so (edge_leads rs r k is at by) on = let leads = leads_so by on in record { pattern = leads.pattern; end = leads.end; path = by_edge rs r k is at leads.path }
leads_so {i = i} (read_leads r is beyond) on = let leads = on r beyond in record { pattern = leads.pattern; end = leads.end; path = by_read r (i + 1) is leads.path }

-- and what leads does so because of such nodes
module _ {Q N : Type 0} (m : Machine Q N) (i : ℕ) (Here : Q → Type 0)
    (on_edge : (q r : Q) (rs : List Q) (k : ℕ) → m.move i q ≡ goes rs → slice_get rs k ≡ Some r → Here r)
    (on_read : (j : ℕ) (q r : Q) → Here q → m.move i q ≡ reads r j → Here r × (j ≡ i + 1)) where
  pub leads_by : {B : Q → Type 0} {q : Q} {p e : ℕ} → ((r : Q) → Here r → LeadsToMatch m r (i + 1) → B r) → Here q → Path m q i p e → LeadsBy m i B q
  leads_by on here (at_end is) = match_ends is
  leads_by {q = q} on here (by_edge rs r k is at path) = edge_leads rs r k is at (leads_by on (on_edge q r rs k is at) path)
  leads_by {q = q} {p = p} {e = e} on here (by_read r j is path) =
      let one = on_read j q r here is in
      read_leads r (subst (λ x. m.move i q ≡ reads r x) one.1 is) (on r one.0 (record { pattern = p; end = e; path = subst (λ x. Path m r x p e) one.1 path }))

never_best : {Q N : Type 0} {m : Machine Q N} {i : ℕ} {n : N} {q : Q} → IsDecidable Q → Best m [] i ((n, q) ∷ []) None → LeadsToMatch m q i → ⊥
never_best told (miss never best) leads = leads_walk told leads never

-- if nothing is found, a node doesn't lead
pub follows_never : {Q N : Type 0} {m : Machine Q N} {i : ℕ} {n : N} {q : Q} → IsDecidable Q → Follows m i [] ((n, q) ∷ []) None → LeadsToMatch m q i → ⊥
follows_never told follows leads = never_best told (followed_best told follows) leads
