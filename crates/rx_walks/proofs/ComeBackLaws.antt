-- The reverse program finds the leading nodes.
use Rattle.std.proofs.Common.{ℕ, ◌-◌, ◌<◌, ◌≤◌, Bool, [], ◌∷◌, length, refl, ap, ◌∙◌, arith}
use Rattle.rx_walks.specs.Machines.{Machine, goes, reads}
use Rattle.rx_walks.specs.Programs.{Program, Haystack, only_if, read_up_to, over_characters}
use Rattle.rx_walks.specs.ProgramFinds.{first_by}
use Rattle.rx_walks.specs.Reversed.{mirrored, last_by, back_program}
use Rattle.rx_walks.specs.Leading.{LeadsToMatch}
use Rattle.rx_walks.specs.Reached.{Comes, at_once, on_edge, on_read}
use Rattle.rx_walks.specs.Trails.{Within, Edge, by_pass, by_note, by_look, by_set, Trail, trail_end, trail_on}
use Rattle.rx_walks.proofs.TrailLaws.{path_trail, trail_path, went_is, took_is, moves}
use Rattle.rx_walks.proofs.TurnLaws.{here, CameBy, came_here, came_on, leads_came, came_leads}

ends_in : {L S : Type 0} (member : S → ℕ → Bool) (p : Program L S) (h : Haystack L) → h.low ≤ length h.content → h.high ≤ length h.content → {q i t e : ℕ} → Trail (first_by member) p.nodes h q i t e → e ≤ length h.content
ends_in member p h low high (trail_end within at) = omega (arith, within.below, high)
ends_in member p h low high (trail_on within edge trail) = ends_in member p h low high trail

module _ {L S N : Type 0} (put : ℕ → ℕ → N → N) (member : S → ℕ → Bool) (p : Program L S) (h : Haystack L) (low_in : h.low ≤ length h.content) (high_in : h.high ≤ length h.content) where
  abbrev back : Machine ℕ N
  back = over_characters put (last_by member) (back_program p).nodes (mirrored h)

  abbrev Came' : ℕ → ℕ → ℕ → ℕ → Type 0
  Came' x i' y j' = CameBy member p.nodes p.patterns h low_in high_in x i' y j'

  comes_came : {x i' y j' : ℕ} → Comes back x i' y j' → Came' x i' y j'
  comes_came at_once = came_here
  comes_came (on_edge {r = y} {j = j'} rs z k before is got) = let one = went_is put (last_by member) (back_program p).nodes (mirrored h) y j' z k rs _ _ refl refl is got in came_on (comes_came before) one.0 one.1
  comes_came (on_read {r = y} {j = j'} z k' before is) = let one = took_is put (last_by member) (back_program p).nodes (mirrored h) y j' z k' _ _ refl refl is in came_on (comes_came before) one.0 one.1

  by_move : {x i' y j' z k' : ℕ} → Comes back x i' y j' → Within (mirrored h).low (mirrored h).high j' → Edge (last_by member) (back_program p).nodes (mirrored h) y j' z k' → Comes back x i' z k'
  by_move before within (by_pass {q = y} {i = j'} {r = z} rs k at got) = on_edge rs z k before (moves put (last_by member) (back_program p).nodes (mirrored h) y j' _ within at) got
  by_move before within (by_note {q = y} {i = j'} {r = z} slot at) = on_edge (z ∷ []) z 0 before (moves put (last_by member) (back_program p).nodes (mirrored h) y j' _ within at) refl
  by_move before within (by_look {q = y} {i = j'} {r = z} l at holds) =
      on_edge (z ∷ []) z 0 before (moves put (last_by member) (back_program p).nodes (mirrored h) y j' _ within at ∙ ap (λ b. only_if b (goes (z ∷ []))) holds) refl
  by_move before within (by_set {q = y} {i = j'} {r = z} {j = k'} x k at read to) =
      on_read z k' before (moves put (last_by member) (back_program p).nodes (mirrored h) y j' _ within at ∙ ap (λ o. read_up_to z j' o) read ∙ ap (reads z) to)

  came_comes : {x i' y j' : ℕ} → Came' x i' y j' → Comes back x i' y j'
  came_comes came_here = at_once
  came_comes (came_on before within edge) = by_move (came_comes before) within edge

  pub to_back : (q i : ℕ) → LeadsToMatch (over_characters put (first_by member) p.nodes h) q i
      → (e : ℕ) × (e ≤ length h.content) × Comes back (back_program p).start (length h.content - e) q (length h.content - i)
  to_back q i leads =
      let trail = path_trail put (first_by member) p.nodes h leads.path in
      let within = here trail in
      by_high (leads_came member p.nodes p.patterns h low_in high_in trail (length h.content - i) (omega (arith, within.below, high_in)))
    where
      by_high : Came' (back_program p).start (length h.content - leads.end) q (length h.content - i)
          → (e : ℕ) × (e ≤ length h.content) × Comes back (back_program p).start (length h.content - e) q (length h.content - i)
      by_high came = (leads.end, ends_in member p h low_in high_in (path_trail put (first_by member) p.nodes h leads.path), came_comes came)

  pub from_back : (q i : ℕ) → q < length p.nodes → h.low ≤ i → i ≤ h.high → (e : ℕ) → e ≤ length h.content
      → Comes back (back_program p).start (length h.content - e) q (length h.content - i) → LeadsToMatch (over_characters put (first_by member) p.nodes h) q i
  from_back q i below from to e high comes =
      let one = came_leads member p.nodes p.patterns h low_in high_in q i e below high (omega (arith, to, high_in)) (record { above = from; below = to }) (comes_came comes) in
      record { pattern = one.0; end = e; path = trail_path put (first_by member) p.nodes h one.1 }
