-- Paths of a program, and those of the reverse program.
use Rattle.std.proofs.Common.{◌≡◌, ℕ, zero, suc, ◌+◌, ◌-◌, ◌*◌, ◌<◌, ◌≤◌, Bool, true, ◌==◌, List, [], ◌∷◌, ◌++◌, length, take, drop, reverse, Option, Some, slice_get, refl, sym, ap, subst, ◌∙◌, arith, inl, inr}
use Rattle.std.proofs.lemmas.Bool.{eqb-true, eq-eqb}
use Rattle.std.specs.Char.{len_utf8}
use Rattle.rx_walks.specs.Programs.{Node, match, pass, note, look, set, Haystack}
use Rattle.rx_walks.specs.ProgramFinds.{first_by}
use Rattle.rx_walks.proofs.WalkLaws.{same_some}
use Rattle.rx_walks.specs.Reversed.{mirrored, last_by, those, leads_to, edge_back, is_match, is_match_of, arrived, back_nodes, back_start}
use Rattle.rx_walks.proofs.StandLaws.{read_stands, stands_read, back_read_stands, stands_back_read}
use Rattle.rx_walks.specs.Trails.{Within, Edge, by_pass, by_note, by_look, by_set, Trail, trail_end, trail_on}
use Rattle.rx_walks.proofs.NodeLaws.{in_second, in_first, in_either, those_in, those_are, has_one, one_of_has, arrival_at, edge_at, end_at, start_at, start_of_at}

-- an item of the second list is in both
in_last : {X : Type 0} (xs ys : List X) (k : ℕ) (x : X) → slice_get ys k ≡ Some x → (d : ℕ) × (slice_get (xs ++ ys) d ≡ Some x)
in_last xs ys k x e = (length xs + k, in_second xs ys (length xs) k refl ∙ e)

-- the node that an edge leaves
record LeavesFrom {L S : Type 0} (nodes : List (Node L S)) (q r : ℕ) : Type 0 where
  node : Node L S
  at : slice_get nodes q ≡ Some node
  leads : leads_to r node ≡ true

-- the first node of a trail is a node
first_node : {L S : Type 0} {first : S → List ℕ → Option ℕ} {nodes : List (Node L S)} {h : Haystack L} {q i p e : ℕ} → Trail first nodes h q i p e → (node : Node L S) × (slice_get nodes q ≡ Some node)
first_node (trail_end within at) = (_, at)
first_node (trail_on within (by_pass rs k at got) trail) = (_, at)
first_node (trail_on within (by_note slot at) trail) = (_, at)
first_node (trail_on within (by_look l at holds) trail) = (_, at)
first_node (trail_on within (by_set x k at read to) trail) = (_, at)

pub here : {L S : Type 0} {first : S → List ℕ → Option ℕ} {nodes : List (Node L S)} {h : Haystack L} {q i p e : ℕ} → Trail first nodes h q i p e → Within h.low h.high i
here (trail_end within at) = within
here (trail_on within edge trail) = within

leaves : {L S : Type 0} {first : S → List ℕ → Option ℕ} {nodes : List (Node L S)} {h : Haystack L} {q i r j : ℕ} → Edge first nodes h q i r j → LeavesFrom nodes q r
leaves {r = r} (by_pass rs k at got) = record { node = pass rs; at = at; leads = has_one rs k r got }
leaves {r = r} (by_note slot at) = record { node = note slot r; at = at; leads = eq-eqb r r refl }
leaves {r = r} (by_look l at holds) = record { node = look l r; at = at; leads = eq-eqb r r refl }
leaves {r = r} (by_set x k at read to) = record { node = set x r; at = at; leads = eq-eqb r r refl }

module _ {L S : Type 0} (member : S → ℕ → Bool) (nodes : List (Node L S)) (patterns : List ℕ) (h : Haystack L) (low_in : h.low ≤ length h.content) (high_in : h.high ≤ length h.content) where
  abbrev n : ℕ
  n = length nodes

  abbrev size : ℕ
  size = length h.content

  abbrev Forth : ℕ → ℕ → ℕ → ℕ → Type 0
  Forth q i p e = Trail (first_by member) nodes h q i p e

  abbrev Back : ℕ → ℕ → ℕ → ℕ → Type 0
  Back q i p e = Trail (last_by member) (back_nodes nodes patterns) (mirrored h) q i p e

  within_back : (i i' : ℕ) → i' + i ≡ size → Within h.low h.high i → Within (mirrored h).low (mirrored h).high i'
  within_back i i' mirror within = record { above = omega (arith, mirror, within.below); below = omega (arith, mirror, within.above) }

  within_forth : (i i' : ℕ) → i' + i ≡ size → Within (mirrored h).low (mirrored h).high i' → Within h.low h.high i
  within_forth i i' mirror within = record { above = omega (arith, mirror, within.below, low_in); below = omega (arith, mirror, within.above, high_in) }

  -- an edge, backward
  edge_turned : {q i r j : ℕ} (i' j' : ℕ) → i' + i ≡ size → j' + j ≡ size → Within h.low h.high i → Within h.low h.high j → Edge (first_by member) nodes h q i r j
      → Edge (last_by member) (back_nodes nodes patterns) (mirrored h) (n + q) j' q i'
  edge_turned {q = q} i' j' at_i at_j within within' (by_pass rs k at got) =
      let same : j' ≡ i' = omega (arith, at_i, at_j) in
      subst (λ z. Edge (last_by member) (back_nodes nodes patterns) (mirrored h) (n + q) z q i') (sym same) (by_pass (q ∷ []) 0 (edge_at nodes patterns q _ at) refl)
  edge_turned {q = q} i' j' at_i at_j within within' (by_note slot at) =
      let same : j' ≡ i' = omega (arith, at_i, at_j) in
      subst (λ z. Edge (last_by member) (back_nodes nodes patterns) (mirrored h) (n + q) z q i') (sym same) (by_pass (q ∷ []) 0 (edge_at nodes patterns q _ at) refl)
  edge_turned {q = q} {i = i} i' j' at_i at_j within within' (by_look l at holds) =
      let same : j' ≡ i' = omega (arith, at_i, at_j) in
      let place : size - i' ≡ i = omega (arith, at_i) in
      subst (λ z. Edge (last_by member) (back_nodes nodes patterns) (mirrored h) (n + q) z q i') (sym same) (by_look l (edge_at nodes patterns q _ at) (ap (h.holds l) place ∙ holds))
  edge_turned {q = q} {i = i} {j = j} i' j' at_i at_j within within' (by_set x k at read to) =
      let one = read_stands member x h.content i h.high k read in
      by_set x (len_utf8 one.0) (edge_at nodes patterns q _ at)
      (stands_back_read h.low j size j' h.content refl within'.above at_j member x i one.0 one.1 one.2 within.above (omega (arith, to, one.3)))
      (omega (arith, at_i, at_j, to, one.3))

  -- and a backward edge is an edge
  record Unturned (p q j y i' : ℕ) : Type 0 where
    place : ℕ
    mirror : i' + place ≡ size
    node_is : y ≡ p
    edge : Within h.low h.high place → Edge (first_by member) nodes h p place q j

  abbrev passing : List ℕ → Node L S
  passing rs = pass rs

  abbrev matching : ℕ → Node L S
  matching k = match k

  module _ (p q : ℕ) (node : Node L S) (at : slice_get nodes p ≡ Some node) (leads : leads_to q node ≡ true) where
    node_back : {other : Node L S} → slice_get (back_nodes nodes patterns) (n + p) ≡ Some other → edge_back p node ≡ other
    node_back e = same_some (edge_at nodes patterns p node at) e

    only : {y : ℕ} (rs : List ℕ) (k : ℕ) → passing (p ∷ []) ≡ passing rs → slice_get rs k ≡ Some y → y ≡ p
    only [] k e got = absurd (cc got)
    only (r ∷ rs) zero e got = cc (e, got)
    only (r ∷ []) (suc k) e got = absurd (cc got)
    only (r ∷ r' ∷ rs) (suc k) e got = absurd (cc e)

    by_free : {j y : ℕ} (j' : ℕ) (rs : List ℕ) (k : ℕ) → j' + j ≡ size → (node : Node L S) → slice_get nodes p ≡ Some node → leads_to q node ≡ true → edge_back p node ≡ pass rs → slice_get rs k ≡ Some y → Unturned p q j y j'
    by_free j' rs k at_j (match m) at leads e got = absurd (cc leads)
    by_free {j = j} j' rs k at_j (pass ss) at leads e got =
        let one = one_of_has ss q leads in
        record { place = j; mirror = at_j; node_is = only rs k e got; edge = λ within. by_pass ss one.0 at one.1 }
    by_free {j = j} j' rs k at_j (note slot r) at leads e got =
        let same = eqb-true r q leads in
        record { place = j; mirror = at_j; node_is = only rs k e got; edge = λ within. by_note slot (at ∙ ap (λ z. Some (note slot z)) same) }
    by_free j' rs k at_j (look l r) at leads e got = absurd (cc e)
    by_free j' rs k at_j (set x r) at leads e got = absurd (cc e)

    no_note : (node : Node L S) (slot y : ℕ) → edge_back p node ≡ note slot y → ⊥
    no_note (match m) slot y e = cc e
    no_note (pass ss) slot y e = cc e
    no_note (note slot' r) slot y e = cc e
    no_note (look l r) slot y e = cc e
    no_note (set x r) slot y e = cc e

    by_holding : {j y : ℕ} (j' : ℕ) (l : L) → j' + j ≡ size → (node : Node L S) → slice_get nodes p ≡ Some node → leads_to q node ≡ true → edge_back p node ≡ look l y → (mirrored h).holds l j' ≡ true → Unturned p q j y j'
    by_holding j' l at_j (match m) at leads e holds = absurd (cc e)
    by_holding j' l at_j (pass ss) at leads e holds = absurd (cc e)
    by_holding j' l at_j (note slot r) at leads e holds = absurd (cc e)
    by_holding {j = j} {y = y} j' l at_j (look l' r) at leads e holds =
        let same = eqb-true r q leads in
        let which : l' ≡ l = cc e in
        let to : y ≡ p = cc e in
        let place : size - j' ≡ j = omega (arith, at_j) in
        record { place = j; mirror = at_j; node_is = to; edge = λ within. by_look l (at ∙ ap (λ z. Some (look l' z)) same ∙ ap (λ z. Some (look z q)) which) (ap (h.holds l) (sym place) ∙ holds) }
    by_holding j' l at_j (set x r) at leads e holds = absurd (cc e)

    by_reading : {j y i' : ℕ} (j' : ℕ) (x : S) (k : ℕ) → j' + j ≡ size → Within h.low h.high j → (node : Node L S) → slice_get nodes p ≡ Some node → leads_to q node ≡ true → edge_back p node ≡ set x y
        → last_by member x (drop j' (take (size - h.low) (reverse h.content))) ≡ Some k → j' + k ≡ i' → Unturned p q j y i'
    by_reading j' x k at_j within (match m) at leads e read to = absurd (cc e)
    by_reading j' x k at_j within (pass ss) at leads e read to = absurd (cc e)
    by_reading j' x k at_j within (note slot r) at leads e read to = absurd (cc e)
    by_reading j' x k at_j within (look l r) at leads e read to = absurd (cc e)
    by_reading {j = j} {y = y} j' x k at_j within (set x' r) at leads e read to =
        let same = eqb-true r q leads in
        let which : x' ≡ x = cc e in
        let onto : y ≡ p = cc e in
        let one = back_read_stands h.low j size j' h.content refl within.above at_j member x k read in
        record {
          place = j - k;
          mirror = omega (arith, at_j, to, one.4);
          node_is = onto;
          edge = λ inside. by_set x (len_utf8 one.0) (at ∙ ap (λ z. Some (set x' z)) same ∙ ap (λ z. Some (set z q)) which)
              (stands_read member x h.content (j - k) h.high one.0 one.1 one.2 (omega (arith, one.3, one.4, within.below))) (omega (arith, one.3, one.4));
        }

    edge_unturned : {j y i' : ℕ} (j' : ℕ) → j' + j ≡ size → Within h.low h.high j → Edge (last_by member) (back_nodes nodes patterns) (mirrored h) (n + p) j' y i' → Unturned p q j y i'
    edge_unturned j' at_j within (by_pass rs k is got) = by_free j' rs k at_j node at leads (node_back is) got
    edge_unturned j' at_j within (by_note {r = y} slot is) = absurd (no_note node slot y (node_back is))
    edge_unturned j' at_j within (by_look l is holds) = by_holding j' l at_j node at leads (node_back is) holds
    edge_unturned j' at_j within (by_set x k is read to) = by_reading j' x k at_j within node at leads (node_back is) read to

  -- a node of the reverse program, and the node that walks have reached
  pub data Came (x q : ℕ) : Type 0 where
    at_node : (node : Node L S) → x ≡ q → slice_get nodes q ≡ Some node → Came x q
    at_edge : (p : ℕ) (node : Node L S) → x ≡ n + p → slice_get nodes p ≡ Some node → leads_to q node ≡ true → Came x q
    at_start : (k : ℕ) → x ≡ 2 * n + k → slice_get patterns k ≡ Some q → Came x q

  -- a path from the start of pattern k
  pub record Whole (k s' t e : ℕ) : Type 0 where
    pub node : ℕ
    pub at : slice_get patterns k ≡ Some node
    pub place : ℕ
    pub mirror : s' + place ≡ size
    pub trail : Forth node place t e

  not_back : (p k : ℕ) (node : Node L S) → edge_back p node ≡ match k → ⊥
  not_back p k (match m) e = cc e
  not_back p k (pass ss) e = cc e
  not_back p k (note slot r) e = cc e
  not_back p k (look l r) e = cc e
  not_back p k (set x r) e = cc e

  ended_back : (x i' k : ℕ) → slice_get (back_nodes nodes patterns) x ≡ Some (match k) → (q j t e : ℕ) → i' + j ≡ size → Came x q → Forth q j t e → Whole k i' t e
  ended_back x i' k is q j t e mirror (at_node node same at) trail =
      absurd (cc (arrival_at nodes patterns q node at, subst (λ z. slice_get (back_nodes nodes patterns) z ≡ Some (match k)) same is))
  ended_back x i' k is q j t e mirror (at_edge p node same at leads) trail =
      absurd (not_back p k node (same_some (edge_at nodes patterns p node at) (subst (λ z. slice_get (back_nodes nodes patterns) z ≡ Some (match k)) same is)))
  ended_back x i' k is q j t e mirror (at_start k' same at) trail =
      let one : matching k' ≡ matching k = same_some (end_at nodes patterns k' q at) (subst (λ z. slice_get (back_nodes nodes patterns) z ≡ Some (match k)) same is) in
      let which : k' ≡ k = cc one in
      record { node = q; at = ap (slice_get patterns) (sym which) ∙ at; place = j; mirror = mirror; trail = trail }

  -- where a node with only epsilon transitions leads
  from_arrived : (y q d : ℕ) → slice_get (arrived nodes patterns q) d ≡ Some y → Came y q
  from_arrived y q d got = elim (in_either (those (leads_to q) n nodes) (those (λ start. start == q) (2 * n) patterns) d y got) [
    | inl first ↦ let one = those_are (leads_to q) n nodes first.0 y first.1 in at_edge one.0 one.1 one.4 one.2 one.3
    | inr second ↦ let one = those_are (λ start. start == q) (2 * n) patterns second.0 y second.1 in at_start one.0 one.4 (one.2 ∙ ap Some (eqb-true one.1 q one.3))
  ]

  abbrev Onward : ℕ → ℕ → ℕ → ℕ → Type 0
  Onward y i' k s' = (q j t e : ℕ) → i' + j ≡ size → Came y q → Forth q j t e → Whole k s' t e

  -- an edge of such a node
  from_pass : {x i' y i'' : ℕ} (rs : List ℕ) → slice_get (back_nodes nodes patterns) x ≡ Some (pass rs) → Edge (last_by member) (back_nodes nodes patterns) (mirrored h) x i' y i''
      → (d : ℕ) × (slice_get rs d ≡ Some y) × (i' ≡ i'')
  from_pass {y = y} rs is (by_pass rs' k is' got) = let same : rs' ≡ rs = cc (same_some is' is) in (k, subst (λ z. slice_get z k ≡ Some y) same got, refl)
  from_pass rs is (by_note slot is') = absurd (cc (is, is'))
  from_pass rs is (by_look l is' holds) = absurd (cc (is, is'))
  from_pass rs is (by_set x k is' read to) = absurd (cc (is, is'))

  no_edge : {x i' y i'' : ℕ} (k : ℕ) → slice_get (back_nodes nodes patterns) x ≡ Some (match k) → Edge (last_by member) (back_nodes nodes patterns) (mirrored h) x i' y i'' → ⊥
  no_edge k is (by_pass rs' k' is' got) = cc (is, is')
  no_edge k is (by_note slot is') = cc (is, is')
  no_edge k is (by_look l is' holds) = cc (is, is')
  no_edge k is (by_set x k' is' read to) = cc (is, is')

  back_trail : {x i' k s' : ℕ} → Back x i' k s' → Onward x i' k s'
  back_trail (trail_end {q = x} {i = i'} {p = k} within is) q j t e mirror came trail = ended_back x i' k is q j t e mirror came trail
  back_trail {k = k} {s' = s'} (trail_on {q = x} {i = i'} {r = y} {j = i''} within edge rest) q j t e mirror came trail = by_came (λ q j t e m c f. back_trail rest q j t e m c f) (here rest) came
    where
      by_came : Onward y i'' k s' → Within (mirrored h).low (mirrored h).high i'' → Came x q → Whole k s' t e
      by_came again inside (at_node node same at) =
          let on = from_pass (arrived nodes patterns q) (subst (λ z. slice_get (back_nodes nodes patterns) z ≡ Some (pass (arrived nodes patterns q))) (sym same) (arrival_at nodes patterns q node at)) edge in
          again q j t e (omega (arith, mirror, on.2)) (from_arrived y q on.0 on.1) trail
      by_came again inside (at_edge p node same at leads) =
          let one = edge_unturned p q node at leads i' mirror (here trail) (subst (λ z. Edge (last_by member) (back_nodes nodes patterns) (mirrored h) z i' y i'') same edge) in
          let within_there = within_forth one.place i'' one.mirror inside in
          again p one.place t e one.mirror (at_node node one.node_is at) (trail_on within_there (one.edge within_there) trail)
      by_came again inside (at_start k' same at) =
          absurd (no_edge k' (subst (λ z. slice_get (back_nodes nodes patterns) z ≡ Some (match k')) (sym same) (end_at nodes patterns k' q at)) edge)

  -- and forward: from a match end
  record Ending (k s' t e : ℕ) : Type 0 where
    node : ℕ
    at : slice_get nodes node ≡ Some (matching t)
    within : Within h.low h.high e
    trail : Back node (size - e) k s'

  forth_trail : {q i t e : ℕ} → Forth q i t e → (k s' i' : ℕ) → i' + i ≡ size → Back q i' k s' → Ending k s' t e
  forth_trail (trail_end {q = q} {i = i} within at) k s' i' mirror back =
      record { node = q; at = at; within = within; trail = subst (λ z. Back q z k s') (omega (arith, mirror)) back }
  forth_trail {q = q} {i = i} (trail_on {r = r} {j = j} within edge trail) k s' i' mirror back =
      let there = here trail in
      let from = leaves edge in
      let node = first_node trail in
      let way = those_in (leads_to r) n nodes q from.node from.at from.leads in
      let at_j : size - j + j ≡ size = omega (arith, there.below, high_in) in
      let inside = within_back j (size - j) at_j there in
      forth_trail trail k s' (size - j) at_j
      (trail_on inside (by_pass (arrived nodes patterns r) way.0 (arrival_at nodes patterns r node.0 node.1) (in_first (those (leads_to r) n nodes) _ way.0 (n + q) way.1))
      (trail_on inside (edge_turned i' (size - j) mirror at_j within there edge) back))

  begun : {q i t e : ℕ} → Forth q i t e → (k i' : ℕ) → i' + i ≡ size → slice_get patterns k ≡ Some q → Back q i' k i'
  begun {q = q} {i = i} trail k i' mirror at =
      let node = first_node trail in
      let inside = within_back i i' mirror (here trail) in
      let one = those_in (λ start. start == q) (2 * n) patterns k q at (eq-eqb q q refl) in
      let last = in_last (those (leads_to q) n nodes) (those (λ start. start == q) (2 * n) patterns) one.0 (2 * n + k) one.1 in
      trail_on inside (by_pass (arrived nodes patterns q) last.0 (arrival_at nodes patterns q node.0 node.1) last.1) (trail_end inside (end_at nodes patterns k q at))

  -- from the start nodes
  from_start : {x i' k s' : ℕ} (rs : List ℕ) → slice_get (back_nodes nodes patterns) x ≡ Some (passing rs) → Back x i' k s' → (y : ℕ) × (d : ℕ) × (slice_get rs d ≡ Some y) × Back y i' k s'
  from_start rs is (trail_end within is') = absurd (cc (is, is'))
  from_start {k = k} {s' = s'} rs is (trail_on {r = y} within edge rest) =
      let on = from_pass rs is edge in
      (y, on.0, on.1, subst (λ z. Back y z k s') (sym on.2) rest)

  match_is : (t : ℕ) (node : Node L S) → is_match_of t node ≡ true → node ≡ match t
  match_is t (match p) e = ap matching (eqb-true p t e)
  match_is t (pass rs) e = absurd (cc e)
  match_is t (note slot r) e = absurd (cc e)
  match_is t (look l r) e = absurd (cc e)
  match_is t (set x r) e = absurd (cc e)

  some_match : (node : Node L S) → is_match node ≡ true → (t : ℕ) × (node ≡ match t)
  some_match (match p) e = (p, refl)
  some_match (pass rs) e = absurd (cc e)
  some_match (note slot r) e = absurd (cc e)
  some_match (look l r) e = absurd (cc e)
  some_match (set x r) e = absurd (cc e)

  to_ending : (k q s t e : ℕ) → slice_get patterns k ≡ Some q → s ≤ size → Forth q s t e → Ending k (size - s) t e
  to_ending k q s t e at low trail = let mirror : size - s + s ≡ size = omega (arith, low) in forth_trail trail k (size - s) (size - s) mirror (begun trail k (size - s) mirror at)

  from_ending : (k s' t e x : ℕ) (test : Node L S → Bool) → test (match t) ≡ true → slice_get (back_nodes nodes patterns) x ≡ Some (passing (those test 0 nodes)) → e ≤ size → Ending k s' t e → Back x (size - e) k s'
  from_ending k s' t e x test is at high ending =
      let one = those_in test 0 nodes ending.node (match t) ending.at is in
      let node : 0 + ending.node ≡ ending.node = omega arith in
      trail_on (within_back e (size - e) (omega (arith, high)) ending.within) (by_pass (those test 0 nodes) one.0 at (one.1 ∙ ap Some node)) ending.trail

  pub forth_one : (t k q s e start : ℕ) → slice_get patterns k ≡ Some q → slice_get patterns t ≡ Some start → s ≤ size → e ≤ size → Forth q s t e → Back (back_start nodes patterns + 1 + t) (size - e) k (size - s)
  forth_one t k q s e start at at_t low high trail =
      from_ending k (size - s) t e (back_start nodes patterns + 1 + t) (is_match_of t) (eq-eqb t t refl) (start_of_at nodes patterns t start at_t) high (to_ending k q s t e at low trail)

  pub forth_any : (t k q s e : ℕ) → slice_get patterns k ≡ Some q → s ≤ size → e ≤ size → Forth q s t e → Back (back_start nodes patterns) (size - e) k (size - s)
  forth_any t k q s e at low high trail = from_ending k (size - s) t e (back_start nodes patterns) is_match refl (start_at nodes patterns) high (to_ending k q s t e at low trail)

  whole_from : (k s' e t y : ℕ) → e ≤ size → slice_get nodes y ≡ Some (matching t) → Back y (size - e) k s' → Whole k s' t e
  whole_from k s' e t y high at_y back = let mirror : size - e + e ≡ size = omega (arith, high) in
      back_trail back y e t e mirror (at_node (matching t) refl at_y) (trail_end (within_forth e (size - e) mirror (here back)) at_y)

  node_is : (y k : ℕ) (node other : Node L S) → y ≡ 0 + k → slice_get nodes k ≡ Some node → node ≡ other → slice_get nodes y ≡ Some other
  node_is y k node other at is same =
      let place : y ≡ k = omega (arith, at) in
      let here : slice_get nodes y ≡ Some node = ap (slice_get nodes) place ∙ is in
      here ∙ ap Some same

  pub back_one : (t k s' e start : ℕ) → slice_get patterns t ≡ Some start → e ≤ size → Back (back_start nodes patterns + 1 + t) (size - e) k s' → Whole k s' t e
  back_one t k s' e start at_t high back =
      let one = from_start (those (is_match_of t) 0 nodes) (start_of_at nodes patterns t start at_t) back in
      let which = those_are (is_match_of t) 0 nodes one.1 one.0 one.2 in
      whole_from k s' e t one.0 high (node_is one.0 which.0 which.1 (matching t) which.4 which.2 (match_is t which.1 which.3)) one.3

  pub back_any : (k s' e : ℕ) → e ≤ size → Back (back_start nodes patterns) (size - e) k s' → (t : ℕ) × Whole k s' t e
  back_any k s' e high back =
      let one = from_start (those is_match 0 nodes) (start_at nodes patterns) back in
      let which = those_are is_match 0 nodes one.1 one.0 one.2 in
      let some = some_match which.1 which.3 in
      (some.0, whole_from k s' e some.0 one.0 high (node_is one.0 which.0 which.1 (matching some.0) which.4 which.2 some.1) one.3)

  -- ---- what the reverse program reaches

  abbrev begin : ℕ
  begin = back_start nodes patterns

  -- edge by edge, the last one at the end
  pub data CameBy (x i' : ℕ) : ℕ → ℕ → Type 0 where
    came_here : CameBy x i' x i'
    came_on : {y j' z k' : ℕ} → CameBy x i' y j' → Within (mirrored h).low (mirrored h).high j' → Edge (last_by member) (back_nodes nodes patterns) (mirrored h) y j' z k' → CameBy x i' z k'

  pub leads_came : {q i t e : ℕ} → Forth q i t e → (i' : ℕ) → i' + i ≡ size → CameBy begin (size - e) q i'
  leads_came (trail_end {q = q} {i = i} {p = t} within at) i' mirror =
      let one = those_in is_match 0 nodes q (match t) at refl in
      let place : size - i ≡ i' = omega (arith, mirror) in
      let node : 0 + q ≡ q = omega arith in
      subst (λ z. CameBy begin z q i') (sym place)
      (came_on came_here (within_back i i' mirror within) (by_pass (those is_match 0 nodes) one.0 (start_at nodes patterns) (one.1 ∙ ap Some node)))
  leads_came (trail_on {q = q} {i = i} {r = r} {j = j} within edge trail) i' mirror =
      let there = here trail in
      let from = leaves edge in
      let node = first_node trail in
      let way = those_in (leads_to r) n nodes q from.node from.at from.leads in
      let at_j : size - j + j ≡ size = omega (arith, there.below, high_in) in
      let inside = within_back j (size - j) at_j there in
      came_on (came_on (leads_came trail (size - j) at_j) inside (by_pass (arrived nodes patterns r) way.0 (arrival_at nodes patterns r node.0 node.1) (in_first (those (leads_to r) n nodes) _ way.0 (n + q) way.1)))
      inside (edge_turned i' (size - j) mirror at_j within there edge)

  pub data Stands (e x i' : ℕ) : Type 0 where
    at_begin : x ≡ begin → i' + e ≡ size → Stands e x i'
    behind : (q j t : ℕ) → i' + j ≡ size → Came x q → Forth q j t e → Stands e x i'

  came_stands : {e x i' : ℕ} → e ≤ size → CameBy begin (size - e) x i' → Within (mirrored h).low (mirrored h).high i' → Stands e x i'
  came_stands {e = e} high came_here within = at_begin refl (omega (arith, high))
  came_stands {e = e} {x = x} high (came_on {y = y} {j' = j'} {k' = k'} before inside edge) within = by_stands (came_stands high before inside)
    where
      at_match : (d : ℕ) → slice_get (those is_match 0 nodes) d ≡ Some x → k' + e ≡ size → Stands e x k'
      at_match d got mirror =
          let which = those_are is_match 0 nodes d x got in
          let some = some_match which.1 which.3 in
          let node : slice_get nodes x ≡ Some (matching some.0) = ap (slice_get nodes) (omega (arith, which.4)) ∙ which.2 ∙ ap Some some.1 in
          behind x e some.0 mirror (at_node (matching some.0) refl node) (trail_end (within_forth e k' mirror within) node)

      by_came : (q j t : ℕ) → j' + j ≡ size → Forth q j t e → Came y q → Stands e x k'
      by_came q j t mirror trail (at_node node same at) =
          let on = from_pass (arrived nodes patterns q) (subst (λ z. slice_get (back_nodes nodes patterns) z ≡ Some (passing (arrived nodes patterns q))) (sym same) (arrival_at nodes patterns q node at)) edge in
          behind q j t (omega (arith, mirror, on.2)) (from_arrived x q on.0 on.1) trail
      by_came q j t mirror trail (at_edge p node same at leads) =
          let one = edge_unturned p q node at leads j' mirror (here trail) (subst (λ z. Edge (last_by member) (back_nodes nodes patterns) (mirrored h) z j' x k') same edge) in
          let within_there = within_forth one.place k' one.mirror within in
          behind p one.place t one.mirror (at_node node one.node_is at) (trail_on within_there (one.edge within_there) trail)
      by_came q j t mirror trail (at_start k same at) =
          absurd (no_edge k (subst (λ z. slice_get (back_nodes nodes patterns) z ≡ Some (matching k)) (sym same) (end_at nodes patterns k q at)) edge)

      by_stands : Stands e y j' → Stands e x k'
      by_stands (at_begin same mirror) =
          let on = from_pass (those is_match 0 nodes) (subst (λ z. slice_get (back_nodes nodes patterns) z ≡ Some (passing (those is_match 0 nodes))) (sym same) (start_at nodes patterns)) edge in
          at_match on.0 on.1 (omega (arith, mirror, on.2))
      by_stands (behind q j t mirror came trail) = by_came q j t mirror trail came

  pub came_leads : (q i e : ℕ) → q < n → e ≤ size → i ≤ size → Within h.low h.high i → CameBy begin (size - e) q (size - i) → (t : ℕ) × Forth q i t e
  came_leads q i e below high in_content within came = by_stands (came_stands high came (within_back i (size - i) (omega (arith, in_content)) within))
    where
      by_stands : Stands e q (size - i) → (t : ℕ) × Forth q i t e
      by_stands (at_begin same mirror) = absurd (omega (arith, same, below))
      by_stands (behind q' j t mirror (at_node node same at) trail) =
          let place : j ≡ i = omega (arith, mirror, in_content) in
          (t, subst (λ z. Forth z i t e) (sym same) (subst (λ z. Forth q' z t e) place trail))
      by_stands (behind q' j t mirror (at_edge p node same at leads) trail) = absurd (omega (arith, same, below))
      by_stands (behind q' j t mirror (at_start k same at) trail) = absurd (omega (arith, same, below))
