-- Among all matches a search finds something or nothing.
use Rattle.std.proofs.Common.{◌≡◌, ℕ, zero, suc, ◌<◌, ◌≤◌, ◌⊎◌, Bool, true, false, ◌&&◌, ◌==◌, List, [], length, Option, Some, None, slice_get, Contains, refl, sym, ap, subst, ◌∙◌, arith, inl, inr}
use Rattle.std.proofs.lemmas.Bool.{cases_lt, cases_eq, eq-eqb, eqb-true, and_parts, and_from}
use Rattle.rx_walks.specs.Machines.{Move, ends, goes, reads, Machine, Outcome, IsForward}
use Rattle.rx_walks.specs.Walks.{Walk, ended, went, took, Reaches}
use Rattle.rx_walks.specs.Finds.{Search, from_place_on, IsPossible, MayEnd, PatternMatch, CountsAmongAll, IsAtLeast, IsFindAll, none_at_all, greatest}
use Rattle.rx_walks.specs.Looks.{Look}
use Rattle.rx_walks.specs.Programs.{Program, fresh_notes, put_note, only_if, over_characters}
use Rattle.rx_walks.specs.ProgramFinds.{first_by, haystack_of, holds_in, machine_of, start_node, IfStarts, ProgramFindsAll, finds_all_on, ProgramMatchesAll}
use Rattle.rx_walks.specs.Laws.{IsDecidable}
use Rattle.rx_walks.proofs.InsideLaws.{none_there, same_goes, walk_keeps, inside_of}
use Rattle.rx_walks.proofs.ForwardLaws.{characters_forward, number_told}
use Rattle.rx_walks.proofs.ExistLaws.{IsKnown, both_known, possible_known, may_end_known, least_number, least_or_none, numbers_below, still_or_there}
use Rattle.rx_walks.proofs.MatchLaws.{matches_exist, lies_all}

-- ---- a walk to a requested end

-- the machine without the other ends
abbrev only_asked : {Q : Type 0} → (ℕ → ℕ → Bool) → ℕ → Move Q → Move Q
only_asked asks i (ends p) = only_if (asks p i) (ends p)
only_asked asks i (goes rs) = goes rs
only_asked asks i (reads r j) = reads r j

abbrev with_ends : {Q N : Type 0} → (ℕ → ℕ → Bool) → Machine Q N → Machine Q N
with_ends asks m = record { move = λ i q. only_asked asks i (m.move i q); note = m.note }

abbrev Asked : {Q N : Type 0} → (ℕ → ℕ → Bool) → Machine Q N → N → Q → ℕ → Type 0
Asked {Q} {N} asks m n q i = (cs : List ℕ) × (t : Outcome N) × Walk m [] n q i cs t × (asks t.pattern t.end ≡ true)

ends_if : {Q : Type 0} {p : ℕ} (b : Bool) (k : ℕ) → only_if {Q = Q} b (ends k) ≡ ends p → (b ≡ true) × (k ≡ p)
ends_if true k e = (refl, cc e)
ends_if false k e = absurd (cc e)

goes_if : {Q : Type 0} {r : Q} (b : Bool) (k : ℕ) (rs : List Q) (c : ℕ) → only_if b (ends k) ≡ goes rs → slice_get rs c ≡ Some r → ⊥
goes_if true k rs c e at = cc e
goes_if false k rs c e at = none_there rs c (same_goes rs [] (sym e)) at

reads_if : {Q : Type 0} {j : ℕ} {r : Q} (b : Bool) (k : ℕ) → only_if b (ends k) ≡ reads r j → ⊥
reads_if true k e = cc e
reads_if false k e = cc e

asked_ends : {Q : Type 0} {p : ℕ} (asks : ℕ → ℕ → Bool) (i : ℕ) (x : Move Q) → only_asked asks i x ≡ ends p → (x ≡ ends p) × (asks p i ≡ true)
asked_ends {Q} asks i (ends k) e = let is = ends_if {Q = Q} (asks k i) k e in (ap ends is.1, ap (λ z. asks z i) (sym is.1) ∙ is.0)
asked_ends asks i (goes rs) e = absurd (cc e)
asked_ends asks i (reads r j) e = absurd (cc e)

asked_goes : {Q : Type 0} {r : Q} (asks : ℕ → ℕ → Bool) (i : ℕ) (x : Move Q) (rs : List Q) (c : ℕ) → only_asked asks i x ≡ goes rs → slice_get rs c ≡ Some r → x ≡ goes rs
asked_goes asks i (ends k) rs c e at = absurd (goes_if (asks k i) k rs c e at)
asked_goes asks i (goes xs) rs c e at = e
asked_goes asks i (reads r j) rs c e at = absurd (cc e)

asked_reads : {Q : Type 0} {j : ℕ} {r : Q} (asks : ℕ → ℕ → Bool) (i : ℕ) (x : Move Q) → only_asked asks i x ≡ reads r j → x ≡ reads r j
asked_reads asks i (ends k) e = absurd (reads_if (asks k i) k e)
asked_reads asks i (goes xs) e = absurd (cc e)
asked_reads asks i (reads r j) e = e

walk_asked : {Q N : Type 0} {m : Machine Q N} (asks : ℕ → ℕ → Bool) {seen : List Q} {n : N} {q : Q} {i : ℕ} {cs : List ℕ} {t : Outcome N} → Walk (with_ends asks m) seen n q i cs t → Walk m seen n q i cs t × (asks t.pattern t.end ≡ true)
walk_asked {m = m} asks (ended {q = q} {i = i} new is) = let e = asked_ends asks i (m.move i q) is in (ended new e.0, e.1)
walk_asked {m = m} asks (went {q = q} {i = i} {k = c} rs r new is at w) = let on = walk_asked asks w in (went rs r new (asked_goes asks i (m.move i q) rs c is at) at on.0, on.1)
walk_asked {m = m} asks (took {q = q} {i = i} r j new is w) = let on = walk_asked asks w in (took r j new (asked_reads asks i (m.move i q) is) on.0, on.1)

asked_walk : {Q N : Type 0} {m : Machine Q N} (asks : ℕ → ℕ → Bool) {seen : List Q} {n : N} {q : Q} {i : ℕ} {cs : List ℕ} {t : Outcome N} → asks t.pattern t.end ≡ true → Walk m seen n q i cs t → Walk (with_ends asks m) seen n q i cs t
asked_walk asks is_asked (ended {i = i} {p = p} new is) = ended new (ap (only_asked asks i) is ∙ ap (λ b. only_if b (ends p)) is_asked)
asked_walk asks is_asked (went {i = i} rs r new is at w) = went rs r new (ap (only_asked asks i) is) at (asked_walk asks is_asked w)
asked_walk asks is_asked (took {i = i} r j new is w) = took r j new (ap (only_asked asks i) is) (asked_walk asks is_asked w)

asked_known : {Q N : Type 0} (m : Machine Q N) → IsDecidable Q → IsForward m → (high : ℕ) (nodes : List Q) → ((i : ℕ) (q : Q) → (m.move i q ≡ goes []) ⊎ ((i ≤ high) × Contains nodes q)) → (asks : ℕ → ℕ → Bool) (n : N) (q : Q) (i : ℕ)
    → IsKnown (Asked asks m n q i)
asked_known m told forward high nodes still asks n q i =
    let least = least_or_none (with_ends asks m) told (λ i j q r e. forward i j q r (asked_reads asks i (m.move i q) e)) high nodes
    (λ i q. elim (still i q) [ inl nothing ↦ inl (ap (only_asked asks i) nothing) | inr there ↦ inr there ]) (suc high) i (omega arith) n q in
    elim least [
      | inl one ↦ (let on = walk_asked asks one.1.walk in inl (one.1.choices, one.0, on.0, on.1))
      | inr never ↦ inr (λ one. never one.0 one.1 (asked_walk asks one.3 one.2))
    ]

-- ---- the greatest end, the least start with it, the least pattern with both

greatest_number : (P : ℕ → Type 0) → ((i : ℕ) → IsKnown (P i)) → (n : ℕ) → ((i : ℕ) × P i × ((j : ℕ) → i < j → j < n → P j → ⊥)) ⊎ ((j : ℕ) → j < n → P j → ⊥)
greatest_number P known zero = inr (λ j below. absurd (omega (arith, below)))
greatest_number P known (suc n) = elim (known n) [
  | inl here ↦ inl (n, here, (λ j above below. absurd (omega (arith, above, below))))
  | inr not ↦ elim (greatest_number P known n) [
    | inl one ↦ inl (one.0, one.1, (λ j above below is. elim (cases_eq j n) [ inl e ↦ not (subst P e is) | inr other ↦ one.2 j above (omega (arith, below, other)) is ]))
    | inr never ↦ inr (λ j below is. elim (cases_eq j n) [ inl e ↦ not (subst P e is) | inr other ↦ never j (omega (arith, below, other)) is ])
  ]
]

abbrev ends_at : ℕ → ℕ → ℕ → Bool
ends_at e p j = j == e

abbrev matches_at : ℕ → ℕ → ℕ → ℕ → Bool
matches_at e k p j = (p == k) && (j == e)

module _ {Q N : Type 0} (m : Machine Q N) (fresh : ℕ → N) (s : Search) (q : Q) (asked : (asks : ℕ → ℕ → Bool) (i : ℕ) → IsKnown (Asked asks m (fresh i) q i))
    (inside : (i : ℕ) (cs : List ℕ) (t : Outcome N) → Walk m [] (fresh i) q i cs t → t.end ≤ length s.content) where
  -- a match from this start to this end counts
  abbrev EndCounts : ℕ → ℕ → Type 0
  EndCounts e i = (IsPossible s i × MayEnd s i e) × Asked (ends_at e) m (fresh i) q i

  abbrev SomeCounts : ℕ → Type 0
  SomeCounts e = (i : ℕ) × EndCounts e i

  end_known : (e i : ℕ) → IsKnown (EndCounts e i)
  end_known e i = both_known (both_known (possible_known s i) (may_end_known s i e)) (asked (ends_at e) i)

  least_start : (e : ℕ) → ((i : ℕ) × EndCounts e i × ((j : ℕ) → j < i → EndCounts e j → ⊥)) ⊎ (SomeCounts e → ⊥)
  least_start e = elim (least_number (EndCounts e) (end_known e) (suc (length s.content))) [
    | inl one ↦ inl one
    | inr never ↦ inr (λ some. never some.0 (omega (arith, some.1.0.0.0.4)) some.1)
  ]

  some_known : (e : ℕ) → IsKnown (SomeCounts e)
  some_known e = elim (least_start e) [ inl one ↦ inl (one.0, one.1) | inr never ↦ inr never ]

  counts_some : (b : PatternMatch) → CountsAmongAll m fresh s q b → EndCounts b.end b.start
  counts_some b counts = let r = counts.reaches in ((counts.possible, counts.may_end), (r.choices, r.outcome, r.walk, eq-eqb r.outcome.end b.end r.end_is))

  counts_match : (b : PatternMatch) → CountsAmongAll m fresh s q b → Asked (matches_at b.end b.pattern) m (fresh b.start) q b.start
  counts_match b counts = let r = counts.reaches in (r.choices, r.outcome, r.walk, and_from (r.outcome.pattern == b.pattern) (r.outcome.end == b.end) (eq-eqb r.outcome.pattern b.pattern r.pattern_is) (eq-eqb r.outcome.end b.end r.end_is))

  counts_inside : (b : PatternMatch) → CountsAmongAll m fresh s q b → b.end < suc (length s.content)
  counts_inside b counts = let r = counts.reaches in omega (arith, inside b.start r.choices r.outcome r.walk, r.end_is)

  asked_reaches : (i p e : ℕ) → Asked (matches_at e p) m (fresh i) q i → Reaches m [] (fresh i) q i p e
  asked_reaches i p e a =
      let both = and_parts (a.1.pattern == p) (a.1.end == e) a.3 in
      record { choices = a.0; outcome = a.1; walk = a.2; pattern_is = eqb-true a.1.pattern p both.0; end_is = eqb-true a.1.end e both.1 }

  at_least : (i p e : ℕ) → ((j : ℕ) → e < j → j < suc (length s.content) → SomeCounts j → ⊥) → ((j : ℕ) → j < i → EndCounts e j → ⊥) → ((k : ℕ) → k < p → Asked (matches_at e k) m (fresh i) q i → ⊥)
      → (b : PatternMatch) → CountsAmongAll m fresh s q b → IsAtLeast (record { start = i; pattern = p; end = e }) b
  at_least i p e no_later no_earlier no_lower b counts = record {
    by_end = elim (cases_lt e b.end) [ inl above ↦ absurd (no_later b.end above (counts_inside b counts) (b.start, counts_some b counts)) | inr within ↦ within ];
    by_start = λ end. elim (cases_lt b.start i) [ inl below ↦ absurd (no_earlier b.start below (subst (λ x. EndCounts x b.start) end (counts_some b counts))) | inr within ↦ within ];
    by_pattern = λ end start. elim (cases_lt b.pattern p) [
      | inl below ↦ absurd (no_lower b.pattern below (subst (λ x. Asked (matches_at e b.pattern) m (fresh x) q x) start (subst (λ x. Asked (matches_at x b.pattern) m (fresh b.start) q b.start) end (counts_match b counts))))
      | inr within ↦ within
    ];
  }

  least_pattern : (i e : ℕ) → Asked (ends_at e) m (fresh i) q i → (p : ℕ) × Asked (matches_at e p) m (fresh i) q i × ((k : ℕ) → k < p → Asked (matches_at e k) m (fresh i) q i → ⊥)
  least_pattern i e a = elim (least_number (λ p. Asked (matches_at e p) m (fresh i) q i) (λ p. asked (matches_at e p) i) (suc a.1.pattern)) [
    | inl one ↦ one
    | inr never ↦ absurd (never a.1.pattern (omega arith) (a.0, a.1, a.2, and_from (a.1.pattern == a.1.pattern) (a.1.end == e) (eq-eqb a.1.pattern a.1.pattern refl) a.3))
  ]

  pub find_all_exists : (out : Option PatternMatch) × IsFindAll m fresh s q out
  find_all_exists = elim (greatest_number SomeCounts some_known (suc (length s.content))) [
    | inr never ↦ (None, none_at_all (λ a counts. never a.end (counts_inside a counts) (a.start, counts_some a counts)))
    | inl last ↦ elim (least_start last.0) [
      | inr never ↦ absurd (never last.1)
      | inl one ↦ (let which = least_pattern one.0 last.0 one.1.1 in (
        Some (record { start = one.0; pattern = which.0; end = last.0 }),
        greatest (record { possible = one.1.0.0; reaches = asked_reaches one.0 which.0 last.0 which.1; may_end = one.1.0.1 }) (at_least one.0 which.0 last.0 last.2 one.2 which.2),
      ))
    ]
  ]

module _ {S : Type 0} (member : S → ℕ → Bool) (is_word : ℕ → Bool) (p : Program Look S) where
  pub program_find_all_exists : (s : Search) → (out : Option PatternMatch) × ProgramFindsAll member is_word p s out
  program_find_all_exists s = from_node (start_node p s.anchoring)
    where
      from_node : (o : Option ℕ) → (out : Option PatternMatch) × IfStarts o (IsFindAll (machine_of member is_word p s) fresh_notes s) out
      from_node None = (None, refl)
      from_node (Some q) =
          let h = haystack_of (holds_in is_word p.line_terminator s) s in
          find_all_exists (machine_of member is_word p s) fresh_notes s q
          (λ asks i. asked_known (over_characters put_note (first_by member) p.nodes h) number_told (characters_forward put_note member p.nodes h) h.high (numbers_below (length p.nodes)) (still_or_there put_note member p.nodes h) asks (fresh_notes i) q i)
          (λ i cs t w. (inside_of s t.end (walk_keeps member is_word p s w).inside).4)

  pub program_matches_all_exist : (s : Search) → (ms : List PatternMatch) × ProgramMatchesAll member is_word p s ms
  program_matches_all_exist s =
      matches_exist (finds_all_on (ProgramFindsAll member is_word p) s) (λ i. program_find_all_exists (from_place_on s i)) (length s.content) (lies_all member is_word p s) s.start
